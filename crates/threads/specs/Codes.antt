-- Which states hold only lawful codes.
use Rattle.std.specs.List.{AllByRecursion}
use Rattle.kinds.specs.Meaning.{Meaning}
use Rattle.states.specs.declared.entries.ThreadEntry.{ThreadEntry}
use Rattle.states.specs.declared.state.State.{State}
use Rattle.states.specs.Codes.{LawfulCodes}

abbrev pub LawfulEntry : Meaning → ThreadEntry → Type 0
LawfulEntry k e = LawfulCodes k e.locals

pub record LawfulState (k : Meaning) (s : State) : Type 0 where
  pub cells : LawfulCodes k s.cells
  pub locals : AllByRecursion (LawfulEntry k) s.threads.entries
