-- What a thread does in its slot.
use Rattle.std.specs.Prelude.{ℕ, zero, suc, ◌+◌, Some, None, Option, Ok, Err}
use Rattle.kinds.specs.Meaning.{Meaning}
use Rattle.records.specs.declared.statement.Thread.{Thread}
use Rattle.tables.specs.Program.{Program}
use Rattle.threads.specs.declared.slot.Slot.{Slot}
use Rattle.reports.specs.Stops.{End}
use Rattle.reports.specs.declared.stop.Stop.{Stop}
use Rattle.states.specs.declared.state.State.{State}
use Rattle.reports.specs.declared.stop.Stop.TheVariants.{Failed, Cut}
use Rattle.threads.specs.Effects.{next}
use Rattle.threads.specs.Steps.{progress, after}

-- how a slot ended, and the state that it left
pub record Ran : Type 0 where
  pub slot : Slot
  pub state : State

abbrev pub ran : Slot → State → Ran
ran x s = record { slot = x; state = s }

abbrev pub slot_of : End → ℕ → Slot
slot_of e d = record { end = e; count = record { 0 = d } }

-- how many statements a slot has that is stopped after d others; a failing statement counts
abbrev pub counted : Stop → ℕ → ℕ
counted Failed d = d + 1
counted Cut d = d

-- the slot that a statement ends which came out so, after d others
abbrev pub stops : End → ℕ → Option Slot
stops (Ok _) d = None
stops (Err e) d = Some (slot_of (Err e) (counted e d))

-- a slot that is over with the state s, or what the rest of it makes
abbrev pub unless_stopped : State → Ran → Option Slot → Ran
unless_stopped s more None = more
unless_stopped s more (Some x) = ran x s

-- thread i carries out n more statements, after d in this slot
unfoldable pub run : Meaning → Program → Thread → ℕ → ℕ → State → Ran
run k p i zero d s = ran (slot_of (Ok tt) d) s
run k p i (suc n) d s =
    let e = next k p i s in
    let s' = after i e s in
    unless_stopped s' (run k p i n (d + 1) s') (stops (progress e) d)
