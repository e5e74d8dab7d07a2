-- Where a sequential program stands after a list of guesses.
use Rattle.std.specs.Prelude.{◌≡◌, ℕ, ◌≤◌, List, ◌++◌}
use Rattle.kinds.specs.Meaning.{Meaning}
use Rattle.tables.specs.Program.{Program}
use Rattle.tables.specs.WellFormed.{WellFormed}
use Rattle.walks.specs.declared.outcome.Outcome.TheVariants.{Open}
use Rattle.sequences.specs.declared.point.SeqPoint.{SeqPoint}
use Rattle.sequences.specs.declared.sequence.Sequence.{Sequence}
use Rattle.sequences.specs.Drives.{drive_from}
use Rattle.sequences.specs.Sequences.{Holds, instructions, drives_so}

-- It is the translation of a program that exists, over so many rounds.
pub record Ready {V : Type 0} (k : Meaning) (s : Sequence V) : Type 0 where
  pub program : Program
  pub rounds : ℕ
  pub exists : WellFormed k program
  pub some : 1 ≤ rounds
  pub few : rounds ≤ 8
  pub holds : Holds s program rounds

-- The point is at the GUESS that waits after the list l: whatever numbers follow, the run goes on from there.
pub record Follows {V : Type 0} (k : Meaning) (s : Sequence V) (at : SeqPoint) (l : List ℕ) : Type 0 where
  pub bound : ℕ
  pub on : (ns : List ℕ) → (drives_so k s (l ++ ns)).outcome ≡ (drive_from k (instructions s) (Open bound) at ns).outcome
