-- What a list of numbers comes to, in the words that both machines have.
use Rattle.std.specs.Prelude.{ℕ, List}
use Rattle.kinds.specs.Meaning.{Meaning}
use Rattle.tables.specs.Program.{Program}
use Rattle.walks.specs.declared.outcome.Outcome.{Outcome}
use Rattle.threads.specs.Plays as plays
use Rattle.threads.specs.Plays.{Played, play}
use Rattle.sequences.specs.Drives as drives
use Rattle.sequences.specs.Drives.{Driven, drive}
use Rattle.guesses.specs.Paces.{paced}

-- its outcome, a slot count for each number that was read, and what the program's cells then hold
pub record Answer : Type 0 where
  pub outcome : Outcome
  pub counts : List ℕ
  pub cells : List ℕ

abbrev pub played_so : Program → Played → Answer
played_so p r = record { outcome = r.outcome; counts = r.counts; cells = plays.cells_of p r.state }

abbrev pub driven_so : Program → Driven → Answer
driven_so p r = record { outcome = r.outcome; counts = r.counts; cells = drives.cells_of p r.state }

-- by the thread machine, by the layer between, and by the sequential program
abbrev pub play_answer : Meaning → Program → ℕ → List ℕ → Answer
play_answer k p rounds l = played_so p (play k p rounds l)

abbrev pub pace_answer : Meaning → Program → ℕ → List ℕ → Answer
pace_answer k p rounds l = played_so p (paced k p rounds l)

abbrev pub drive_answer : Meaning → Program → ℕ → List ℕ → Answer
drive_answer k p rounds l = driven_so p (drive k p rounds l)
