-- What look finds out before it prints anything.
use Rattle.std.specs.Prelude.{◌≡◌, ℕ, ◌≤◌, List, length, replicate, Ok, vec_len, Result}
use Rattle.kinds.specs.Meaning.{Meaning}
use Rattle.questions.specs.Answer.{accepted}
use Rattle.questions.specs.Question.{question}
use Rattle.records.specs.declared.refusal.Refusal.{Refusal}
use Rattle.tables.specs.Program.{Program}
use Rattle.threads.specs.Machines.{rounds_asked}
use Rattle.threads.specs.Plays.{Played, play, cells_of}
use Rattle.reports.specs.Reports.{front, refusal, answered}
use Rattle.threads.specs.Reports.{reported}
use Rattle.look.specs.declared.request.Task.{Task}
use Rattle.look.specs.declared.request.Task.TheVariants.{Play, Survey}
use Rattle.look.specs.declared.sight.Run.{Run}

-- the answer of Play, with the buffers that look lends it
abbrev pub ran : Program → Played → Run
ran p r = record { report = reported r; counts = front r.counts (replicate 64 0); cells = front (cells_of p r.state) (replicate 16 0) }

abbrev pub run_answer : Meaning → Program → ℕ → List ℕ → Result Run Refusal
run_answer k p rounds ns = answered (refusal ns (replicate 64 0) (replicate 16 0) (length p.cells)) (ran p (play k p rounds ns))

-- a schedule is not too long
abbrev pub Short : Task → Type 0
Short (Play numbers) = vec_len numbers ≤ 64
Short (Survey most) = Unit {0}

-- a file, a number of rounds and a task that nothing was to be refused of
abbrev pub Shown : Meaning → List ℕ → ℕ → Task → Type 0
Shown k f rounds task = (question k f ≡ accepted) × (rounds_asked rounds ≡ Ok tt) × Short task
