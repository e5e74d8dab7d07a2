-- What Quick answers and writes.
use Rattle.std.specs.Prelude.{◌≡◌, ℕ, cond, ◌⊎◌, List, length, Ok, Err, Result, nat_le}
use Rattle.kinds.specs.Meaning.{Meaning}
use Rattle.agreement.specs.Agreement.{guessed}
use Rattle.hosts.specs.declared.problem.Problem.{Problem}
use Rattle.hosts.specs.declared.problem.Problem.TheVariants.{Memory, File, Call}
use Rattle.hosts.specs.Knowns.{kind_of}
use Rattle.hosts.specs.Tolds.{told}
use Rattle.walks.specs.declared.counts.Counts.{Counts}
use Rattle.reports.specs.Counts.{yes_or, walk_answer}
use Rattle.jobs.specs.Models.{rounds_no}
use Rattle.questions.specs.Answer.{Answer}
use Rattle.questions.specs.Question.{question}
use Rattle.records.specs.declared.refusal.Refusal.{Refusal}
use Rattle.tables.specs.Program.{decoded}

abbrev pub after_load : Answer → Result Counts Problem → Result Counts Problem
after_load (Ok u) r = r
after_load (Err e) r = Err (File e)

abbrev pub after_rounds : Result (Unit {0}) Refusal → Result Counts Problem → Result Counts Problem
after_rounds (Ok u) r = r
after_rounds (Err e) r = Err (Call e)

abbrev pub after_walk : Result Counts Refusal → Result Counts Problem
after_walk (Ok c) = Ok c
after_walk (Err e) = Err (Call e)

-- the counts of the first b guess lists of a file's program, or the first no of Load, Translate and Walk
unfoldable pub counts_of : Meaning → List ℕ → (rounds b : ℕ) → Result Counts Problem
counts_of k f rounds b = after_load (question k f) (after_rounds (yes_or (rounds_no rounds)) (after_walk (walk_answer (guessed k (decoded f) rounds) 0 b)))

-- an answer, or that there is no memory for a job
abbrev pub UnlessMemory : (answer wanted : Result Counts Problem) → Type 0
UnlessMemory answer wanted = (answer ≡ Err Memory) ⊎ (answer ≡ wanted)

-- Quick: the buffer is asked for first; or there is no memory for a job, and nothing is written.
abbrev pub Quick : (f : List ℕ) (rounds b r : ℕ) (new old : List ℕ) → Type 0
Quick f rounds b r new old =
    cond (nat_le 12 (length old)) (((r ≡ 99) × (new ≡ old)) ⊎ told r new old (counts_of (kind_of f) f rounds b)) ((r ≡ 47) × (new ≡ old))
