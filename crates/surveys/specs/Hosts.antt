-- Survey from the bytes of a file to its totals.
use Rattle.std.specs.Prelude.{◌≡◌, ℕ, cond, List, length, Ok, Err, Result, nat_le}
use Rattle.hosts.specs.Knowns.{kind_of}
use Rattle.hosts.specs.Tolds.{told}
use Rattle.kinds.specs.Meaning.{Meaning}
use Rattle.questions.specs.Answer.{accepted}
use Rattle.questions.specs.Question.{question}
use Rattle.tables.specs.Program.{decoded}
use Rattle.threads.specs.Machines.{rounds_asked}
use Rattle.threads.specs.Plays.{play}
use Rattle.walks.specs.declared.counts.Counts.{Counts}
use Rattle.hosts.specs.declared.problem.Problem.{Problem}
use Rattle.hosts.specs.declared.problem.Problem.TheVariants.{Memory, File, Call}
use Rattle.surveys.specs.Totals.{totals_of}

-- the totals of the first b schedules of a file's program, or why there are none
abbrev pub Counted : Meaning → List ℕ → ℕ → ℕ → Result Counts Problem → Type 0
Counted k f rounds b (Ok s) = (question k f ≡ accepted) × (rounds_asked rounds ≡ Ok tt) × (s ≡ totals_of (λ ns. (play k (decoded f) rounds ns).outcome) b)
Counted k f rounds b (Err Memory) = Unit {0}
Counted k f rounds b (Err (File e)) = question k f ≡ Err e
Counted k f rounds b (Err (Call e)) = (question k f ≡ accepted) × (rounds_asked rounds ≡ Err e)

-- Survey: the buffer is asked for first; then the totals of a file of the kind that it names are told, or why there are none.
abbrev pub Survey : (f : List ℕ) (rounds b r : ℕ) (new old : List ℕ) → Type 0
Survey f rounds b r new old =
    cond (nat_le 12 (length old)) ((a : Result Counts Problem) × Counted (kind_of f) f rounds b a × told r new old a) ((r ≡ 47) × (new ≡ old))
