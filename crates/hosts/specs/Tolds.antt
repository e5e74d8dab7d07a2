-- What a host program is told.
use Rattle.std.specs.Prelude.{◌≡◌, ℕ, cond, List, ◌++◌, length, Ok, Err, Result, nat_le}
use Rattle.records.specs.Rows.{four}
use Rattle.reports.specs.Reports.{front}
use Rattle.walks.specs.declared.counts.Counts.{Counts}
use Rattle.walks.specs.declared.walk.Answer.{Answer}
use Rattle.walks.specs.declared.walk.Answer.TheVariants.{Done, Spent}
use Rattle.hosts.specs.declared.problem.Problem.{Problem}
use Rattle.hosts.specs.Problems.{problem_number}

-- failed, cut and full, four bytes each
abbrev pub twelve : Counts → List ℕ
twelve c = four c.failed ++ (four c.cut ++ four c.full)

abbrev pub answer_number : Answer → ℕ
answer_number Done = 0
answer_number Spent = 1

-- the number r is answered, and the buffer is `new` that was `old`
abbrev pub told : (r : ℕ) (new old : List ℕ) → Result Counts Problem → Type 0
told r new old (Ok c) = (r ≡ answer_number c.answer) × (new ≡ front (twelve c) old)
told r new old (Err e) = (r ≡ problem_number e) × (new ≡ old)

-- The buffer is asked for first; then what was counted is told, of which P holds.
abbrev pub Told : (P : Result Counts Problem → Type 0) → (r : ℕ) (new old : List ℕ) → Type 0
Told P r new old = cond (nat_le 12 (length old)) ((a : Result Counts Problem) × P a × told r new old a) ((r ≡ 47) × (new ≡ old))
