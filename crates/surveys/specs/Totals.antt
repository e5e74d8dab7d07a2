-- The totals of the first leaves of a runner.
use Rattle.std.specs.Prelude.{ℕ, min, List, length}
use Rattle.reports.specs.Counts.{counts_at}
use Rattle.walks.specs.declared.counts.Counts.{Counts}
use Rattle.walks.specs.declared.outcome.Outcome.{Outcome}
use Rattle.walks.specs.Leaves.{leaves}

-- how many leaves are visited of those that there are
abbrev pub visits : (List ℕ → Outcome) → ℕ → ℕ
visits out b = min b (length (leaves out))

-- what a survey of the first b leaves answers, or of all
abbrev pub totals_of : (List ℕ → Outcome) → ℕ → Counts
totals_of out b = counts_at out (visits out b)
