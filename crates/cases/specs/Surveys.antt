-- Worked cases of Survey: how many leaves of the thread machine fail, are cut and are full.
use Rattle.std.specs.Prelude.{◌≡◌, List, ℕ}
use Rattle.kinds.specs.Words.{words}
use Rattle.tables.specs.Program.{Program}
use Rattle.threads.specs.Plays.{play}
use Rattle.walks.specs.declared.outcome.Outcome.{Outcome}
use Rattle.walks.specs.Leaves.{leaves}
use Rattle.walks.specs.Tallies.{fails, cuts, fills, count}
use Rattle.cases.specs.Tables.{p, q}

-- what a schedule of so many rounds comes to
abbrev pub plays : Program → ℕ → List ℕ → Outcome
plays t k ns = (play words t k ns).outcome

abbrev pub Surveys : Program → ℕ → ℕ → ℕ → ℕ → Type 0
Surveys t k failed cut full =
    (count fails (plays t k) (leaves (plays t k)) ≡ failed) × (count cuts (plays t k) (leaves (plays t k)) ≡ cut) × (count fills (plays t k) (leaves (plays t k)) ≡ full)

abbrev pub SurveyCases : Type 0
SurveyCases = Surveys p 1 1 0 4 × Surveys p 2 4 0 10 × Surveys q 1 1 0 2 × Surveys q 2 3 0 3
