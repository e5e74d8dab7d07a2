-- Worked cases of Walk: the same counts of the sequential program's leaves.
use Rattle.std.specs.Prelude.{◌≡◌, List, ℕ}
use Rattle.kinds.specs.Words.{words}
use Rattle.tables.specs.Program.{Program}
use Rattle.sequences.specs.Drives.{drive}
use Rattle.walks.specs.declared.outcome.Outcome.{Outcome}
use Rattle.walks.specs.Leaves.{leaves}
use Rattle.walks.specs.Tallies.{fails, cuts, fills, count}
use Rattle.cases.specs.Tables.{p, q}

-- what a guess list of so many rounds comes to
abbrev pub drives : Program → ℕ → List ℕ → Outcome
drives t k ns = (drive words t k ns).outcome

abbrev pub Walks : Program → ℕ → ℕ → ℕ → ℕ → Type 0
Walks t k failed cut full =
    (count fails (drives t k) (leaves (drives t k)) ≡ failed) × (count cuts (drives t k) (leaves (drives t k)) ≡ cut) × (count fills (drives t k) (leaves (drives t k)) ≡ full)

abbrev pub WalkCases : Type 0
WalkCases = Walks p 1 1 0 4 × Walks p 2 4 0 10 × Walks q 1 1 1 2 × Walks q 2 3 2 3
