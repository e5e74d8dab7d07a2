-- Worked cases of Play.
use Rattle.std.specs.Prelude.{◌≡◌, List, [], ◌∷◌, ℕ}
use Rattle.kinds.specs.Words.{words}
use Rattle.tables.specs.Program.{Program}
use Rattle.threads.specs.Plays.{play, cells_of}
use Rattle.walks.specs.declared.outcome.Ending.TheVariants.{Failed, Cut, Full}
use Rattle.walks.specs.declared.outcome.Outcome.{Outcome}
use Rattle.walks.specs.declared.outcome.Outcome.TheVariants.{Open, Ended}
use Rattle.cases.specs.Tables.{p, q}

-- a schedule over so many rounds has this outcome and these slot counts, and leaves these cells
abbrev pub Plays : Program → ℕ → List ℕ → Outcome → List ℕ → List ℕ → Type 0
Plays t k ns o counts cells =
    ((play words t k ns).outcome ≡ o) × ((play words t k ns).counts ≡ counts) × (cells_of t (play words t k ns).state ≡ cells)

abbrev pub PlayCases : Type 0
PlayCases =
    Plays p 1 [] (Open 2) [] (1 ∷ [])
    × Plays p 1 (0 ∷ []) (Ended Full) (0 ∷ []) (1 ∷ [])
    × Plays p 1 (2 ∷ []) (Open 1) (2 ∷ []) (0 ∷ [])
    × Plays p 1 (3 ∷ []) (Ended Cut) (0 ∷ []) (1 ∷ [])
    × Plays p 1 (2 ∷ 1 ∷ []) (Ended Failed) (2 ∷ 1 ∷ []) (0 ∷ [])
    × Plays p 2 (1 ∷ 0 ∷ 1 ∷ 1 ∷ []) (Ended Failed) (1 ∷ 0 ∷ 1 ∷ 1 ∷ []) (0 ∷ [])
    × Plays q 1 (1 ∷ []) (Ended Full) (1 ∷ []) (0 ∷ [])
    × Plays q 1 (2 ∷ []) (Ended Failed) (2 ∷ []) (0 ∷ [])
    × Plays q 1 (3 ∷ []) (Ended Failed) (2 ∷ []) (0 ∷ [])
