-- Worked cases of the translation and of Drive.
use Rattle.std.specs.Prelude.{◌≡◌, List, [], ◌∷◌, ℕ}
use Rattle.kinds.specs.Words.{words}
use Rattle.records.specs.declared.statement.Place.TheVariants.{Shared}
use Rattle.tables.specs.Program.{Program}
use Rattle.walks.specs.declared.outcome.Ending.TheVariants.{Failed, Cut, Full}
use Rattle.walks.specs.declared.outcome.Outcome.{Outcome}
use Rattle.walks.specs.declared.outcome.Outcome.TheVariants.{Open, Ended}
use Rattle.sequences.specs.declared.instruction.Instruction.TheVariants as op
use Rattle.sequences.specs.Code.{section, driver, at, label, thread}
use Rattle.sequences.specs.Drives.{drive}
use Rattle.cases.specs.Tables.{p, q}

-- the section and the driver of Q, with one round
abbrev pub Translated : Type 0
Translated =
    (section q 0 ≡ op.Hop (thread 0) (label 0) (at 2) ∷ op.Branch (Shared 0) (at 4) ∷ op.Hop (thread 0) (label 1) (at 5) ∷ op.Set (Shared 0) 5 ∷ op.Guard (label 2) ∷ op.Hop (thread 0) (label 2) (at 7) ∷ op.Assert (Shared 0) ∷ op.Return ∷ [])
    × (driver q 1 ≡ op.Slot (thread 0) (at 4) ∷ op.Guess (thread 0) 3 ∷ op.Call (thread 0) ∷ op.Save (thread 0) ∷ op.End ∷ [])

-- a guess list over so many rounds has this outcome and these slot counts
abbrev pub Drives : Program → ℕ → List ℕ → Outcome → List ℕ → Type 0
Drives t k ns o counts = ((drive words t k ns).outcome ≡ o) × ((drive words t k ns).counts ≡ counts)

abbrev pub DriveCases : Type 0
DriveCases =
    Drives p 1 (2 ∷ 1 ∷ []) (Ended Failed) (2 ∷ 1 ∷ [])
    × Drives p 1 (2 ∷ []) (Open 1) (2 ∷ [])
    × Drives p 1 (3 ∷ []) (Ended Cut) (0 ∷ [])
    × Drives q 1 (1 ∷ []) (Ended Cut) (1 ∷ [])
    × Drives q 1 (2 ∷ []) (Ended Full) (1 ∷ [])
    × Drives q 1 (3 ∷ []) (Ended Failed) (2 ∷ [])
