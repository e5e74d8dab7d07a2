-- The laws of a runner's outcomes, and what a step says.
use Rattle.std.specs.Prelude.{◌≡◌, ℕ, ◌<◌, ◌≤◌, List, [], ◌∷◌, ◌++◌, length}
use Rattle.walks.specs.declared.outcome.Ending.TheVariants.{Failed, Cut}
use Rattle.walks.specs.declared.outcome.Outcome.{Outcome}
use Rattle.walks.specs.declared.outcome.Outcome.TheVariants.{Open, Ended}
use Rattle.walks.specs.Outcomes.{IsOpen}

pub record Lawful (out : List ℕ → Outcome) : Type 0 where
  -- a list that ended keeps its outcome when numbers follow
  pub ended : (l m : List ℕ) → (IsOpen (out l) → ⊥) → out (l ++ m) ≡ out l
  pub bounded : (l : List ℕ) (b : ℕ) → out l ≡ Open b → b ≤ 255
  pub above : (l : List ℕ) (b n : ℕ) → out l ≡ Open b → b < n → out (l ++ n ∷ []) ≡ Ended Cut
  -- a number that fails fails with every greater one
  pub fails : (l : List ℕ) (b n m : ℕ) → out l ≡ Open b → out (l ++ n ∷ []) ≡ Ended Failed → n ≤ m → m ≤ b → out (l ++ m ∷ []) ≡ Ended Failed
  pub start : IsOpen (out [])
  pub short : (l : List ℕ) → length l ≡ 64 → IsOpen (out l) → ⊥

-- a step that completes the list s answers o and leaves the point p
abbrev pub Landed : {P : Type 0} (out : List ℕ → Outcome) (stands : P → List ℕ → Type 0) (s : List ℕ) → Outcome → P → Type 0
Landed out stands s o p = (out s ≡ o) × (IsOpen o → stands p s)
