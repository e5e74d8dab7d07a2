-- The rules of slots, for any way to serve a slot and any bound.
use Rattle.std.specs.Prelude.{◌≡◌, ℕ, true, false, cond, List, [], ◌∷◌}
use Rattle.std.proofs.Math.Path.{refl, ap}
use Rattle.states.specs.declared.state.State.{State}
use Rattle.states.specs.States.{created}
use Rattle.walks.specs.declared.outcome.Ending.TheVariants.{Full}
use Rattle.walks.specs.declared.outcome.Outcome.TheVariants.{Open, Ended}
use Rattle.threads.specs.Plays.{played, served_by, rounds_by}
use Rattle.threads.specs.Slots.{Ran}

module _ (way : ℕ → State → ℕ → Ran) (top : State → ℕ → ℕ) where
  module _ (i : ℕ) (rest : List ℕ) (s : State) (m : List ℕ) where
    pub slot_skipped : created s i ≡ false → rounds_by way top (i ∷ rest) s m ≡ rounds_by way top rest s m
    unfolding rounds_by
    slot_skipped e = ap (λ b. cond b (served_by way top i s (rounds_by way top rest) m) (rounds_by way top rest s m)) e

    pub slot_served : created s i ≡ true → rounds_by way top (i ∷ rest) s m ≡ served_by way top i s (rounds_by way top rest) m
    unfolding rounds_by
    slot_served e = ap (λ b. cond b (served_by way top i s (rounds_by way top rest) m) (rounds_by way top rest s m)) e

  -- behind the last slot
  pub none_full : (s : State) (m : List ℕ) → rounds_by way top [] s m ≡ played (Ended Full) [] s
  unfolding rounds_by
  none_full s m = refl

  pub no_counts : (rest : List ℕ) (s : State) → (rounds_by way top rest s []).counts ≡ []
  unfolding rounds_by
  no_counts [] s = refl
  no_counts (i ∷ rest) s =
      elim (created s i) as (λ b. (cond b (played (Open (top s i)) [] s) (rounds_by way top rest s [])).counts ≡ []) [ true ↦ refl | false ↦ no_counts rest s ]

-- with no number left two ways with one bound come to the same
pub none_left : (way₁ way₂ : ℕ → State → ℕ → Ran) (top : State → ℕ → ℕ) (rest : List ℕ) (s : State) → rounds_by way₁ top rest s [] ≡ rounds_by way₂ top rest s []
unfolding rounds_by
none_left way₁ way₂ top [] s = refl
none_left way₁ way₂ top (i ∷ rest) s = ap (cond (created s i) (played (Open (top s i)) [] s)) (none_left way₁ way₂ top rest s)
