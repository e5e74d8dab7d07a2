-- One more slot of a search for the next that exists.
use Rattle.std.specs.Prelude.{◌≡◌, ℕ, zero, suc, ◌+◌, ◌-◌, ◌%◌, ◌<◌, ◌≤◌, true, false, cond, Some, None, Option, MatchOption, unwrap_or}
use Rattle.std.proofs.Math.Path.{ap}
use Rattle.std.proofs.Common.{sym, ◌∙◌}
use native.Mathlib.Omega.{arith}
use Rattle.tables.specs.Program.{Program}
use Rattle.states.specs.declared.state.State.{State}
use Rattle.states.specs.States.{created}
use Rattle.threads.specs.Turns.{width, seek}

module _ (p : Program) (s : State) (n q : ℕ) where
  seek_more : q < n → seek p s (n - q) q ≡ cond (created s (q % width p)) q (seek p s (n - (q + 1)) (q + 1))
  unfolding seek
  seek_more h =
      let e : n - q ≡ suc (n - (q + 1)) = omega arith in
      ap (λ m. seek p s m q) e

  pub seek_found : q < n → created s (q % width p) ≡ true → seek p s (n - q) q ≡ q
  seek_found h e = seek_more h ∙ ap (λ b. cond b q (seek p s (n - (q + 1)) (q + 1))) e

  pub seek_past : q < n → created s (q % width p) ≡ false → seek p s (n - q) q ≡ seek p s (n - (q + 1)) (q + 1)
  seek_past h e = seek_more h ∙ ap (λ b. cond b q (seek p s (n - (q + 1)) (q + 1))) e

  pub seek_none : n ≤ q → seek p s (n - q) q ≡ q
  unfolding seek
  seek_none h =
      let e : n - q ≡ 0 = omega arith in
      ap (λ m. seek p s m q) e

module _ (p : Program) (s : State) (n : ℕ) where
  -- the slots from q up to i do not exist
  abbrev NoneBetween : ℕ → ℕ → Type 0
  NoneBetween q i = (k : ℕ) → q ≤ k → k < i → created s (k % width p) ≡ false

  passed : (m q i : ℕ) → m + q ≡ i → i ≤ n → NoneBetween q i → seek p s (n - q) q ≡ seek p s (n - i) i
  passed zero q i e le none = let z : q ≡ i = omega arith in ap (λ j. seek p s (n - j) j) z
  passed (suc m) q i e le none =
      seek_past p s n q (omega arith) (none q (omega arith) (omega arith)) ∙ passed m (q + 1) i (omega arith) le (λ k a b. none k (omega arith) b)

  -- the first of the slots from q up to e that exists
  pub seek_first : (q e : ℕ) → q ≤ n → e ≡ n → (r : Option ℕ) → MatchOption r (NoneBetween q e) (λ i. (q ≤ i) × (i < e) × (created s (i % width p) ≡ true) × NoneBetween q i) → unwrap_or r e ≡ seek p s (n - q) q
  seek_first q e le en None none = en ∙ sym (passed (n - q) q n (omega arith) (omega arith) (λ k a b. none k a (omega (arith, en))) ∙ seek_none p s n n (omega arith))
  seek_first q e le en (Some i) h =
      let l : i < n = omega (arith, h.1, en) in
      sym (passed (i - q) q i (omega (arith, h.0)) (omega arith) h.3 ∙ seek_found p s n i l h.2)
