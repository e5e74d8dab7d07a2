-- Where the points of a cursor stand.
use Rattle.std.proofs.Common.{◌≡◌, ℕ, ◌+◌, ◌-◌, ◌<◌, ◌≤◌, List, [], ◌∷◌, ◌++◌, length, get_or, take, set, sym, ap, ◌∙◌, subst, ⊎_elim, arith}
use Rattle.std.proofs.lemmas.List.{length-set, take_more, take-set-le, get_or-set_same, get_or-set_other}
use Rattle.std.proofs.lemmas.Bool.{cases_eq}
use Rattle.walks.specs.declared.outcome.Outcome.{Outcome}
use Rattle.walks.specs.declared.outcome.Outcome.TheVariants.{Open, Ended}
use Rattle.walks.specs.Cursors.{Placed, reached}
use Rattle.walks.specs.Runs.{Landed}

-- the list tried, by its last number
tried : (ns : List ℕ) (d : ℕ) → 0 < d → d ≤ length ns → take (d - 1) ns ++ get_or ns (d - 1) 0 ∷ [] ≡ take d ns
tried ns d h le =
    let e : d - 1 + 1 ≡ d = omega arith in
    let lt : d - 1 < length ns = omega arith in
    sym (take_more ns (d - 1) 0 lt) ∙ ap (λ k. take k ns) e

module _ {P : Type 0} (stands : P → List ℕ → Type 0) (points : List P) (ns : List ℕ) where
  -- a write past the points that stand
  placed_past : (d i : ℕ) (p : P) → d ≤ i → Placed stands points ns d → Placed stands (set points i p) ns d
  placed_past d i p le placed j q lt = let ne : j ≡ i → ⊥ = λ e. omega arith in rw (get_or-set_other points i j p q ne) (placed j q lt)

  -- one point more
  placed_more : (d : ℕ) (p : P) → d < length points → Placed stands points ns d → stands p (take d ns) → Placed stands (set points d p) ns (d + 1)
  placed_more d p lt placed at j q below =
      ⊎_elim
      (λ (e : j ≡ d). rw (e, get_or-set_same points d p q lt) at)
      (λ (ne : j ≡ d → ⊥). rw (get_or-set_other points d j p q ne) (placed j q (omega arith)))
      (cases_eq j d)

  -- a write at or past the last number due leaves the points
  pub placed_set : (d i x : ℕ) → d ≤ i + 1 → Placed stands points ns d → Placed stands points (set ns i x) d
  placed_set d i x le placed j q lt = rw (take-set-le j ns i x (omega arith)) (placed j q lt)

  pub placed_less : (d k : ℕ) → k ≤ d → Placed stands points ns d → Placed stands points ns k
  placed_less d k le placed j q lt = placed j q (omega arith)

module _ {P : Type 0} (out : List ℕ → Outcome) (stands : P → List ℕ → Type 0) (points : List P) (ns : List ℕ) where
  -- the point p behind a list that came to o
  placed_reached : (d : ℕ) (p : P) (o : Outcome) → d < length points → Placed stands points ns d → Landed out stands (take d ns) o p → Placed stands (set points d p) ns (reached o d)
  placed_reached d p (Open b) lt placed at = placed_more stands points ns d p lt placed (at.1 tt)
  placed_reached d p (Ended e) lt placed at = placed_past stands points ns d d p (omega arith) placed

module _ {P : Type 0} (out : List ℕ → Outcome) (stands : P → List ℕ → Type 0) (points : List P) (ns : List ℕ) where
  -- the step from the last of d points, a, made in the place behind it
  pub arrives : (d : ℕ) (a p : P) (o : Outcome) → 0 < d → d ≤ length ns → d < length points → ((q : P) → get_or points (d - 1) q ≡ a)
      → ((l : List ℕ) → stands a l → Landed out stands (l ++ get_or ns (d - 1) 0 ∷ []) o p)
      → Placed stands points ns d
      → (out (take d ns) ≡ o) × Placed stands (set (set points (d - 1 + 1) a) (d - 1 + 1) p) ns (reached o d)
  arrives d a p o h le lt last told placed =
      let e : d - 1 + 1 ≡ d = omega arith in
      let from : stands a (take (d - 1) ns) = subst (λ x. stands x (take (d - 1) ns)) (last a) (placed (d - 1) a (omega arith)) in
      let at : Landed out stands (take d ns) o p = subst (λ s. Landed out stands s o p) (tried ns d h le) (told (take (d - 1) ns) from) in
      let room : d < length (set points d a) = omega (arith, length-set points d a) in
      let stood : Placed stands (set (set points d a) d p) ns (reached o d) = placed_reached out stands (set points d a) ns d p o room (placed_past stands points ns d d a (omega arith) placed) at in
      (at.0, subst (λ k. Placed stands (set (set points k a) k p) ns (reached o d)) (sym e) stood)
