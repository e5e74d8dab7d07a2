-- The levels of a cursor, as one of them is written.
use Rattle.std.proofs.Common.{◌≡◌, ℕ, ◌+◌, ◌-◌, ◌<◌, ◌≤◌, List, [], ◌∷◌, ◌++◌, map, length, get_or, take, set, sym, refl, ap, ◌∙◌, subst, arith}
use Rattle.std.proofs.lemmas.List.{length-map, map-set, get_or-map, get_or-set_same}
use Rattle.std.proofs.Math.Seq.{map-set_same}
use Rattle.walks.specs.declared.cursor.Cursor.{Cursor}
use Rattle.walks.specs.declared.cursor.Level.{Level}
use Rattle.walks.specs.declared.outcome.Outcome.{Outcome}
use Rattle.walks.specs.Cursors.{Placed, PlacedAt, reached}
use Rattle.walks.specs.Paths.{Levels, levels, points, unspent, turned}
use Rattle.walks.specs.Runs.{Landed}
use Rattle.walks.proofs.Points.{arrives}
use Rattle.walks.proofs.Turns.{unspent_back, turns_up}

same_bounds : (ns bs cs : List ℕ) (d : ℕ) → bs ≡ cs → ◌≡◌ {A = Levels} (record { numbers = ns; bounds = bs; depth = d }) (record { numbers = ns; bounds = cs; depth = d })
same_bounds ns bs cs d e = rw e

pub bounds_wide : {P : Type 0} (c : Cursor P) → length (levels c).bounds ≡ 65
bounds_wide {P} c = length-map c.levels (λ (l : Level P). l.bound) ∙ c.wide

-- a step: the level i gets the point a, and then p
module _ {P : Type 0} (xs : List (Level P)) (i : ℕ) (r s : Level P) (a p : P) where
  abbrev copied : List (Level P)
  copied = set xs i (record { bound = (get_or xs i r).bound; point = a })

  abbrev pub stepped : List (Level P)
  stepped = set copied i (record { bound = (get_or copied i s).bound; point = p })

  pub step_levels : (ns : List ℕ) (d : ℕ) → ◌≡◌ {A = Levels} (record { numbers = ns; bounds = map (λ (l : Level P). l.bound) stepped; depth = d }) (record { numbers = ns; bounds = map (λ (l : Level P). l.bound) xs; depth = d })
  step_levels ns d = same_bounds ns _ _ d (map-set_same (λ (l : Level P). l.bound) copied i _ s refl ∙ map-set_same (λ (l : Level P). l.bound) xs i _ r refl)

  pub step_points : map (λ (l : Level P). l.point) stepped ≡ set (set (map (λ (l : Level P). l.point) xs) i a) i p
  step_points = map-set (λ (l : Level P). l.point) copied i _ ∙ ap (λ ps. set ps i p) (map-set (λ (l : Level P). l.point) xs i _)

-- the step of a cursor from its last point
module _ {P : Type 0} (out : List ℕ → Outcome) (stands : P → List ℕ → Type 0) (w : Cursor P) (some : 0 < w.depth) (q r s : Level P) (p : P) (o : Outcome) where
  abbrev last_point : P
  last_point = (get_or w.levels (w.depth - 1) q).point

  pub steps : ((l : List ℕ) → stands (get_or (copied w.levels (w.depth - 1 + 1) r s last_point p) (w.depth - 1 + 1) s).point l → Landed out stands (l ++ get_or w.numbers (w.depth - 1) 0 ∷ []) o p)
      → PlacedAt stands w
      → (out (take w.depth w.numbers) ≡ o) × Placed stands (map (λ (l : Level P). l.point) (stepped w.levels (w.depth - 1 + 1) r s last_point p)) w.numbers (reached o w.depth)
  steps told placed =
      let i = w.depth - 1 + 1 in
      let few : w.depth ≤ 64 = w.few in
      let wide : length w.levels ≡ 65 = w.wide in
      let last : (x : P) → get_or (points w) (w.depth - 1) x ≡ last_point = λ x. get_or-map (λ (l : Level P). l.point) w.levels (w.depth - 1) q x (omega arith) in
      let from : (get_or (copied w.levels i r s last_point p) i s).point ≡ last_point = ap (λ (l : Level P). l.point) (get_or-set_same w.levels i _ s (omega arith)) in
      let long : length (points w) ≡ 65 = length-map w.levels (λ (l : Level P). l.point) ∙ w.wide in
      let at = arrives out stands (points w) w.numbers w.depth last_point p o some (omega (arith, w.numbers_wide)) (omega arith) last
      (λ l x. told l (subst (λ a. stands a l) (sym from) x)) placed in
      (at.0, subst (λ ps. Placed stands ps w.numbers (reached o w.depth)) (sym (step_points w.levels i r s last_point p)) at.1)

-- a push: the level i gets the bound b
module _ {P : Type 0} (xs : List (Level P)) (i b : ℕ) (r : Level P) where
  abbrev pub opened : List (Level P)
  opened = set xs i (record { bound = b; point = (get_or xs i r).point })

  pub push_levels : (ns : List ℕ) (d : ℕ) → ◌≡◌ {A = Levels} (record { numbers = ns; bounds = map (λ (l : Level P). l.bound) opened; depth = d }) (record { numbers = ns; bounds = set (map (λ (l : Level P). l.bound) xs) i b; depth = d })
  push_levels ns d = same_bounds ns _ _ d (map-set (λ (l : Level P). l.bound) xs i _)

  pub push_points : map (λ (l : Level P). l.point) opened ≡ map (λ (l : Level P). l.point) xs
  push_points = map-set_same (λ (l : Level P). l.point) xs i _ r refl

-- a turn: of i levels the last, or those before it
module _ {P : Type 0} (w c : Cursor P) (i : ℕ) (same : w ≡ c) (some : 0 < i) (le : i ≤ c.depth) (r : Level P) where
  at_bound : get_or (levels w).bounds (i - 1) 0 ≡ (get_or w.levels (i - 1) r).bound
  at_bound = get_or-map (λ (l : Level P). l.bound) w.levels (i - 1) r 0 (omega (arith, some, le, c.few, w.wide))

  module _ (u : unspent (levels w).numbers (levels w).bounds i ≡ unspent (levels c).numbers (levels c).bounds c.depth) where
    pub turn_back : (get_or w.levels (i - 1) r).bound ≤ get_or w.numbers (i - 1) 0 → unspent (levels w).numbers (levels w).bounds (i - 1) ≡ unspent (levels c).numbers (levels c).bounds c.depth
    turn_back spent = unspent_back w.numbers (levels w).bounds i some (omega (arith, at_bound, spent)) ∙ u

    pub turn_up : get_or w.numbers (i - 1) 0 < (get_or w.levels (i - 1) r).bound
        → ◌≡◌ {A = Levels} (record { numbers = set w.numbers (i - 1) (get_or w.numbers (i - 1) 0 + 1); bounds = (levels w).bounds; depth = i - 1 + 1 }) (turned (levels c))
    turn_up lt =
        let ns = w.numbers in
        let bs = (levels w).bounds in
        let deep : i - 1 + 1 ≡ i = omega (arith, some) in
        ap (λ d. record { numbers = set ns (i - 1) (get_or ns (i - 1) 0 + 1); bounds = bs; depth = d }) deep
        ∙ turns_up (levels c) ns bs i (ap (λ (v : Cursor P). v.numbers) same) (ap (λ (v : Cursor P). (levels v).bounds) same) u some (omega (arith, at_bound, lt))
