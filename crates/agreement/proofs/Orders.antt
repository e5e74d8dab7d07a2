-- Dictionary order, and rows in that order.
use Rattle.std.proofs.Common.{◌≡◌, ℕ, zero, suc, ◌<◌, Bool, true, false, cond, ◌⊎◌, List, [], ◌∷◌, ◌++◌, map, length, get_or, take, filter, sym, refl, ap, ◌∙◌, subst, ap₂, subst₂, inl, inr, ⊎_elim, arith}
use lib.ListN.{length-map}
use Rattle.std.specs.List.{ContainsAt as Has, AllByRecursion}
use Rattle.std.proofs.ByRecursion.{All-get_or, all-has, all_kept_by, All-map, All-take, All-weaker}
use Rattle.std.proofs.lemmas.List.{get_or-map}
use Rattle.std.proofs.lemmas.Bool.{cases_order}
use Rattle.walks.specs.Leaves.{Before, Ascending}
use Rattle.agreement.specs.Agreement.{Enumerates}
use Rattle.agreement.proofs.Pairs.{Rows}

-- dictionary order, number by number
abbrev Less : List ℕ → List ℕ → Type 0
Less [] t = ⊥
Less (a ∷ s) [] = ⊥
Less (a ∷ s) (b ∷ t) = (a < b) ⊎ ((a ≡ b) × Less s t)

less_at : (p x y : List ℕ) (a b : ℕ) → a < b → Less (p ++ a ∷ x) (p ++ b ∷ y)
less_at [] x y a b lt = inl lt
less_at (c ∷ p) x y a b lt = inr (refl, less_at p x y a b lt)

less : (s t : List ℕ) → Before s t → Less s t
less s t h = subst₂ Less (sym h.5) (sym h.6) (less_at h.0 h.3 h.4 h.1 h.2 h.7)

less_one_way : (s t : List ℕ) → Less s t → Less t s → ⊥
less_one_way [] t g h = g
less_one_way (a ∷ s) [] g h = g
less_one_way (a ∷ s) (b ∷ t) g h =
    ⊎_elim
    (λ (x : a < b). ⊎_elim (λ (y : b < a). omega arith) (λ (y : (b ≡ a) × Less t s). omega (arith, y.0)) h)
    (λ (x : (a ≡ b) × Less s t). ⊎_elim (λ (y : b < a). omega (arith, x.0)) (λ (y : (b ≡ a) × Less t s). less_one_way s t x.1 y.1) h)
    g

pub one_way : (s t : List ℕ) → Before s t → Before t s → ⊥
one_way s t g h = less_one_way s t (less s t g) (less t s h)

pub never : (s : List ℕ) → Before s s → ⊥
never s h = one_way s s h h

module _ {X : Type 0} where
  pub has_map : (f : X → X) (xs : List X) (x : X) → Has xs x → Has (map f xs) (f x)
  has_map f xs x h = (h.0, omega (arith, h.1, length-map xs f), λ d. get_or-map f xs h.0 x d h.1 ∙ ap f (h.2 x))

  pub has_kept : (p : X → Bool) (xs : List X) (x : X) → Has xs x → p x ≡ true → Has (filter p xs) x
  has_kept p [] x h e = absurd (let z : ⊥ = omega (arith, h.1) in z)
  has_kept p (y ∷ xs) x (zero, lt, at) e =
      let same : y ≡ x = at y in
      subst (λ b. Has (cond b (y ∷ filter p xs) (filter p xs)) x) (sym (ap p same ∙ e)) (0, omega arith, λ d. same)
  has_kept p (y ∷ xs) x (suc k, lt, at) e =
      let more = has_kept p xs x (k, omega arith, at) e in
      elim (p y) as (λ b. Has (cond b (y ∷ filter p xs) (filter p xs)) x) [ true ↦ (suc more.0, omega (arith, more.1), more.2) | false ↦ more ]

  -- the first of some rows, or one of the others
  has_cases : (y : X) (xs : List X) (x : X) → Has (y ∷ xs) x → (y ≡ x) ⊎ Has xs x
  has_cases y xs x (zero, lt, at) = inl (at y)
  has_cases y xs x (suc k, lt, at) = inr (k, omega arith, at)

  has_later : (y : X) (xs : List X) (x : X) → Has xs x → Has (y ∷ xs) x
  has_later y xs x h = (suc h.0, omega (arith, h.1), h.2)

pub ascending_kept : (p : List ℕ → Bool) (xs : Rows) → Ascending xs → Ascending (filter p xs)
ascending_kept p [] a = tt
ascending_kept p (x ∷ xs) a =
    elim (p x) as (λ b. Ascending (cond b (x ∷ filter p xs) (filter p xs))) [
      | true ↦ (all_kept_by p (Before x) xs a.0, ascending_kept p xs a.1)
      | false ↦ ascending_kept p xs a.1
    ]

pub ascending_at : (xs : Rows) (a b : ℕ) (d : List ℕ) → Ascending xs → a < b → b < length xs → Before (get_or xs a d) (get_or xs b d)
ascending_at [] a b d h lt len = absurd (let z : ⊥ = omega arith in z)
ascending_at (x ∷ xs) a zero d h lt len = absurd (let z : ⊥ = omega arith in z)
ascending_at (x ∷ xs) zero (suc b) d h lt len = All-get_or (Before x) xs b d (omega arith) h.0
ascending_at (x ∷ xs) (suc a) (suc b) d h lt len = ascending_at xs a b d h.1 (omega arith) (omega arith)

pub ascending_take : (n : ℕ) (xs : Rows) → Ascending xs → Ascending (take n xs)
ascending_take zero xs a = tt
ascending_take (suc n) [] a = tt
ascending_take (suc n) (x ∷ xs) a = (All-take (Before x) n xs a.0, ascending_take n xs a.1)

-- of two rows, one is before the other, or they are the same
pub ascending_cases : (xs : Rows) (x y : List ℕ) → Ascending xs → Has xs x → Has xs y → (x ≡ y) ⊎ (Before x y ⊎ Before y x)
ascending_cases xs x y a h g =
    ⊎_elim (λ (e : h.0 ≡ g.0). inl (sym (h.2 []) ∙ ap (λ i. get_or xs i []) e ∙ g.2 []))
    (⊎_elim
    (λ (lt : h.0 < g.0). inr (inl (subst₂ Before (h.2 []) (g.2 []) (ascending_at xs h.0 g.0 [] a lt g.1))))
    (λ (lt : g.0 < h.0). inr (inr (subst₂ Before (g.2 []) (h.2 []) (ascending_at xs g.0 h.0 [] a lt h.1)))))
    (cases_order h.0 g.0)

-- the rows behind the first, where both have the same rows
behind_first : (x : List ℕ) (xs ys : Rows) → AllByRecursion (Before x) xs → ((z : List ℕ) → Has (x ∷ xs) z → Has (x ∷ ys) z) → (z : List ℕ) → Has xs z → Has ys z
behind_first x xs ys first sub z h =
    ⊎_elim
    (λ (e : x ≡ z). absurd (never z (subst (λ y. Before y z) e (all-has (Before x) xs z first h))))
    (λ (g : Has ys z). g)
    (has_cases x ys z (sub z (has_later x xs z h)))

-- rows in order are the same if they have the same rows
same_rows : (xs ys : Rows) → Ascending xs → Ascending ys → ((z : List ℕ) → Has xs z → Has ys z) → ((z : List ℕ) → Has ys z → Has xs z) → xs ≡ ys
same_rows [] [] a b f g = refl
same_rows [] (y ∷ ys) a b f g = absurd (let z : ⊥ = omega (arith, (g y (0, omega arith, λ d. refl)).1) in z)
same_rows (x ∷ xs) [] a b f g = absurd (let z : ⊥ = omega (arith, (f x (0, omega arith, λ d. refl)).1) in z)
same_rows (x ∷ xs) (y ∷ ys) a b f g =
    let e : x ≡ y =
    ⊎_elim (λ (e : y ≡ x). sym e)
    (λ (h : Has ys x). ⊎_elim (λ (e : x ≡ y). e)
    (λ (q : Has xs y). absurd (one_way x y (all-has (Before x) xs y a.0 q) (all-has (Before y) ys x b.0 h)))
    (has_cases x xs y (g y (0, omega arith, λ d. refl))))
    (has_cases y ys x (f x (0, omega arith, λ d. refl))) in
    ap₂ ◌∷◌ e (same_rows xs ys a.1 b.1
    (behind_first x xs ys a.0 (subst (λ v. (z : List ℕ) → Has (x ∷ xs) z → Has (v ∷ ys) z) (sym e) f))
    (behind_first y ys xs b.0 (subst (λ v. (z : List ℕ) → Has (y ∷ ys) z → Has (v ∷ xs) z) e g)))

-- there is only one list of all that have a property
pub only_one : (P : List ℕ → Type 0) (xs ys : Rows) → Enumerates P xs → Enumerates P ys → xs ≡ ys
only_one P xs ys x y = same_rows xs ys x.order y.order (λ z h. y.every z (all-has P xs z x.only h)) (λ z h. x.every z (all-has P ys z y.only h))

-- a property of lists that a map takes to another, all of it and in order
module _ (P Q : List ℕ → Type 0) (f : List ℕ → List ℕ)
    (made : (x : List ℕ) → P x → Q (f x))
    (every : (y : List ℕ) → Q y → (x : List ℕ) × P x × (f x ≡ y))
    (order : (x y : List ℕ) → P x → P y → Before x y → Before (f x) (f y)) where
  before_map : (x : List ℕ) (xs : Rows) → P x → AllByRecursion P xs → AllByRecursion (Before x) xs → AllByRecursion (Before (f x)) (map f xs)
  before_map x [] p all h = tt
  before_map x (y ∷ xs) p all h = (order x y p all.0 h.0, before_map x xs p all.1 h.1)

  ascending_map : (xs : Rows) → AllByRecursion P xs → Ascending xs → Ascending (map f xs)
  ascending_map [] all a = tt
  ascending_map (x ∷ xs) all a = (before_map x xs all.0 all.1 a.0, ascending_map xs all.1 a.1)

  -- the other property's lists, from those of the first
  pub mapped : (gs : Rows) → Enumerates P gs → Enumerates Q (map f gs)
  mapped gs g = record {
    only = All-map Q f gs (All-weaker P (λ x. Q (f x)) made gs g.only);
    every = λ y h. let x = every y h in subst (Has (map f gs)) x.2 (has_map f gs x.0 (g.every x.0 x.1));
    order = ascending_map gs g.only g.order;
  }

  pub equally_many : (gs ss : Rows) → Enumerates P gs → Enumerates Q ss → length gs ≡ length ss
  equally_many gs ss g s = sym (length-map gs f) ∙ ap length (only_one Q (map f gs) ss (mapped gs g) s)
