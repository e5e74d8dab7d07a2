-- The latest failing list, and which failing leaves do not come after it.
use Rattle.std.proofs.Common.{◌≡◌, ℕ, zero, suc, ◌<◌, ◌≤◌, Bool, true, false, cond, ◌⊎◌, List, [], ◌∷◌, length, get_or, take, Some, None, filter, Option, sym, refl, ap, ◌∙◌, subst, subst₂, inl, inr, ⊎_elim, arith}
use Rattle.std.specs.List.{ContainsAt as Has, AllByRecursion}
use Rattle.std.proofs.ByRecursion.{All-from_get_or}
use Rattle.std.proofs.lemmas.List.{get_or-take, length-take}
use Rattle.std.proofs.lemmas.List.Sums.{length-filter}
use Rattle.std.proofs.lemmas.Bool.{both_ways, cases_lt, cases_order}
use Rattle.agreement.specs.Agreement.{LeafOf, NotAfter}
use Rattle.agreement.proofs.Orders.{ascending_at, never, one_way}
use Rattle.walks.specs.declared.outcome.Ending.TheVariants.{Failed}
use Rattle.walks.specs.declared.outcome.Outcome.{Outcome}
use Rattle.walks.specs.Leaves.{Before, Complete, leaves}
use Rattle.walks.specs.Tallies.{Failing, fails, ends_so, count, latest}
use Rattle.reports.specs.Counts.{total}

module _ (out : List ℕ → Outcome) (rows : List (List ℕ)) where
  abbrev failing : List ℕ → Bool
  failing s = ends_so fails (out s)

  -- g is the last of the first v rows that fails
  pub record Last (v : ℕ) (g : List ℕ) : Type 0 where
    pub place : ℕ
    pub before : place < v
    pub is : get_or rows place [] ≡ g
    pub fails : failing g ≡ true
    pub none : (i : ℕ) → place < i → i < v → failing (get_or rows i []) ≡ false

  abbrev at_row : ℕ → Failing
  at_row v = record { position = suc v; numbers = get_or rows v [] }

  -- row v fails and is the latest, or it is the same as before
  latest_cases : (v : ℕ) (o : Option Failing) → latest out rows (suc v) ≡ o
      → ((failing (get_or rows v []) ≡ true) × (Some (at_row v) ≡ o)) ⊎ ((failing (get_or rows v []) ≡ false) × (latest out rows v ≡ o))
  unfolding latest
  latest_cases v o = decide (failing (get_or rows v []))
    where
      decide : (b : Bool) → cond b (Some (at_row v)) (latest out rows v) ≡ o → ((b ≡ true) × (Some (at_row v) ≡ o)) ⊎ ((b ≡ false) × (latest out rows v ≡ o))
      decide true e = inl (refl, e)
      decide false e = inr (refl, e)

  -- what holds of the rows below v and of row v holds below suc v
  none_more : (v i : ℕ) → i < suc v → (i < v → failing (get_or rows i []) ≡ false) → failing (get_or rows v []) ≡ false → failing (get_or rows i []) ≡ false
  none_more v i lt below here =
      ⊎_elim (λ (x : i < v). below x) (λ (x : v ≤ i). let same : i ≡ v = omega arith in ap (λ j. failing (get_or rows j [])) same ∙ here) (cases_lt i v)

  pub latest_last : (v : ℕ) (f : Failing) → latest out rows v ≡ Some f → Last v f.numbers
  unfolding latest
  latest_last zero f e = absurd (let z : ◌≡◌ {A = ℕ} 0 1 = cc in omega arith)
  latest_last (suc v) f e =
      ⊎_elim
      (λ (yes : (failing (get_or rows v []) ≡ true) × (Some (at_row v) ≡ Some f)).
      let row : at_row v ≡ f = (let z = yes.1 in cc) in
      let same : get_or rows v [] ≡ f.numbers = ap (λ (x : Failing). x.numbers) row in
      record { place = v; before = omega arith; is = same; fails = sym (ap failing same) ∙ yes.0; none = λ i lt le. absurd (let z : ⊥ = omega arith in z) })
      (λ (other : (failing (get_or rows v []) ≡ false) × (latest out rows v ≡ Some f)).
      let more = latest_last v f other.1 in
      record { place = more.place; before = omega (arith, more.before); is = more.is; fails = more.fails; none = λ i lt le. none_more v i le (more.none i lt) other.0 })
      (latest_cases v (Some f) e)

  pub latest_none : (v : ℕ) → latest out rows v ≡ None → (i : ℕ) → i < v → failing (get_or rows i []) ≡ false
  latest_none zero e i lt = absurd (let z : ⊥ = omega arith in z)
  latest_none (suc v) e i lt =
      ⊎_elim
      (λ (yes : (failing (get_or rows v []) ≡ true) × (Some (at_row v) ≡ None)). absurd (let z = yes.1 in (let y : ◌≡◌ {A = ℕ} 0 1 = cc in omega arith)))
      (λ (other : (failing (get_or rows v []) ≡ false) × (latest out rows v ≡ None)). none_more v i lt (latest_none v other.1 i) other.0)
      (latest_cases v None e)

kept_none : {X : Type 0} (p : X → Bool) (xs : List X) → AllByRecursion (λ x. p x ≡ false) xs → filter p xs ≡ []
kept_none p [] a = refl
kept_none p (x ∷ xs) a = subst (λ b. cond b (x ∷ filter p xs) (filter p xs) ≡ []) (sym a.0) (kept_none p xs a.1)

module _ (out : List ℕ → Outcome) (v : ℕ) where
  abbrev xs : List (List ℕ)
  xs = take v (leaves out)

  -- nothing found: no failure is counted
  pub none_failed : latest out (leaves out) v ≡ None → count fails out xs ≡ 0
  none_failed e =
      let long = length-take v (leaves out) in
      let none : AllByRecursion (λ s. failing out (leaves out) s ≡ false) xs =
      All-from_get_or (λ s. failing out (leaves out) s ≡ false) xs []
      (λ i lt. let under : i < v = omega arith in ap (failing out (leaves out)) (get_or-take v (leaves out) i [] under) ∙ latest_none out (leaves out) v e i under) in
      sym (length-filter (failing out (leaves out)) xs) ∙ ap length (kept_none (failing out (leaves out)) xs none)

  module _ (c : Complete out (leaves out)) (le : v ≤ total out) (g : List ℕ) (last : Last out (leaves out) v g) where
    -- a failing leaf is among the first v just where it does not come after the latest one
    pub up_to_latest : (s : List ℕ) → LeafOf Failed out s × Has xs s → LeafOf Failed out s × NotAfter s g
    up_to_latest s h =
        let i = h.1.0 in
        let long = length-take v (leaves out) in
        let under : i < v = omega (arith, h.1.1) in
        let at : get_or (leaves out) i [] ≡ s = sym (get_or-take v (leaves out) i [] under) ∙ h.1.2 [] in (
          h.0,
          λ o.
              ⊎_elim (λ (e : i ≡ last.place). never g (subst (Before g) (sym at ∙ ap (λ j. get_or (leaves out) j []) e ∙ last.is) o))
              (⊎_elim
              (λ (lt : i < last.place). one_way g s o (subst₂ Before at last.is (ascending_at (leaves out) i last.place [] c.order lt (omega (arith, last.before)))))
              (λ (gt : last.place < i). both_ways (failing out (leaves out) s) (sym (ap (failing out (leaves out)) at) ∙ last.none i gt under) (ap (ends_so fails) h.0.1)))
              (cases_order i last.place),
        )

    pub among_first : (s : List ℕ) → LeafOf Failed out s × NotAfter s g → LeafOf Failed out s × Has xs s
    among_first s h =
        let at = c.every s h.0.0 in
        let long = length-take v (leaves out) in
        ⊎_elim
        (λ (lt : at.0 < v). (h.0, (at.0, omega (arith, at.1), λ d. get_or-take v (leaves out) at.0 d lt ∙ at.2 d)))
        (λ (ge : v ≤ at.0). absurd (h.1 (subst₂ Before last.is (at.2 []) (ascending_at (leaves out) last.place at.0 [] c.order (omega (arith, last.before)) at.1))))
        (cases_lt at.0 v)
