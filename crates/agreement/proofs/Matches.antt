-- Leaves that correspond row by row, one by one.
use Rattle.std.proofs.Common.{◌≡◌, ℕ, ◌<◌, true, ◌⊎◌, List, [], length, get_or, sym, ap, ◌∙◌, subst, subst₂, inl, inr, ⊎_elim, arith}
use Rattle.std.specs.List.{AllZip, ContainsAt as Has}
use Rattle.std.proofs.lemmas.List.Elements.{AllZip-get_or, length_all_zip}
use Rattle.std.proofs.ByRecursion.{All-get_or, all_kept_by, kept_by_passes}
use Rattle.std.proofs.lemmas.Bool.{cases_order}
use Rattle.walks.specs.declared.outcome.Outcome.{Outcome}
use Rattle.walks.specs.Leaves.{Leaf, Before, Ascending, Complete, leaves}
use Rattle.guesses.specs.Answers.{Answer}
use Rattle.agreement.proofs.Orders.{has_kept, ascending_kept, ascending_at}
use Rattle.agreement.proofs.Pairs.{Rows, uncut, kept}
use Rattle.agreement.proofs.Stands.{Same}

-- a leaf that fails or is full
abbrev pub KeptLeaf : (List ℕ → Outcome) → List ℕ → Type 0
KeptLeaf out s = Leaf out s × (uncut (out s) ≡ true)

-- all of them, in order
module _ (out : List ℕ → Outcome) (all : Complete out (leaves out)) where
  abbrev rows : Rows
  rows = kept out (leaves out)

  row_kept : (n : ℕ) (d : List ℕ) → n < length rows → KeptLeaf out (get_or rows n d)
  row_kept n d lt = (
    All-get_or (Leaf out) rows n d lt (all_kept_by (λ s. uncut (out s)) (Leaf out) (leaves out) all.only),
    All-get_or (λ s. uncut (out s) ≡ true) rows n d lt (kept_by_passes (λ s. uncut (out s)) (leaves out)),
  )

  find : (s : List ℕ) → KeptLeaf out s → Has rows s
  find s h = has_kept (λ s. uncut (out s)) (leaves out) s (all.every s h.0) h.1

  rows_ascend : Ascending rows
  rows_ascend = ascending_kept (λ s. uncut (out s)) (leaves out) all.order

module _ (A₁ A₂ : List ℕ → Answer) where
  abbrev out₁ : List ℕ → Outcome
  out₁ l = (A₁ l).outcome

  abbrev out₂ : List ℕ → Outcome
  out₂ l = (A₂ l).outcome

  module _ (all₁ : Complete out₁ (leaves out₁)) (all₂ : Complete out₂ (leaves out₂)) (each : AllZip (Same A₁ A₂) (kept out₁ (leaves out₁)) (kept out₂ (leaves out₂))) where
    abbrev xs : Rows
    xs = kept out₁ (leaves out₁)

    abbrev ys : Rows
    ys = kept out₂ (leaves out₂)

    long : length xs ≡ length ys
    long = length_all_zip (Same A₁ A₂) xs ys each

    same_at : (n : ℕ) → n < length ys → Same A₁ A₂ (get_or xs n []) (get_or ys n [])
    same_at n lt = AllZip-get_or (Same A₁ A₂) xs ys n [] [] each (omega (arith, long))

    -- the row beside a list holds its slot counts
    beside : (l : List ℕ) (h : Has ys l) → get_or xs h.0 [] ≡ (A₂ l).counts
    beside l h = sym (same_at h.0 h.1).1 ∙ ap (λ m. (A₂ m).counts) (h.2 [])

    -- each has its schedule, with the same answer
    pub made : (l : List ℕ) → KeptLeaf out₂ l → KeptLeaf out₁ (A₂ l).counts × (A₁ (A₂ l).counts ≡ A₂ l)
    made l leaf =
        let h = find out₂ all₂ l leaf in (
          subst (KeptLeaf out₁) (beside l h) (row_kept out₁ all₁ h.0 [] (omega (arith, h.1, long))),
          ap A₁ (sym (beside l h)) ∙ (same_at h.0 h.1).0 ∙ ap A₂ (h.2 []),
        )

    -- and each schedule is one's
    pub every : (x : List ℕ) → KeptLeaf out₁ x → (l : List ℕ) × KeptLeaf out₂ l × ((A₂ l).counts ≡ x)
    every x leaf =
        let h = find out₁ all₁ x leaf in
        let lt : h.0 < length ys = omega (arith, h.1, long) in
        (get_or ys h.0 [], row_kept out₂ all₂ h.0 [] lt, (same_at h.0 lt).1 ∙ h.2 [])

    -- first among the leaves, and first among the schedules
    abbrev pub Precedes : List ℕ → List ℕ → Type 0
    Precedes l m = Before l m × Before (A₂ l).counts (A₂ m).counts

    precedes : (l m : List ℕ) (g : Has ys l) (h : Has ys m) → g.0 < h.0 → Precedes l m
    precedes l m g h lt = (
      subst₂ Before (g.2 []) (h.2 []) (ascending_at ys g.0 h.0 [] (rows_ascend out₂ all₂) lt h.1),
      subst₂ Before (beside l g) (beside m h) (ascending_at xs g.0 h.0 [] (rows_ascend out₁ all₁) lt (omega (arith, h.1, long))),
    )

    pub compare : (l m : List ℕ) → KeptLeaf out₂ l → KeptLeaf out₂ m → (l ≡ m) ⊎ (Precedes l m ⊎ Precedes m l)
    compare l m a b =
        let g = find out₂ all₂ l a in
        let h = find out₂ all₂ m b in
        ⊎_elim
        (λ (e : g.0 ≡ h.0). inl (sym (g.2 []) ∙ ap (λ n. get_or ys n []) e ∙ h.2 []))
        (⊎_elim (λ (lt : g.0 < h.0). inr (inl (precedes l m g h lt))) (λ (lt : h.0 < g.0). inr (inr (precedes m l h g lt))))
        (cases_order g.0 h.0)
