-- Two runners whose open lists correspond: so do their leaves that are not cut, in order.
use Rattle.std.proofs.Common.{◌≡◌, ℕ, zero, suc, ◌+◌, ◌<◌, ◌≤◌, Bool, true, false, cond, List, [], ◌∷◌, ◌++◌, filter, sym, refl, ap, ◌∙◌, add-zero, suc-add, zero-add, arith}
use Rattle.std.specs.List.{AllZip}
use Rattle.std.proofs.lemmas.List.Elements.{filter-append}
use Rattle.walks.specs.declared.outcome.Ending.{Ending}
use Rattle.walks.specs.declared.outcome.Ending.TheVariants.{Failed, Cut, Full}
use Rattle.walks.specs.declared.outcome.Outcome.{Outcome}
use Rattle.walks.specs.declared.outcome.Outcome.TheVariants.{Open, Ended}
use Rattle.walks.specs.Leaves.{past, here, scan, level, leaves, from_start}

abbrev pub Rows : Type 0
Rows = List (List ℕ)

-- the ending is not a cut
abbrev pub uncut : Outcome → Bool
uncut (Open b) = false
uncut (Ended Failed) = true
uncut (Ended Cut) = false
uncut (Ended Full) = true

-- the lists of some rows that fail or are full
abbrev pub kept : (List ℕ → Outcome) → Rows → Rows
kept out rows = filter (λ s. uncut (out s)) rows

each_append : (P : List ℕ → List ℕ → Type 0) (xs ys us vs : Rows) → AllZip P xs ys → AllZip P us vs → AllZip P (xs ++ us) (ys ++ vs)
each_append P [] [] us vs g h = h
each_append P [] (y ∷ ys) us vs g h = absurd g
each_append P (x ∷ xs) [] us vs g h = absurd g
each_append P (x ∷ xs) (y ∷ ys) us vs g h = (g.0, each_append P xs ys us vs g.1 h)

kept_cut : (out : List ℕ → Outcome) (x : List ℕ) (rows : Rows) → out x ≡ Ended Cut → kept out (x ∷ rows) ≡ kept out rows
kept_cut out x rows e = ap (λ o. cond (uncut o) (x ∷ kept out rows) (kept out rows)) e

module _ (out : List ℕ → Outcome) (below : List ℕ → ℕ → Rows) (l : List ℕ) where
  scan_at : (k n : ℕ) (o : Outcome) → out (l ++ n ∷ []) ≡ o → scan out below l (suc k) n ≡ here below (l ++ n ∷ []) (scan out below l k (suc n)) o
  unfolding scan
  scan_at k n o e = ap (here below (l ++ n ∷ []) (scan out below l k (suc n))) e

  -- numbers that cut leave nothing
  pub cut_run : (c k n : ℕ) → ((u : ℕ) → n ≤ u → u < n + c → out (l ++ u ∷ []) ≡ Ended Cut) → kept out (scan out below l (c + k) n) ≡ kept out (scan out below l k (n + c))
  cut_run zero k n h = rw (zero-add, add-zero)
  cut_run (suc c) k n h =
      let e : suc n + c ≡ n + suc c = omega arith in
      let here_cut = h n (omega arith) (omega arith) in
      ap (λ m. kept out (scan out below l m n)) (suc-add c k)
      ∙ ap (kept out) (scan_at (c + k) n (Ended Cut) here_cut)
      ∙ kept_cut out (l ++ n ∷ []) (scan out below l (c + k) (suc n)) here_cut
      ∙ cut_run c k (suc n) (λ u a b. h u (omega arith) (omega arith))
      ∙ ap (λ m. kept out (scan out below l k m)) e

  pub all_cut : (k n : ℕ) → ((u : ℕ) → n ≤ u → u < n + k → out (l ++ u ∷ []) ≡ Ended Cut) → kept out (scan out below l k n) ≡ []
  unfolding scan
  all_cut k n h = ap (λ m. kept out (scan out below l m n)) (sym (add-zero k)) ∙ cut_run k 0 n h

module _ (P : List ℕ → List ℕ → Type 0) (out₁ out₂ : List ℕ → Outcome) where
  abbrev pub Agree : Rows → Rows → Type 0
  Agree a b = AllZip P (kept out₁ a) (kept out₂ b)

  agree_append : (a b c d : Rows) → Agree a b → Agree c d → Agree (a ++ c) (b ++ d)
  agree_append a b c d g h = rw (filter-append (λ s. uncut (out₁ s)) a c, filter-append (λ s. uncut (out₂ s)) b d) (each_append P (kept out₁ a) (kept out₂ b) (kept out₁ c) (kept out₂ d) g h)

  agree_one : (x y : List ℕ) (a b : Rows) (o : Outcome) → out₁ x ≡ o → out₂ y ≡ o → P x y → Agree a b → Agree (x ∷ a) (y ∷ b)
  agree_one x y a b o e f h g =
      rw (e, f) (elim (uncut o) as (λ t. AllZip P (cond t (x ∷ kept out₁ a) (kept out₁ a)) (cond t (y ∷ kept out₂ b) (kept out₂ b))) [ true ↦ (h, g) | false ↦ g ])

  agree_past : (e : Ending) (a b : Rows) → Agree a b → Agree (past e a) (past e b)
  agree_past Failed a b g = tt
  agree_past Cut a b g = g
  agree_past Full a b g = g

  module _ (below₁ below₂ : List ℕ → ℕ → Rows) where
    agree_here : (x y : List ℕ) (a b : Rows) (o : Outcome) → out₁ x ≡ o → out₂ y ≡ o → P x y → ((c : ℕ) → o ≡ Open c → Agree (below₁ x c) (below₂ y c)) → Agree a b → Agree (here below₁ x a o) (here below₂ y b o)
    agree_here x y a b (Open c) e f h deep g = agree_append (below₁ x c) (below₂ y c) a b (deep c refl) g
    agree_here x y a b (Ended t) e f h deep g = agree_one x y (past t a) (past t b) (Ended t) e f h (agree_past t a b g)

    module _ (l₁ l₂ : List ℕ) (k j n g : ℕ) where
      -- a pair of numbers that come to the same
      pub agree_both : (o : Outcome) → out₁ (l₁ ++ n ∷ []) ≡ o → out₂ (l₂ ++ g ∷ []) ≡ o → P (l₁ ++ n ∷ []) (l₂ ++ g ∷ []) → ((c : ℕ) → o ≡ Open c → Agree (below₁ (l₁ ++ n ∷ []) c) (below₂ (l₂ ++ g ∷ []) c)) → Agree (scan out₁ below₁ l₁ k (suc n)) (scan out₂ below₂ l₂ j (suc g)) → Agree (scan out₁ below₁ l₁ (suc k) n) (scan out₂ below₂ l₂ (suc j) g)
      agree_both o e f h deep rest =
          rw (scan_at out₁ below₁ l₁ k n o e, scan_at out₂ below₂ l₂ j g o f) (agree_here (l₁ ++ n ∷ []) (l₂ ++ g ∷ []) (scan out₁ below₁ l₁ k (suc n)) (scan out₂ below₂ l₂ j (suc g)) o e f h deep rest)

      -- the least that fails: what follows it is no leaf
      pub agree_fail : out₁ (l₁ ++ n ∷ []) ≡ Ended Failed → out₂ (l₂ ++ g ∷ []) ≡ Ended Failed → P (l₁ ++ n ∷ []) (l₂ ++ g ∷ []) → Agree (scan out₁ below₁ l₁ (suc k) n) (scan out₂ below₂ l₂ (suc j) g)
      agree_fail e f h =
          rw (scan_at out₁ below₁ l₁ k n (Ended Failed) e, scan_at out₂ below₂ l₂ j g (Ended Failed) f) (agree_one (l₁ ++ n ∷ []) (l₂ ++ g ∷ []) [] [] (Ended Failed) e f h tt)

  -- The open lists that correspond have numbers that do, if what is below them agrees.
  module _ (Rel : List ℕ → List ℕ → Type 0)
      (grows : (below₁ below₂ : List ℕ → ℕ → Rows)
      → ((m₁ m₂ : List ℕ) (b : ℕ) → Rel m₁ m₂ → out₁ m₁ ≡ Open b → out₂ m₂ ≡ Open b → Agree (below₁ m₁ b) (below₂ m₂ b))
      → (l₁ l₂ : List ℕ) (b : ℕ) → Rel l₁ l₂ → out₁ l₁ ≡ Open b → out₂ l₂ ≡ Open b
      → Agree (scan out₁ below₁ l₁ (suc b) 0) (scan out₂ below₂ l₂ (suc b) 0)) where
    levels : (f : ℕ) (l₁ l₂ : List ℕ) (b : ℕ) → Rel l₁ l₂ → out₁ l₁ ≡ Open b → out₂ l₂ ≡ Open b → Agree (level out₁ f l₁ b) (level out₂ f l₂ b)
    unfolding level
    levels zero l₁ l₂ b r e₁ e₂ = tt
    levels (suc f) l₁ l₂ b r e₁ e₂ = grows (level out₁ f) (level out₂ f) (levels f) l₁ l₂ b r e₁ e₂

    starts : (o : Outcome) → out₁ [] ≡ o → out₂ [] ≡ o → Rel [] [] → Agree (from_start out₁ o) (from_start out₂ o)
    starts (Open b) e₁ e₂ r = levels 64 [] [] b r e₁ e₂
    starts (Ended t) e₁ e₂ r = tt

    pub agree_leaves : (o : Outcome) → out₁ [] ≡ o → out₂ [] ≡ o → Rel [] [] → Agree (leaves out₁) (leaves out₂)
    unfolding leaves
    agree_leaves o e₁ e₂ r = rw (e₁, e₂) (starts o e₁ e₂ r)
