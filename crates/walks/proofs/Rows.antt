-- `leaves` are the leaves, all of them, in dictionary order.
use Rattle.std.proofs.Common.{◌≡◌, ℕ, zero, suc, ◌+◌, ◌<◌, ◌≤◌, ◌⊎◌, List, [], ◌∷◌, ◌++◌, length, sym, refl, ap, ◌∙◌, subst, inl, inr, ⊎_elim, append_assoc, arith}
use Rattle.std.specs.List.{ContainsAt as Has, AllByRecursion}
use Rattle.std.proofs.lemmas.List.{length-append, append-nil}
use Rattle.std.proofs.ByRecursion.{All-append, All-weaker, has_append_left, has_append_right}
use Rattle.std.proofs.lemmas.Bool.{cases_eq, cases_lt}
use Rattle.walks.specs.declared.outcome.Outcome.{Outcome}
use Rattle.walks.specs.declared.outcome.Outcome.TheVariants.{Open, Ended}
use Rattle.walks.specs.declared.outcome.Ending.{Ending}
use Rattle.walks.specs.declared.outcome.Ending.TheVariants.{Failed, Cut, Full}
use Rattle.walks.specs.Outcomes.{IsOpen}
use Rattle.walks.specs.Runs.{Lawful}
use Rattle.walks.specs.Leaves.{past, Leaf, LeafAt, Before, Ascending, Complete, here, scan, level, leaves}
use Rattle.walks.proofs.Scans.{leaves_at}

-- the lists that go on from l with a number from n on
abbrev Under : List ℕ → ℕ → List ℕ → Type 0
Under l n s = (m : ℕ) × (x : List ℕ) × (s ≡ l ++ m ∷ x) × (n ≤ m)

under_later : (l : List ℕ) (n : ℕ) (s : List ℕ) → Under l (suc n) s → Under l n s
under_later l n s u = (u.0, u.1, u.2, omega (arith, u.3))

under_deeper : (l : List ℕ) (n : ℕ) (s : List ℕ) → Under (l ++ n ∷ []) 0 s → Under l n s
under_deeper l n s u = (n, u.0 ∷ u.1, u.2 ∙ append_assoc l (n ∷ []) (u.0 ∷ u.1), omega arith)

before_later : (l : List ℕ) (n : ℕ) (s t : List ℕ) → (x : List ℕ) → s ≡ l ++ n ∷ x → Under l (suc n) t → Before s t
before_later l n s t x e u = (l, n, u.0, x, u.1, e, u.2, omega (arith, u.3))

ascending_append : (xs ys : List (List ℕ)) → Ascending xs → Ascending ys → AllByRecursion (λ s. AllByRecursion (Before s) ys) xs → Ascending (xs ++ ys)
ascending_append [] ys a b c = b
ascending_append (x ∷ xs) ys a b c = (All-append (Before x) xs ys a.0 c.0, ascending_append xs ys a.1 b c.1)

past_all : {X : Type 0} (P : X → Type 0) (e : Ending) (more : List X) → AllByRecursion P more → AllByRecursion P (past e more)
past_all P Failed more h = tt
past_all P Cut more h = h
past_all P Full more h = h

past_ascending : (e : Ending) (more : List (List ℕ)) → Ascending more → Ascending (past e more)
past_ascending Failed more h = tt
past_ascending Cut more h = h
past_ascending Full more h = h

past_leaf : {X : Type 0} (P : X → Type 0) (e : Ending) (more : List X) → ((e ≡ Failed → ⊥) → AllByRecursion P more) → AllByRecursion P (past e more)
past_leaf P Failed more h = tt
past_leaf P Cut more h = h (λ x. let w : ◌≡◌ {A = ℕ} 0 1 = cc in omega arith)
past_leaf P Full more h = h (λ x. let w : ◌≡◌ {A = ℕ} 0 1 = cc in omega arith)

past_has : {X : Type 0} (e : Ending) (more : List X) (s : X) → (e ≡ Failed → ⊥) → Has more s → Has (past e more) s
past_has Failed more s x h = absurd (x refl)
past_has Cut more s x h = h
past_has Full more s x h = h

module _ (out : List ℕ → Outcome) where
  here_under : (below : List ℕ → ℕ → List (List ℕ)) (l : List ℕ) (n : ℕ) (more : List (List ℕ)) (o : Outcome)
      → ((s : List ℕ) (b : ℕ) → AllByRecursion (Under s 0) (below s b)) → AllByRecursion (Under l (suc n)) more
      → AllByRecursion (Under l n) (here below (l ++ n ∷ []) more o)
  here_under below l n more (Open b) deep later = All-append (Under l n) (below (l ++ n ∷ []) b) more (All-weaker (Under (l ++ n ∷ []) 0) (Under l n) (under_deeper l n) (below (l ++ n ∷ []) b) (deep (l ++ n ∷ []) b)) (All-weaker (Under l (suc n)) (Under l n) (under_later l n) more later)
  here_under below l n more (Ended e) deep later = ((n, [], refl, omega arith), past_all (Under l n) e more (All-weaker (Under l (suc n)) (Under l n) (under_later l n) more later))

  scan_under : (below : List ℕ → ℕ → List (List ℕ)) (l : List ℕ) (k n : ℕ) → ((s : List ℕ) (b : ℕ) → AllByRecursion (Under s 0) (below s b)) → AllByRecursion (Under l n) (scan out below l k n)
  unfolding scan
  scan_under below l zero n deep = tt
  scan_under below l (suc k) n deep = here_under below l n (scan out below l k (suc n)) (out (l ++ n ∷ [])) deep (scan_under below l k (suc n) deep)

  level_under : (f : ℕ) (l : List ℕ) (b : ℕ) → AllByRecursion (Under l 0) (level out f l b)
  unfolding level
  level_under zero l b = tt
  level_under (suc f) l b = scan_under (level out f) l (suc b) 0 (level_under f)

  here_ascending : (below : List ℕ → ℕ → List (List ℕ)) (l : List ℕ) (n : ℕ) (more : List (List ℕ)) (o : Outcome)
      → ((s : List ℕ) (b : ℕ) → AllByRecursion (Under s 0) (below s b)) → ((s : List ℕ) (b : ℕ) → Ascending (below s b)) → AllByRecursion (Under l (suc n)) more → Ascending more
      → Ascending (here below (l ++ n ∷ []) more o)
  here_ascending below l n more (Open b) deep order later rest =
      ascending_append (below (l ++ n ∷ []) b) more (order (l ++ n ∷ []) b) rest
      (All-weaker (Under (l ++ n ∷ []) 0) (λ s. AllByRecursion (Before s) more)
      (λ s u. All-weaker (Under l (suc n)) (Before s) (λ t v. before_later l n s t (u.0 ∷ u.1) (u.2 ∙ append_assoc l (n ∷ []) (u.0 ∷ u.1)) v) more later)
      (below (l ++ n ∷ []) b) (deep (l ++ n ∷ []) b))
  here_ascending below l n more (Ended e) deep order later rest = (
    past_all (Before (l ++ n ∷ [])) e more (All-weaker (Under l (suc n)) (Before (l ++ n ∷ [])) (λ t v. before_later l n (l ++ n ∷ []) t [] refl v) more later),
    past_ascending e more rest,
  )

  scan_ascending : (below : List ℕ → ℕ → List (List ℕ)) (l : List ℕ) (k n : ℕ) → ((s : List ℕ) (b : ℕ) → AllByRecursion (Under s 0) (below s b)) → ((s : List ℕ) (b : ℕ) → Ascending (below s b)) → Ascending (scan out below l k n)
  unfolding scan
  scan_ascending below l zero n deep order = tt
  scan_ascending below l (suc k) n deep order = here_ascending below l n (scan out below l k (suc n)) (out (l ++ n ∷ [])) deep order (scan_under below l k (suc n) deep) (scan_ascending below l k (suc n) deep order)

  level_ascending : (f : ℕ) (l : List ℕ) (b : ℕ) → Ascending (level out f l b)
  unfolding level
  level_ascending zero l b = tt
  level_ascending (suc f) l b = scan_ascending (level out f) l (suc b) 0 (level_under f) (level_ascending f)

  -- each is a leaf
  NoneFail : List ℕ → ℕ → Type 0
  NoneFail l n = (m : ℕ) → m < n → out (l ++ m ∷ []) ≡ Ended Failed → ⊥

  none_more : (l : List ℕ) (n : ℕ) → NoneFail l n → (out (l ++ n ∷ []) ≡ Ended Failed → ⊥) → NoneFail l (suc n)
  unfolding NoneFail
  none_more l n h x m lt e =
      ⊎_elim
      (λ (q : m ≡ n). x (subst (λ k. out (l ++ k ∷ []) ≡ Ended Failed) q e))
      (λ (q : m ≡ n → ⊥). h m (omega arith) e)
      (cases_eq m n)

  leaf_at : (l : List ℕ) (n b : ℕ) → out l ≡ Open b → n ≤ b → NoneFail l n → (o : Outcome) → out (l ++ n ∷ []) ≡ o → (IsOpen o → ⊥) → Leaf out (l ++ n ∷ [])
  unfolding NoneFail
  leaf_at l n b e le none o x ends = (l, n, refl, record { bound = b; opened = e; within = le; ends = λ y. ends (subst IsOpen x y); least = λ m lt f. none m lt })

  here_leaf : (below : List ℕ → ℕ → List (List ℕ)) (l : List ℕ) (n b : ℕ) (more : List (List ℕ)) (o : Outcome) → out (l ++ n ∷ []) ≡ o → out l ≡ Open b → n ≤ b → NoneFail l n
      → ((s : List ℕ) (c : ℕ) → out s ≡ Open c → AllByRecursion (Leaf out) (below s c)) → (NoneFail l (suc n) → AllByRecursion (Leaf out) more)
      → AllByRecursion (Leaf out) (here below (l ++ n ∷ []) more o)
  here_leaf below l n b more (Open c) x e le none deep later = All-append (Leaf out) (below (l ++ n ∷ []) c) more (deep (l ++ n ∷ []) c x) (later (none_more l n none (λ y. let z : Open c ≡ Ended Failed = sym x ∙ y in (let w : ◌≡◌ {A = ℕ} 0 1 = cc in omega arith))))
  here_leaf below l n b more (Ended d) x e le none deep later = (
    leaf_at l n b e le none (Ended d) x (λ y. y),
    past_leaf (Leaf out) d more (λ (ne : d ≡ Failed → ⊥). later (none_more l n none (λ y. ne (let z : Ended d ≡ Ended Failed = sym x ∙ y in cc)))),
  )

  scan_leaf : (below : List ℕ → ℕ → List (List ℕ)) (l : List ℕ) (k n b : ℕ) → out l ≡ Open b → n + k ≡ suc b → NoneFail l n
      → ((s : List ℕ) (c : ℕ) → out s ≡ Open c → AllByRecursion (Leaf out) (below s c)) → AllByRecursion (Leaf out) (scan out below l k n)
  unfolding scan
  scan_leaf below l zero n b e le none deep = tt
  scan_leaf below l (suc k) n b e le none deep = here_leaf below l n b (scan out below l k (suc n)) (out (l ++ n ∷ [])) refl e (omega arith) none deep (λ h. scan_leaf below l k (suc n) b e (omega arith) h deep)

  level_leaf : (f : ℕ) (l : List ℕ) (b : ℕ) → out l ≡ Open b → AllByRecursion (Leaf out) (level out f l b)
  unfolding level NoneFail
  level_leaf zero l b e = tt
  level_leaf (suc f) l b e = scan_leaf (level out f) l (suc b) 0 b e (omega arith) (λ m lt x. omega arith) (level_leaf f)

  -- each leaf is there
  here_right : (below : List ℕ → ℕ → List (List ℕ)) (p : List ℕ) (more : List (List ℕ)) (o : Outcome) (s : List ℕ) → (o ≡ Ended Failed → ⊥) → Has more s → Has (here below p more o) s
  here_right below p more (Open b) s x h = has_append_right (below p b) more s h
  here_right below p more (Ended e) s x h = has_append_right (p ∷ []) (past e more) s (past_has e more s (λ y. x (ap Ended y)) h)

  here_left : (below : List ℕ → ℕ → List (List ℕ)) (p : List ℕ) (more : List (List ℕ)) (o : Outcome) (s : List ℕ)
      → ((b : ℕ) → o ≡ Open b → Has (below p b) s) → ((IsOpen o → ⊥) → p ≡ s) → Has (here below p more o) s
  here_left below p more (Open b) s x y = has_append_left (below p b) more s (x b refl)
  here_left below p more (Ended e) s x y = (0, omega arith, λ d. y (λ z. z))

  scan_has : (below : List ℕ → ℕ → List (List ℕ)) (l : List ℕ) (k n a : ℕ) (s : List ℕ) → n ≤ a → a < n + k → NoneFail l a
      → ((b : ℕ) → out (l ++ a ∷ []) ≡ Open b → Has (below (l ++ a ∷ []) b) s) → ((IsOpen (out (l ++ a ∷ [])) → ⊥) → l ++ a ∷ [] ≡ s)
      → Has (scan out below l k n) s
  unfolding scan NoneFail
  scan_has below l zero n a s le lt none x y = absurd (let z : ⊥ = omega arith in z)
  scan_has below l (suc k) n a s le lt none x y =
      ⊎_elim
      (λ (q : a ≡ n).
      let e : l ++ a ∷ [] ≡ l ++ n ∷ [] = ap (λ i. l ++ i ∷ []) q in
      here_left below (l ++ n ∷ []) (scan out below l k (suc n)) (out (l ++ n ∷ [])) s
      (λ b o. subst (λ p. Has (below p b) s) e (x b (ap out e ∙ o)))
      (λ z. sym e ∙ y (λ w. z (subst (λ p. IsOpen (out p)) e w))))
      (λ (q : a ≡ n → ⊥).
      here_right below (l ++ n ∷ []) (scan out below l k (suc n)) (out (l ++ n ∷ [])) s (none n (omega arith))
      (scan_has below l k (suc n) a s (omega arith) (omega arith) none x y))
      (cases_eq a n)

  module _ (laws : Lawful out) where
    -- an open list's beginnings are open, within the bound, and no number before fails
    open_dec : (o : Outcome) → ((b : ℕ) × (o ≡ Open b)) ⊎ (IsOpen o → ⊥)
    open_dec (Open b) = inl (b, refl)
    open_dec (Ended e) = inr (λ x. x)

    open_front : (l m : List ℕ) (b : ℕ) → out (l ++ m) ≡ Open b → (c : ℕ) × (out l ≡ Open c)
    open_front l m b e =
        ⊎_elim (λ h. h) (λ (h : IsOpen (out l) → ⊥). absurd (h (subst IsOpen (sym e ∙ laws.ended l m h) tt))) (open_dec (out l))

    open_within : (l : List ℕ) (b n c : ℕ) → out l ≡ Open b → out (l ++ n ∷ []) ≡ Open c → n ≤ b
    open_within l b n c e x =
        ⊎_elim
        (λ (h : b < n). absurd (let z : Open c ≡ Ended Cut = sym x ∙ laws.above l b n e h in (let w : ◌≡◌ {A = ℕ} 0 1 = cc in (let v : ⊥ = omega arith in v))))
        (λ (h : n ≤ b). h)
        (cases_lt b n)

    none_before : (l : List ℕ) (b n : ℕ) → out l ≡ Open b → n ≤ b → (out (l ++ n ∷ []) ≡ Ended Failed → ⊥) → NoneFail l n
    unfolding NoneFail
    none_before l b n e le x m lt f = x (laws.fails l b m n e f (omega arith) le)

    failed_dec : (o : Outcome) → (o ≡ Ended Failed) ⊎ (o ≡ Ended Failed → ⊥)
    failed_dec (Open b) = inr (λ x. let w : ◌≡◌ {A = ℕ} 0 1 = cc in omega arith)
    failed_dec (Ended Failed) = inl refl
    failed_dec (Ended Cut) = inr (λ x. let w : ◌≡◌ {A = ℕ} 0 1 = cc in omega arith)
    failed_dec (Ended Full) = inr (λ x. let w : ◌≡◌ {A = ℕ} 0 1 = cc in omega arith)

    leaf_none : (l : List ℕ) (n : ℕ) → LeafAt out l n → NoneFail l n
    unfolding NoneFail
    leaf_none l n leaf =
        ⊎_elim
        (λ (e : out (l ++ n ∷ []) ≡ Ended Failed). λ m lt f. leaf.least m lt e f)
        (λ (e : out (l ++ n ∷ []) ≡ Ended Failed → ⊥). none_before l leaf.bound n leaf.opened leaf.within e)
        (failed_dec (out (l ++ n ∷ [])))

    level_has : (r l : List ℕ) (f b n : ℕ) → f + length l ≡ 64 → out l ≡ Open b → LeafAt out (l ++ r) n → Has (level out f l b) ((l ++ r) ++ n ∷ [])
    unfolding level
    level_has r l zero b n len e leaf = absurd (laws.short l (omega arith) (subst IsOpen (sym e) tt))
    level_has [] l (suc f) b n len e leaf =
        let same : l ++ [] ≡ l = append-nil l in
        let at : LeafAt out l n = subst (λ p. LeafAt out p n) same leaf in
        let bb : at.bound ≡ b = (let z : Open at.bound ≡ Open b = sym at.opened ∙ e in cc) in
        let goal : Has (scan out (level out f) l (suc b) 0) (l ++ n ∷ []) =
        scan_has (level out f) l (suc b) 0 n (l ++ n ∷ []) (omega arith) (omega (arith, at.within, bb)) (leaf_none l n at)
        (λ c x. absurd (at.ends (subst IsOpen (sym x) tt))) (λ z. refl) in
        subst (λ p. Has (scan out (level out f) l (suc b) 0) (p ++ n ∷ [])) (sym same) goal
    level_has (a ∷ r) l (suc f) b n len e leaf =
        let split : l ++ a ∷ r ≡ (l ++ a ∷ []) ++ r = sym (append_assoc l (a ∷ []) r) in
        let at : LeafAt out ((l ++ a ∷ []) ++ r) n = subst (λ p. LeafAt out p n) split leaf in
        let front = open_front (l ++ a ∷ []) r at.bound at.opened in
        let le : a ≤ b = open_within l b a front.0 e front.1 in
        let none = none_before l b a e le (λ x. let z : Open front.0 ≡ Ended Failed = sym front.1 ∙ x in (let w : ◌≡◌ {A = ℕ} 0 1 = cc in omega arith)) in
        scan_has (level out f) l (suc b) 0 a ((l ++ a ∷ r) ++ n ∷ []) (omega arith) (omega arith) none
        (λ c x. subst (λ p. Has (level out f (l ++ a ∷ []) c) (p ++ n ∷ [])) (sym split) (level_has r (l ++ a ∷ []) f c n (omega (arith, length-append l (a ∷ []), len)) x at))
        (λ z. absurd (z (subst IsOpen (sym front.1) tt)))

    pub complete : Complete out (leaves out)
    complete =
        ⊎_elim
        (λ (o : (b : ℕ) × (out [] ≡ Open b)).
        let same = leaves_at out (Open o.0) o.1 in
        subst (Complete out) (sym same) (record {
          only = level_leaf 64 [] o.0 o.1;
          every = λ s leaf. subst (Has (level out 64 [] o.0)) (sym leaf.2) (level_has leaf.0 [] 64 o.0 leaf.1 (omega arith) o.1 leaf.3);
          order = level_ascending 64 [] o.0;
        }))
        (λ (x : IsOpen (out []) → ⊥). absurd (x laws.start))
        (open_dec (out []))
