-- The statements of a thread of a well-formed program: how many they are, and that their fields fit.
use Rattle.std.specs.Prelude.{◌≡◌, ℕ, zero, suc, ◌+◌, ◌<◌, ◌≤◌, List, [], ◌∷◌, length, take, drop, Some, slice_index_or, refl}
use Rattle.std.proofs.Common.{sym, ap, subst, ◌∙◌, arith, drop-drop, length-take-le}
use Rattle.std.specs.List.{slice_get}
use Rattle.kinds.specs.Meaning.{Meaning}
use Rattle.records.specs.declared.statement.Statement.{Statement}
use Rattle.tables.specs.declared.text.ThreadText.{ThreadText}
use Rattle.tables.specs.Program.{Program, no_text, text_of, size, own, due}
use Rattle.tables.specs.WellFormed.{Counts, Fit, Numbered, Threads, WellFormed, counts}

-- A text of so many statements, which are the ones that stand there in a list.
pub record Placed (k : Meaning) (cs ms n : ℕ) (t : ThreadText) (all : List Statement) : Type 0 where
  pub few : t.size ≤ 48
  pub long : length (take t.size (drop t.first all)) ≡ t.size
  pub numbered : Numbered k (counts cs ms n t.locals t.size) 0 (take t.size (drop t.first all))

placed : (k : Meaning) (cs ms n at : ℕ) (ts : List ThreadText) (ss all : List Statement) (i : ℕ) → ss ≡ drop at all → Threads k cs ms n at ts ss → Placed k cs ms n (slice_index_or ts i no_text) all
placed k cs ms n at [] ss all i e f = record { few = omega arith; long = refl; numbered = tt }
placed k cs ms n at (t ∷ ts) ss all zero e f =
    let own : take t.size ss ≡ take t.size (drop t.first all) = ap (take t.size) (e ∙ ap (λ a. drop a all) (sym f.3)) in
    record {
      few = f.2;
      long = ap length (sym own) ∙ length-take-le t.size ss f.4;
      numbered = subst (Numbered k (counts cs ms n t.locals t.size) 0) own f.5;
    }
placed k cs ms n at (t ∷ ts) ss all (suc i) e f =
    placed k cs ms n (at + t.size) ts (drop t.size ss) all i (ap (drop t.size) e ∙ drop-drop t.size at all) f.6

-- the statement at a place has the place's number
numbered_at : (k : Meaning) (m : Counts) (n l : ℕ) (xs : List Statement) (y : Statement) (ys : List Statement) → Numbered k m n xs → drop l xs ≡ y ∷ ys → Fit k m (n + l) y
numbered_at k m n zero [] y ys f e = absurd (let z : ◌≡◌ {A = ℕ} 0 1 = cc in omega arith)
numbered_at k m n (suc l) [] y ys f e = absurd (let z : ◌≡◌ {A = ℕ} 0 1 = cc in omega arith)
numbered_at k m n zero (x ∷ xs) y ys f e =
    let here : n ≡ n + 0 = omega arith in
    let same : x ≡ y = cc in
    subst (λ j. Fit k m j y) here (subst (Fit k m n) same f.0)
numbered_at k m n (suc l) (x ∷ xs) y ys f e =
    let on : (n + 1) + l ≡ n + suc l = omega arith in
    subst (λ j. Fit k m j y) on (numbered_at k m (n + 1) l xs y ys f.1 e)

-- a statement that stands at a place is the first of those from there on
pub drop_nth : {X : Type 0} (xs : List X) (l : ℕ) (x : X) → slice_get xs l ≡ Some x → drop l xs ≡ x ∷ drop (suc l) xs
drop_nth [] l x e = absurd (let z : ◌≡◌ {A = ℕ} 0 1 = cc in omega arith)
drop_nth (y ∷ xs) zero x e = let same : y ≡ x = cc in ap (λ z. z ∷ xs) same
drop_nth (y ∷ xs) (suc l) x e = drop_nth xs l x e

pub nth_drop : {X : Type 0} (xs : List X) (l : ℕ) (x : X) (ys : List X) → drop l xs ≡ x ∷ ys → slice_get xs l ≡ Some x
nth_drop [] zero x ys e = absurd (let z : ◌≡◌ {A = ℕ} 0 1 = cc in omega arith)
nth_drop [] (suc l) x ys e = absurd (let z : ◌≡◌ {A = ℕ} 0 1 = cc in omega arith)
nth_drop (y ∷ xs) zero x ys e = cc
nth_drop (y ∷ xs) (suc l) x ys e = nth_drop xs l x ys e

nth_within : {X : Type 0} (xs : List X) (l : ℕ) (x : X) → slice_get xs l ≡ Some x → l < length xs
nth_within [] l x e = absurd (let z : ◌≡◌ {A = ℕ} 0 1 = cc in omega arith)
nth_within (y ∷ xs) zero x e = omega arith
nth_within (y ∷ xs) (suc l) x e = omega (arith, nth_within xs l x e)

-- what the statements of thread i are measured by
abbrev pub counts_of : Program → ℕ → Counts
counts_of p i = counts (length p.cells) p.mutexes (length p.texts) (text_of p i).locals (size p i)

module _ (k : Meaning) (p : Program) (w : WellFormed k p) (i : ℕ) where
  text_placed : Placed k (length p.cells) p.mutexes (length p.texts) (text_of p i) p.statements
  text_placed = placed k (length p.cells) p.mutexes (length p.texts) 0 p.texts p.statements p.statements i refl w.threads

  pub own_length : length (own p i) ≡ size p i
  own_length = text_placed.long

  pub size_few : size p i ≤ 48
  size_few = text_placed.few

  pub fits : (l : ℕ) (x : Statement) (xs : List Statement) → drop l (own p i) ≡ x ∷ xs → Fit k (counts_of p i) l x
  fits l x xs e =
      let z : 0 + l ≡ l = omega arith in
      subst (λ j. Fit k (counts_of p i) j x) z (numbered_at k (counts_of p i) 0 l (own p i) x xs text_placed.numbered e)

  -- the statement that is due at a label
  pub due_within : (l : ℕ) (x : Statement) → due p i l ≡ Some x → l < size p i
  due_within l x e = omega (arith, nth_within (own p i) l x e, own_length)

  pub due_fits : (l : ℕ) (x : Statement) → due p i l ≡ Some x → Fit k (counts_of p i) l x
  due_fits l x e = fits l x (drop (suc l) (own p i)) (drop_nth (own p i) l x e)
