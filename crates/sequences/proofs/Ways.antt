-- One more statement on the way to a label.
use Rattle.std.proofs.Common.{◌≡◌, ℕ, suc, ◌+◌, ◌-◌, ◌^◌, ◌<◌, ◌≤◌, Bool, true, false, ◌||◌, List, [], ◌∷◌, ◌++◌, length, get_or, take, drop, set, replicate, sym, refl, ap, ◌∙◌, inl, inr, subst, append-nil, arith, get_or-set_other, get_or-set_same}
use Rattle.std.specs.List.{AllByRecursion, list_any}
use Rattle.std.proofs.ByRecursion.{All-take, All-append}
use borrow.Rule.Slice.PartMut.{put_mid}
use Rattle.states.proofs.Codes.{all_or, all_replicate}
use Rattle.std.proofs.lemmas.List.{drop_more, drop_all, length-drop, length-take-le, get_or_append_left, get_or-append_right, get_or-take, get_or-replicate}
use Rattle.std.proofs.lemmas.Bool.{cases_eq, cases_lt}
use Rattle.records.specs.declared.statement.Statement.{Statement}
use Rattle.records.specs.declared.statement.Statement.TheVariants.{Set, Copy, Sum, Difference, Less, Same, Jump, Branch, Assume, Assert, Init, Destroy, Lock, Unlock, Create, Join}
use Rattle.tables.specs.Program.{Program}
use Rattle.sequences.specs.Code.{inner, names, guarded, guards, past, address, address_of}
use Rattle.sequences.specs.Writes.{width, beyond}

-- a label has a guard where some statement names it
pub any_names : (text : List Statement) (t : ℕ) → list_any (names t) text ≡ guarded text t
any_names [] t = refl
any_names (x ∷ xs) t = ap (λ b. names t x || b) (any_names xs t)

-- addresses behind guards and statements, as sums
pub past_guards : (b : Bool) (t h : ℕ) → past (guards b t) h ≡ beyond b h
past_guards true t h = omega arith
past_guards false t h = refl

pub past_inner : (p : Program) (i : ℕ) (A : ℕ → ℕ) (x : Statement) (h : ℕ) → past (inner p i A x) h ≡ h + width x
past_inner p i A (Set d c) h = omega arith
past_inner p i A (Copy d a) h = omega arith
past_inner p i A (Sum d a b) h = omega arith
past_inner p i A (Difference d a b) h = omega arith
past_inner p i A (Less d a b) h = omega arith
past_inner p i A (Same d a b) h = omega arith
past_inner p i A (Jump t) h = omega arith
past_inner p i A (Branch a t) h = omega arith
past_inner p i A (Assume a) h = omega arith
past_inner p i A (Assert a) h = omega arith
past_inner p i A (Init m) h = omega arith
past_inner p i A (Destroy m) h = omega arith
past_inner p i A (Lock m) h = omega arith
past_inner p i A (Unlock m) h = omega arith
past_inner p i A (Create j) h = omega arith
past_inner p i A (Join j) h = omega arith

module _ (p : Program) (i : ℕ) (text : List Statement) where
  -- the statement at l ends where the guard of the next label stands
  ends_at : (l h : ℕ) (z : Statement) → past (inner p i (λ t. 0) (get_or text l z)) (suc h) ≡ h + 1 + width (get_or text l z)
  ends_at l h z =
      let e = past_inner p i (λ t. 0) (get_or text l z) (suc h) in
      omega arith

  address_here : (l h : ℕ) (z : Statement) → l < length text → address p i (guarded text) (drop l text) l h 0 ≡ h + 1 + width (get_or text l z)
  address_here l h z b = ap (λ xs. address p i (guarded text) xs l h 0) (drop_more text l z b) ∙ ends_at l h z

  address_later : (l h e : ℕ) (z : Statement) → l < length text → address p i (guarded text) (drop l text) l h (suc e) ≡ address p i (guarded text) (drop (l + 1) text) (l + 1) (beyond (guarded text (l + 1)) (h + 1 + width (get_or text l z))) e
  address_later l h e z b =
      let m : suc l ≡ l + 1 = omega arith in
      ap (λ xs. address p i (guarded text) xs l h (suc e)) (drop_more text l z b)
      ∙ ap (λ s. address p i (guarded text) (drop (l + 1) text) s (past (guards (guarded text s) s) (past (inner p i (λ t. 0) (get_or text l z)) (suc h))) e) m
      ∙ ap (λ a. address p i (guarded text) (drop (l + 1) text) (l + 1) a e) (past_guards (guarded text (l + 1)) (l + 1) _ ∙ ap (beyond (guarded text (l + 1))) (ends_at l h z))

  address_none : (l h e : ℕ) → length text ≤ l → address p i (guarded text) (drop l text) l h e ≡ h
  address_none l h e b = ap (λ xs. address p i (guarded text) xs l h e) (drop_all l text b)

  -- the labels up to l are found, and what is left of the way comes to the others
  pub record Found (l h : ℕ) (at : List ℕ) : Type 0 where
    pub known : (t : ℕ) → t ≤ l → get_or at t 0 ≡ address_of p i text t
    pub rest : (e : ℕ) → address_of p i text (l + 1 + e) ≡ address p i (guarded text) (drop l text) l h e

  pub found_none : (at : List ℕ) → get_or at 0 0 ≡ 0 → Found 0 0 at
  found_none at z =
      record {
        known = λ t b. (let e : t ≡ 0 = omega arith in ap (λ t. get_or at t 0) e ∙ z ∙ ap (address_of p i text) (sym e));
        rest = λ e. (let s : 0 + 1 + e ≡ suc e = omega arith in ap (address_of p i text) s);
      }

  pub found_more : (l h end g : ℕ) (at : List ℕ) (z : Statement) → l < length text → l + 1 < length at → end ≡ h + 1 + width (get_or text l z) → g ≡ beyond (guarded text (l + 1)) end → Found l h at → Found (l + 1) g (set at (l + 1) end)
  found_more l h end g at z b room ee eg f =
      record {
        known =
            λ t c.
            elim (cases_eq t (l + 1)) [
              | inl e ↦
                  let n : l + 1 ≡ l + 1 + 0 = omega arith in
                  ap (λ t. get_or (set at (l + 1) end) t 0) e ∙ get_or-set_same at (l + 1) end 0 room ∙ ee ∙ sym (address_here l h z b) ∙ sym (f.rest 0) ∙ ap (address_of p i text) (sym (e ∙ n))
              | inr e ↦
                  let n : t ≤ l = omega (arith, e) in
                  get_or-set_other at (l + 1) t end 0 e ∙ f.known t n
            ];
        rest =
            λ e.
            (let n : l + 1 + 1 + e ≡ l + 1 + suc e = omega arith in ap (address_of p i text) n)
            ∙ f.rest (suc e)
            ∙ address_later l h e z b
            ∙ ap (λ a. address p i (guarded text) (drop (l + 1) text) (l + 1) a e) (sym (eg ∙ ap (beyond (guarded text (l + 1))) ee));
      }

  -- the labels behind the statements have the address that is left
  pub found_all : (l h : ℕ) (at new : List ℕ) → length text ≡ l → l ≤ 255 → length at ≡ 256 → new ≡ take (l + 1) at ++ replicate (256 - (l + 1)) h → Found l h at → (t : ℕ) → t < 256 → get_or new t 0 ≡ address_of p i text t
  found_all l h at new el few la en f t b =
      let k : length (take (l + 1) at) ≡ l + 1 = length-take-le (l + 1) at (omega arith) in
      ap (λ xs. get_or xs t 0) en
      ∙ elim (cases_lt t (l + 1)) [
        | inl c ↦ get_or_append_left (take (l + 1) at) (replicate (256 - (l + 1)) h) 0 t (omega arith) ∙ get_or-take (l + 1) at t 0 c ∙ f.known t (omega arith)
        | inr c ↦
            let m : l + 1 + (t - (l + 1)) ≡ t = omega arith in
            get_or-append_right (take (l + 1) at) (replicate (256 - (l + 1)) h) (l + 1) t 0 k c
            ∙ get_or-replicate (256 - (l + 1)) (t - (l + 1)) h 0 (omega arith)
            ∙ sym (ap (address_of p i text) (sym m) ∙ f.rest (t - (l + 1)) ∙ address_none l h (t - (l + 1)) (omega arith))
      ]

pub near_all : (n m h : ℕ) (at new : List ℕ) → h ≤ 1275 → new ≡ take n at ++ replicate m h → AllByRecursion (λ a. a ≤ 1275) at → (t : ℕ) → get_or new t 0 < 2 ^ 15
near_all n m h at new b en all t =
    let P : ℕ → Type 0 = λ a. a ≤ 1275 in
    let both : AllByRecursion P (take n at ++ replicate m h) = All-append P (take n at) (replicate m h) (All-take P n at all) (all_replicate P m h b) in
    let c = all_or P new t 0 (omega arith) (subst (AllByRecursion P) (sym en) both) in
    omega arith

-- a list of 256 that is filled from a place on
pub filled : (n m h : ℕ) (at ys : List ℕ) → length at ≡ 256 → ys ≡ replicate m h → m ≡ 256 - n → put_mid n (256 - n) at ys ≡ take n at ++ replicate (256 - n) h
filled n m h at ys l e em =
    ap (λ zs. take n at ++ (ys ++ zs)) (drop_all (256 - n) (drop n at) (omega (arith, length-drop n at)))
    ∙ ap (λ zs. take n at ++ zs) (append-nil ys ∙ e ∙ ap (λ k. replicate k h) em)
