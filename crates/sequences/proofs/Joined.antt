-- The sections of all threads one behind the other.
use Rattle.std.proofs.Common.{◌≡◌, ℕ, zero, suc, ◌+◌, ◌-◌, ◌*◌, ◌<◌, ◌≤◌, min, Bool, true, false, List, [], ◌∷◌, ◌++◌, length, get_or, take, drop, sym, ap, ◌∙◌, inl, inr, append_assoc, append-nil, arith, length-append}
use native.Mathlib.Nat.{min-eq_left}
use Rattle.std.specs.List.{AllByRecursion}
use Rattle.std.proofs.ByRecursion.{All-take, All-drop}
use Rattle.std.proofs.lemmas.List.{take_all, take-append-le, drop-append-le, drop_all, get_or_append_left, get_or_push}
use Rattle.std.proofs.lemmas.Bool.{cases_lt}
use Rattle.records.specs.declared.statement.Statement.{Statement}
use Rattle.records.specs.declared.statement.Statement.TheVariants.{Set, Copy, Sum, Difference, Less, Same, Jump, Branch, Assume, Assert, Init, Destroy, Lock, Unlock, Create, Join}
use Rattle.tables.specs.Program.{Program, text_of, size, own}
use Rattle.sequences.specs.declared.instruction.Instruction.{Instruction}
use Rattle.sequences.specs.declared.sequence.Part.{Part}
use Rattle.sequences.specs.Code.{inner, guards, guarded, behind, address_in, section}
use Rattle.sequences.specs.Sequences.{no_part, part_between, part_in, parts_in}
use Rattle.sequences.specs.Writes.{Translatable}

abbrev pub joined : Program → ℕ → List Instruction
joined p zero = []
joined p (suc n) = joined p n ++ section p n

-- how long they are
inner_few : (p : Program) (i : ℕ) (A : ℕ → ℕ) (x : Statement) → length (inner p i A x) ≤ 3
inner_few p i A (Set d c) = omega arith
inner_few p i A (Copy d a) = omega arith
inner_few p i A (Sum d a b) = omega arith
inner_few p i A (Difference d a b) = omega arith
inner_few p i A (Less d a b) = omega arith
inner_few p i A (Same d a b) = omega arith
inner_few p i A (Jump t) = omega arith
inner_few p i A (Branch a t) = omega arith
inner_few p i A (Assume a) = omega arith
inner_few p i A (Assert a) = omega arith
inner_few p i A (Init m) = omega arith
inner_few p i A (Destroy m) = omega arith
inner_few p i A (Lock m) = omega arith
inner_few p i A (Unlock m) = omega arith
inner_few p i A (Create j) = omega arith
inner_few p i A (Join j) = omega arith

guards_few : (b : Bool) (t : ℕ) → length (guards b t) ≤ 1
guards_few true t = omega arith
guards_few false t = omega arith

behind_few : (p : Program) (i : ℕ) (g : ℕ → Bool) (A : ℕ → ℕ) (xs : List Statement) (l : ℕ) → length (behind p i g A xs l) ≤ 5 * length xs + 1
behind_few p i g A [] l = omega arith
behind_few p i g A (x ∷ xs) l =
    let a = length-append (inner p i A x) (guards (g (suc l)) (suc l) ++ behind p i g A xs (suc l)) in
    let b = length-append (guards (g (suc l)) (suc l)) (behind p i g A xs (suc l)) in
    let c = inner_few p i A x in
    let d = guards_few (g (suc l)) (suc l) in
    let e = behind_few p i g A xs (suc l) in
    omega arith

take_few : {X : Type 0} (n : ℕ) (xs : List X) → length (take n xs) ≤ n
take_few zero xs = omega arith
take_few (suc n) [] = omega arith
take_few (suc n) (x ∷ xs) = let h = take_few n xs in omega arith

module _ (p : Program) (small : Translatable p) where
  pub section_few : (i : ℕ) → length (section p i) ≤ 241
  section_few i =
      let a = behind_few p i (guarded (own p i)) (address_in p i) (own p i) 0 in
      let b : length (own p i) ≤ size p i = take_few (size p i) (drop (text_of p i).first p.statements) in
      omega (arith, small.sizes i)

  joined_few : (n : ℕ) → length (joined p n) ≤ 241 * n
  joined_few zero = omega arith
  joined_few (suc n) =
      let a = length-append (joined p n) (section p n) in
      let b = joined_few n in
      let c = section_few n in
      omega arith

-- which part a section is
abbrev pub part : Program → ℕ → Part
part p j = record { first = length (joined p j); size = length (section p j) }

-- the sections of the first n threads
pub record Written (p : Program) (n : ℕ) (xs : List Instruction) (ts : List Part) : Type 0 where
  pub code : xs ≡ joined p n
  pub many : length ts ≡ n
  pub parts : (j : ℕ) → j < n → get_or ts j no_part ≡ part p j

module _ {X : Type 0} where
  -- a piece between two others
  between : (xs ys zs : List X) → take (length ys) (drop (length xs) (xs ++ (ys ++ zs))) ≡ ys
  between xs ys zs =
      ap (take (length ys)) (drop-append-le (length xs) xs (ys ++ zs) (omega arith) ∙ ap (λ l. l ++ (ys ++ zs)) (drop_all (length xs) xs (omega arith)))
      ∙ take-append-le (length ys) ys zs (omega arith)
      ∙ take_all (length ys) ys (omega arith)

module _ (p : Program) where
  joined_split : (i n : ℕ) → i < n → (rest : List Instruction) × (joined p n ≡ joined p i ++ (section p i ++ rest))
  joined_split i zero h = absurd (omega arith)
  joined_split i (suc n) h =
      elim (cases_lt i n) [
        | inl l ↦
            let r = joined_split i n l in (
              r.0 ++ section p n,
              ap (λ xs. xs ++ section p n) r.1
                  ∙ append_assoc (joined p i) (section p i ++ r.0) (section p n)
                  ∙ ap (λ xs. joined p i ++ xs) (append_assoc (section p i) r.0 (section p n)),
            )
        | inr l ↦
            let e : n ≡ i = omega arith in
            ([], ap (λ m. joined p m ++ section p m) e ∙ ap (λ xs. joined p i ++ xs) (sym (append-nil (section p i))))
      ]

  pub written_sections : (n : ℕ) (xs : List Instruction) (ts : List Part) → Written p n xs ts → (i : ℕ) → i < n → parts_in xs ts i ≡ section p i
  written_sections n xs ts w i h =
      let r = joined_split i n h in
      ap (part_in xs) (w.parts i h)
      ∙ ap (λ ys. part_in ys (part p i)) (w.code ∙ r.1)
      ∙ between (joined p i) (section p i) r.0

  pub written_more : Translatable p → (n : ℕ) (xs ys : List Instruction) (ts us : List Part) (t : Part) → n < 8 → Written p n xs ts → ys ≡ take 1936 (xs ++ section p n) → us ≡ ts ++ t ∷ [] → t ≡ part_between (length xs) (length ys) → Written p (n + 1) ys us
  written_more small n xs ys ts us t b w ey eu et =
      let s : suc n ≡ n + 1 = omega arith in
      let few = joined_few p small (suc n) in
      let code : ys ≡ joined p (suc n) = ey ∙ ap (λ l. take 1936 (l ++ section p n)) w.code ∙ take_all 1936 (joined p (suc n)) (omega arith) in
      let lx : length xs ≡ length (joined p n) = ap length w.code in
      let ly : length ys ≡ length (joined p n) + length (section p n) = ap length code ∙ length-append (joined p n) (section p n) in
      let long = section_few p small n in
      let m : length ys - length xs ≡ length (section p n) = omega arith in
      let size : min (length ys - length xs) 255 ≡ length (section p n) = ap (λ z. min z 255) m ∙ min-eq_left (omega arith) in
      let there : t ≡ part p n = et ∙ ap (λ f. record { first = f; size = min (length ys - length xs) 255 }) lx ∙ ap (λ z. record { first = length (joined p n); size = z }) size in
      record {
        code = code ∙ ap (joined p) s;
        many = ap length eu ∙ length-append ts (t ∷ []) ∙ (let m = w.many in omega arith);
        parts =
            λ j h.
            ap (λ l. get_or l j no_part) eu
            ∙ (elim (cases_lt j n) [
              | inl l ↦ get_or_append_left ts (t ∷ []) no_part j (omega (arith, w.many)) ∙ w.parts j l
              | inr l ↦
                  let e : j ≡ n = omega arith in
                  get_or_push ts t no_part j (omega (arith, w.many)) ∙ there ∙ ap (part p) (sym e)
            ]);
      }

-- the statements of a thread keep what all statements keep
pub own_all : (P : Statement → Type 0) (p : Program) (i : ℕ) → AllByRecursion P p.statements → AllByRecursion P (own p i)
own_all P p i all = All-take P (size p i) (drop (text_of p i).first p.statements) (All-drop P (text_of p i).first p.statements all)
