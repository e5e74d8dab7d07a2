-- Where the instructions of a section stand, and that all lead forward.
use Rattle.std.specs.Prelude.{◌≡◌, ℕ, zero, suc, ◌+◌, ◌-◌, ◌<◌, ◌≤◌, Bool, true, false, List, [], ◌∷◌, ◌++◌, length, drop, refl}
use Rattle.std.proofs.Common.{sym, ap, subst, ◌∙◌, arith}
use Rattle.std.proofs.lemmas.Bool.{eq-eqb}
use Rattle.kinds.specs.Meaning.{Meaning}
use Rattle.records.specs.declared.statement.Statement.{Statement}
use Rattle.records.specs.declared.statement.Statement.TheVariants.{Set, Copy, Sum, Difference, Less, Same, Jump, Branch, Assume, Assert, Init, Destroy, Lock, Unlock, Create, Join}
use Rattle.tables.specs.Program.{Program, own}
use Rattle.tables.specs.WellFormed.{WellFormed}
use Rattle.sequences.specs.declared.instruction.Instruction.{Instruction}
use Rattle.sequences.specs.Code.{inner, past, guards, guarded, names, address, address_in, behind, section}
use Rattle.sequences.proofs.Ways.{past_inner}
use Rattle.guesses.specs.Onwards.{named_above}
use Rattle.guesses.specs.Sweep.{Ahead, past_up, drop_next}
use Rattle.guesses.specs.Texts.{counts_of, fits}

-- where a statement's instructions end does not depend on the addresses
pub inner_past : (p : Program) (i : ℕ) (A : ℕ → ℕ) (x : Statement) (h : ℕ) → past (inner p i A x) h ≡ past (inner p i (λ t. 0) x) h
inner_past p i A x h = past_inner p i A x h ∙ sym (past_inner p i (λ t. 0) x h)

-- a statement has an instruction
one_more : (p : Program) (i : ℕ) (x : Statement) (h : ℕ) → h < past (inner p i (λ t. 0) x) h
one_more p i (Set d c) h = omega arith
one_more p i (Copy d a) h = omega arith
one_more p i (Sum d a b) h = omega arith
one_more p i (Difference d a b) h = omega arith
one_more p i (Less d a b) h = omega arith
one_more p i (Same d a b) h = omega arith
one_more p i (Jump t) h = omega arith
one_more p i (Branch a t) h = omega arith
one_more p i (Assume a) h = omega arith
one_more p i (Assert a) h = omega arith
one_more p i (Init m) h = omega arith
one_more p i (Destroy m) h = omega arith
one_more p i (Lock m) h = omega arith
one_more p i (Unlock m) h = omega arith
one_more p i (Create j) h = omega arith
one_more p i (Join j) h = omega arith

ahead_append : (xs ys : List Instruction) (h : ℕ) → Ahead xs h → Ahead ys (past xs h) → Ahead (xs ++ ys) h
ahead_append [] ys h a b = b
ahead_append (x ∷ xs) ys h a b = (a.0, ahead_append xs ys (suc h) a.1 b)

ahead_guards : (b : Bool) (t h : ℕ) → Ahead (guards b t) h
ahead_guards true t h = (omega arith, tt)
ahead_guards false t h = tt

-- the instructions of a statement, whose jumps go forward
ahead_inner : (p : Program) (i : ℕ) (A : ℕ → ℕ) (x : Statement) (h : ℕ) → ((t : ℕ) → names t x ≡ true → h < A t) → Ahead (inner p i A x) h
ahead_inner p i A (Set d c) h f = (omega arith, tt)
ahead_inner p i A (Copy d a) h f = (omega arith, tt)
ahead_inner p i A (Sum d a b) h f = (omega arith, tt)
ahead_inner p i A (Difference d a b) h f = (omega arith, tt)
ahead_inner p i A (Less d a b) h f = (omega arith, tt)
ahead_inner p i A (Same d a b) h f = (omega arith, tt)
ahead_inner p i A (Jump t) h f = (f t.0 (eq-eqb t.0 t.0 refl), tt)
ahead_inner p i A (Branch a t) h f = (f t.0 (eq-eqb t.0 t.0 refl), tt)
ahead_inner p i A (Assume a) h f = (omega arith, tt)
ahead_inner p i A (Assert a) h f = (omega arith, tt)
ahead_inner p i A (Init m) h f = (omega arith, tt)
ahead_inner p i A (Destroy m) h f = (omega arith, tt)
ahead_inner p i A (Lock m) h f = (omega arith, (omega arith, (omega arith, tt)))
ahead_inner p i A (Unlock m) h f = (omega arith, (omega arith, tt))
ahead_inner p i A (Create j) h f = (omega arith, tt)
ahead_inner p i A (Join j) h f = (omega arith, tt)

module _ (p : Program) (i : ℕ) where
  -- which labels of thread i have guards
  abbrev pub guard_at : ℕ → Bool
  guard_at = guarded (own p i)

  -- behind the statement x, the address h standing behind the guard of its label: the next guard, and behind that
  abbrev pub then : Statement → ℕ → ℕ
  then x h = past (inner p i (λ t. 0) x) (suc h)

  abbrev pub over : ℕ → ℕ → ℕ
  over l a = past (guards (guard_at l) l) a

  pub address_up : (x : Statement) (xs : List Statement) (l h e : ℕ) → then x h ≤ address p i guard_at (x ∷ xs) l h e
  address_up x xs l h zero = omega arith
  address_up x [] l h (suc e) = past_up (guards (guard_at (suc l)) (suc l)) (then x h)
  address_up x (y ∷ xs) l h (suc e) =
      let h' : ℕ = over (suc l) (then x h) in
      omega (arith, past_up (guards (guard_at (suc l)) (suc l)) (then x h), past_up (inner p i (λ t. 0) y) (suc h'), address_up y xs (suc l) h' e)

  module _ (A : ℕ → ℕ) where
    -- the statements xs stand from the label l on, the address h being behind its guard
    pub record Stands (xs : List Statement) (l h : ℕ) : Type 0 where
      pub left : drop l (own p i) ≡ xs
      pub addresses : (e : ℕ) → 0 < length xs → A (suc l + e) ≡ address p i guard_at xs l h e

    pub stands_next : (x : Statement) (xs : List Statement) (l h : ℕ) → Stands (x ∷ xs) l h → Stands xs (suc l) (over (suc l) (then x h))
    stands_next x xs l h st = record {
      left = drop_next (own p i) l x xs st.left;
      addresses = λ e some. (let z : suc (suc l) + e ≡ suc l + suc e = omega arith in ap A z ∙ st.addresses (suc e) (omega arith));
    }

    -- the guard behind x
    pub next_guard : (x : Statement) (xs : List Statement) (l h : ℕ) → Stands (x ∷ xs) l h → A (suc l) ≡ then x h
    next_guard x xs l h st = (let z : suc l ≡ suc l + 0 = omega arith in ap A z) ∙ st.addresses 0 (omega arith)

    module _ (k : Meaning) (w : WellFormed k p) where
      ahead_behind : (xs : List Statement) (l h : ℕ) → Stands xs l h → Ahead (behind p i guard_at A xs l) h
      ahead_behind [] l h st = (omega arith, tt)
      ahead_behind (x ∷ xs) l h st =
          let G = guards (guard_at (suc l)) (suc l) in
          let I = inner p i A x in
          let ends : past I (suc h) ≡ then x h = inner_past p i A x (suc h) in
          let jumps : (t : ℕ) → names t x ≡ true → suc h < A t =
          λ t n.
          let up = named_above k (counts_of p i) l t x (fits k p w i l x xs st.left) n in
          let z : t ≡ suc l + (t - suc l) = omega (arith, up.0) in
          omega (arith, ap A z, st.addresses (t - suc l) (omega arith), address_up x xs l h (t - suc l), one_more p i x (suc h)) in (
            omega (arith, ap (over (suc l)) (next_guard x xs l h st), past_up G (then x h), past_up (inner p i (λ t. 0) x) (suc h)),
            ahead_append I (G ++ behind p i guard_at A xs (suc l)) (suc h) (ahead_inner p i A x (suc h) jumps)
                (subst (Ahead (G ++ behind p i guard_at A xs (suc l))) (sym ends)
                (ahead_append G (behind p i guard_at A xs (suc l)) (then x h) (ahead_guards (guard_at (suc l)) (suc l) (then x h)) (ahead_behind xs (suc l) (over (suc l) (then x h)) (stands_next x xs l h st)))),
          )

  -- a section stands from its start
  pub begins : Stands (address_in p i) (own p i) 0 0
  begins = record { left = refl; addresses = λ e some. (let z : suc 0 + e ≡ suc e = omega arith in ap (address_in p i) z) }

  pub ahead_section : (k : Meaning) → WellFormed k p → Ahead (section p i) 0
  ahead_section k w = ahead_behind (address_in p i) k w (own p i) 0 0 begins
