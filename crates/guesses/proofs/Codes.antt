-- The instructions of a program that exists hold only lawful codes, and so do its runs.
use Rattle.std.proofs.Common.{◌≡◌, ℕ, suc, Bool, true, false, List, [], ◌∷◌, drop, refl}
use Rattle.std.proofs.ByRecursion.{All-append}
use Rattle.kinds.specs.Meaning.{Meaning, Lawful}
use Rattle.records.specs.declared.statement.Statement.{Statement}
use Rattle.records.specs.declared.statement.Statement.TheVariants.{Set, Copy, Sum, Difference, Less, Same, Jump, Branch, Assume, Assert, Init, Destroy, Lock, Unlock, Create, Join}
use Rattle.states.specs.Codes.{LawfulCodes}
use Rattle.tables.specs.Program.{Program, own}
use Rattle.tables.specs.WellFormed.{Counts, Fit, WellFormed}
use Rattle.sequences.specs.Code.{inner, guards, guarded, behind, section, address_in}
use Rattle.sequences.specs.Codes.{LawfulInstruction, LawfulSection}
use Rattle.sequences.specs.Drives.{drive, cells_of, sequence}
use Rattle.sequences.proofs.Lawfuls.{lawful_drive}
use Rattle.guesses.specs.Sweep.{drop_next}
use Rattle.guesses.specs.Texts.{counts_of, fits}

lawful_inner : (k : Meaning) (M : Counts) (l : ℕ) (p : Program) (i : ℕ) (A : ℕ → ℕ) (x : Statement) → Fit k M l x → LawfulSection k (inner p i A x)
lawful_inner k M l p i A (Set d c) f = (f.1, tt)
lawful_inner k M l p i A (Copy d a) f = (tt, tt)
lawful_inner k M l p i A (Sum d a b) f = (tt, tt)
lawful_inner k M l p i A (Difference d a b) f = (tt, tt)
lawful_inner k M l p i A (Less d a b) f = (tt, tt)
lawful_inner k M l p i A (Same d a b) f = (tt, tt)
lawful_inner k M l p i A (Jump t) f = (tt, tt)
lawful_inner k M l p i A (Branch a t) f = (tt, tt)
lawful_inner k M l p i A (Assume a) f = (tt, tt)
lawful_inner k M l p i A (Assert a) f = (tt, tt)
lawful_inner k M l p i A (Init m) f = (tt, tt)
lawful_inner k M l p i A (Destroy m) f = (tt, tt)
lawful_inner k M l p i A (Lock m) f = (tt, (tt, (tt, tt)))
lawful_inner k M l p i A (Unlock m) f = (tt, (tt, tt))
lawful_inner k M l p i A (Create j) f = (tt, tt)
lawful_inner k M l p i A (Join j) f = (tt, tt)

lawful_guards : (k : Meaning) (b : Bool) (t : ℕ) → LawfulSection k (guards b t)
lawful_guards k true t = (tt, tt)
lawful_guards k false t = tt

module _ (k : Meaning) (p : Program) (w : WellFormed k p) (i : ℕ) where
  lawful_behind : (A : ℕ → ℕ) (xs : List Statement) (l : ℕ) → drop l (own p i) ≡ xs → LawfulSection k (behind p i (guarded (own p i)) A xs l)
  lawful_behind A [] l e = (tt, tt)
  lawful_behind A (x ∷ xs) l e =
      let G = guards (guarded (own p i) (suc l)) (suc l) in
      let more = lawful_behind A xs (suc l) (drop_next (own p i) l x xs e) in
      (tt, All-append (LawfulInstruction k) (inner p i A x) _ (lawful_inner k (counts_of p i) l p i A x (fits k p w i l x xs e)) (All-append (LawfulInstruction k) G _ (lawful_guards k (guarded (own p i) (suc l)) (suc l)) more))

  pub lawful_section : LawfulSection k (section p i)
  lawful_section = lawful_behind (address_in p i) (own p i) 0 refl

-- every run of Drive leaves lawful codes in the cells
pub drive_codes : (k : Meaning) → Lawful k → (p : Program) → WellFormed k p → (rounds : ℕ) (ns : List ℕ) → LawfulCodes k (cells_of p (drive k p rounds ns).state)
drive_codes k laws p w rounds ns = lawful_drive k laws (sequence p rounds) (lawful_section k p w) p.cells ns w.lawful
