-- The translation: a section for each thread, and the driver.
use Rattle.std.specs.Prelude.{ℕ, zero, suc, ◌+◌, Bool, true, false, ◌||◌, List, [], ◌∷◌, ◌++◌, ◌==◌}
use Rattle.records.specs.declared.statement.Label.{Label}
use Rattle.records.specs.declared.statement.Statement.{Statement}
use Rattle.records.specs.declared.statement.Statement.TheVariants.{Set, Copy, Sum, Difference, Less, Same, Jump, Branch, Assume, Assert, Init, Destroy, Lock, Unlock, Create, Join}
use Rattle.records.specs.declared.statement.Thread.{Thread}
use Rattle.tables.specs.Program.{Program, size, own}
use Rattle.tables.specs.Slots.{program_slots, slot_total}
use Rattle.sequences.specs.declared.instruction.Address.{Address}
use Rattle.sequences.specs.declared.instruction.Instruction.{Instruction}
use Rattle.sequences.specs.declared.instruction.Instruction.TheVariants as op
use Rattle.sequences.specs.declared.instruction.Word.{Word}
use Rattle.sequences.specs.Words.{active, saved, lock}

abbrev pub at : ℕ → Address
at a = record { 0 = a }

abbrev pub thread : ℕ → Thread
thread i = record { 0 = i }

abbrev pub label : ℕ → Label
label t = record { 0 = t }

abbrev pub word : ℕ → Word
word w = record { 0 = w }

-- the instructions of thread i's statement, A being where each label's guard stands
abbrev pub inner : Program → ℕ → (A : ℕ → ℕ) → Statement → List Instruction
inner p i A (Set d c) = op.Set d c ∷ []
inner p i A (Copy d a) = op.Copy d a ∷ []
inner p i A (Sum d a b) = op.Sum d a b ∷ []
inner p i A (Difference d a b) = op.Difference d a b ∷ []
inner p i A (Less d a b) = op.Less d a b ∷ []
inner p i A (Same d a b) = op.Same d a b ∷ []
inner p i A (Jump t) = op.Jump (at (A t.0)) ∷ []
inner p i A (Branch a t) = op.Branch a (at (A t.0)) ∷ []
inner p i A (Assume a) = op.Assume a ∷ []
inner p i A (Assert a) = op.Assert a ∷ []
inner p i A (Init m) = op.Put (word (lock m.0)) 0 ∷ []
inner p i A (Destroy m) = op.Put (word (lock m.0)) 1 ∷ []
inner p i A (Lock m) = op.MustNot (word (lock m.0)) 1 ∷ op.Need (word (lock m.0)) 0 ∷ op.Put (word (lock m.0)) (2 + i) ∷ []
inner p i A (Unlock m) = op.Must (word (lock m.0)) (2 + i) ∷ op.Put (word (lock m.0)) 0 ∷ []
inner p i A (Create j) = op.Put (word (active j.0)) 1 ∷ []
inner p i A (Join j) = op.Need (word (saved j.0)) (size p j.0) ∷ []

-- whether a statement is a jump to the label t
abbrev pub names : ℕ → Statement → Bool
names t (Set d c) = false
names t (Copy d a) = false
names t (Sum d a b) = false
names t (Difference d a b) = false
names t (Less d a b) = false
names t (Same d a b) = false
names t (Jump u) = u.0 == t
names t (Branch a u) = u.0 == t
names t (Assume a) = false
names t (Assert a) = false
names t (Init m) = false
names t (Destroy m) = false
names t (Lock m) = false
names t (Unlock m) = false
names t (Create j) = false
names t (Join j) = false

-- whether the label t has a guard: some jump of the thread names it
abbrev pub guarded : List Statement → ℕ → Bool
guarded [] t = false
guarded (x ∷ xs) t = names t x || guarded xs t

abbrev pub guards : Bool → ℕ → List Instruction
guards true t = op.Guard (label t) ∷ []
guards false t = []

-- the address behind some instructions that start at h
abbrev pub past : List Instruction → ℕ → ℕ
past [] h = h
past (x ∷ xs) h = past xs (suc h)

module _ (p : Program) (i : ℕ) (g : ℕ → Bool) where
  -- Where the guard of the label e + 1 further on stands, if the label l, whose statements are these, has the address h
  -- behind its guard. Jumps are as long wherever they lead, so any addresses serve to measure.
  abbrev pub address : List Statement → (l h e : ℕ) → ℕ
  address [] l h e = h
  address (x ∷ xs) l h zero = past (inner p i (λ t. 0) x) (suc h)
  address (x ∷ xs) l h (suc e) = address xs (suc l) (past (guards (g (suc l)) (suc l)) (past (inner p i (λ t. 0) x) (suc h))) e

  -- The section from the label l on, behind its guard: a HOP and the statement's instructions for each label, with the
  -- guard of the next label behind them, and RETURN at the end. A HOP leads behind the next label's guard.
  abbrev pub behind : (A : ℕ → ℕ) → List Statement → ℕ → List Instruction
  behind A [] l = op.Return ∷ []
  behind A (x ∷ xs) l =
      op.Hop (thread i) (label l) (at (past (guards (g (suc l)) (suc l)) (A (suc l)))) ∷ (inner p i A x ++ (guards (g (suc l)) (suc l) ++ behind A xs (suc l)))

-- where the guard of a label stands, these being the thread's statements; no jump names the label 0
abbrev pub address_of : Program → ℕ → List Statement → ℕ → ℕ
address_of p i text zero = 0
address_of p i text (suc t) = address p i (guarded text) text 0 0 t

abbrev pub address_in : Program → ℕ → ℕ → ℕ
address_in p i = address_of p i (own p i)

-- the section of thread i
abbrev pub section : Program → ℕ → List Instruction
section p i = behind p i (guarded (own p i)) (address_in p i) (own p i) 0

-- the driver for a list of slots, by their threads, from the address h on
abbrev pub driver_from : Program → List ℕ → ℕ → List Instruction
driver_from p [] h = op.End ∷ []
driver_from p (i ∷ rest) h =
    op.Slot (thread i) (at (4 + h)) ∷ op.Guess (thread i) (size p i) ∷ op.Call (thread i) ∷ op.Save (thread i) ∷ driver_from p rest (4 + h)

abbrev pub driver : Program → ℕ → List Instruction
driver p rounds = driver_from p (program_slots p (slot_total p rounds)) 0
