-- The translation as it is written: piece by piece, into a room of its own.
use Rattle.std.specs.Prelude.{ℕ, ◌+◌, ◌<◌, ◌≤◌, Bool, cond, List, [], ◌∷◌, ◌++◌}
use Rattle.std.specs.List.{AllByRecursion}
use Rattle.records.specs.declared.statement.Statement.{Statement}
use Rattle.records.specs.declared.statement.Statement.TheVariants.{Set, Copy, Sum, Difference, Less, Same, Jump, Branch, Assume, Assert, Init, Destroy, Lock, Unlock, Create, Join}
use Rattle.tables.specs.Program.{Program, size}
use Rattle.sequences.specs.declared.instruction.Instruction.{Instruction}
use Rattle.sequences.specs.declared.instruction.Instruction.TheVariants as op
use Rattle.sequences.specs.Code.{at, thread, label, inner, guards, guarded}

-- how many instructions a statement has
abbrev pub width : Statement → ℕ
width (Set d c) = 1
width (Copy d a) = 1
width (Sum d a b) = 1
width (Difference d a b) = 1
width (Less d a b) = 1
width (Same d a b) = 1
width (Jump t) = 1
width (Branch a t) = 1
width (Assume a) = 1
width (Assert a) = 1
width (Init m) = 1
width (Destroy m) = 1
width (Lock m) = 3
width (Unlock m) = 2
width (Create j) = 1
width (Join j) = 1

-- the address behind the guard that a label may have at an address
abbrev pub beyond : Bool → ℕ → ℕ
beyond g h = cond g (h + 1) h

-- the words that the statement names have numbers below 256
abbrev pub Low : Statement → Type 0
Low (Set d c) = Unit {0}
Low (Copy d a) = Unit {0}
Low (Sum d a b) = Unit {0}
Low (Difference d a b) = Unit {0}
Low (Less d a b) = Unit {0}
Low (Same d a b) = Unit {0}
Low (Jump t) = Unit {0}
Low (Branch a t) = Unit {0}
Low (Assume a) = Unit {0}
Low (Assert a) = Unit {0}
Low (Init m) = m.0 < 240
Low (Destroy m) = m.0 < 240
Low (Lock m) = m.0 < 240
Low (Unlock m) = m.0 < 240
Low (Create j) = Unit {0}
Low (Join j) = j.0 < 240

-- a program whose instructions have room: at most 48 statements for each thread, and no word above the last
pub record Translatable (p : Program) : Type 0 where
  pub sizes : (i : ℕ) → size p i ≤ 48
  pub low : AllByRecursion Low p.statements

-- the HOP of a label: it leads behind the next label's guard
abbrev pub hop_code : ℕ → List Statement → (A : ℕ → ℕ) → ℕ → Instruction
hop_code i text A l = op.Hop (thread i) (label l) (at (beyond (guarded text (l + 1)) (A (l + 1))))

-- one label of a thread's section: its HOP, the statement's instructions, and the guard of the next label
abbrev pub label_code : Program → ℕ → List Statement → (A : ℕ → ℕ) → ℕ → Statement → List Instruction
label_code p i text A l x = hop_code i text A l ∷ (inner p i A x ++ guards (guarded text (l + 1)) (l + 1))

-- one slot of the driver at the address h
abbrev pub slot_code : Program → ℕ → ℕ → List Instruction
slot_code p i h = op.Slot (thread i) (at (4 + h)) ∷ op.Guess (thread i) (size p i) ∷ op.Call (thread i) ∷ op.Save (thread i) ∷ []
