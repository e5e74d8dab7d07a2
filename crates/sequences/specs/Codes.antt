-- Which instructions and states hold only lawful codes.
use Rattle.std.specs.Prelude.{◌≡◌, true, List}
use Rattle.std.specs.List.{AllByRecursion}
use Rattle.kinds.specs.Meaning.{Meaning}
use Rattle.states.specs.Codes.{LawfulCodes}
use Rattle.sequences.specs.declared.instruction.Instruction.{Instruction}
use Rattle.sequences.specs.declared.instruction.Instruction.TheVariants as op
use Rattle.sequences.specs.declared.state.SeqState.{SeqState}

-- the code that stands in an instruction
abbrev pub LawfulInstruction : Meaning → Instruction → Type 0
LawfulInstruction k (op.Set d c) = k.lawful c ≡ true
LawfulInstruction k (op.Copy d a) = Unit {0}
LawfulInstruction k (op.Sum d a b) = Unit {0}
LawfulInstruction k (op.Difference d a b) = Unit {0}
LawfulInstruction k (op.Less d a b) = Unit {0}
LawfulInstruction k (op.Same d a b) = Unit {0}
LawfulInstruction k (op.Jump to) = Unit {0}
LawfulInstruction k (op.Branch a to) = Unit {0}
LawfulInstruction k (op.Assume a) = Unit {0}
LawfulInstruction k (op.Assert a) = Unit {0}
LawfulInstruction k (op.Hop j t to) = Unit {0}
LawfulInstruction k (op.Guard t) = Unit {0}
LawfulInstruction k op.Return = Unit {0}
LawfulInstruction k (op.Must w v) = Unit {0}
LawfulInstruction k (op.MustNot w v) = Unit {0}
LawfulInstruction k (op.Need w v) = Unit {0}
LawfulInstruction k (op.Put w v) = Unit {0}
LawfulInstruction k (op.Slot j to) = Unit {0}
LawfulInstruction k (op.Guess j n) = Unit {0}
LawfulInstruction k (op.Call j) = Unit {0}
LawfulInstruction k (op.Save j) = Unit {0}
LawfulInstruction k op.End = Unit {0}

abbrev pub LawfulSection : Meaning → List Instruction → Type 0
LawfulSection k xs = AllByRecursion (LawfulInstruction k) xs

pub record LawfulState (k : Meaning) (q : SeqState) : Type 0 where
  pub cells : LawfulCodes k q.cells
  pub locals : AllByRecursion (LawfulCodes k) q.locals
