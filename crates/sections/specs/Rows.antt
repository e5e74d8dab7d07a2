-- The records of the sequential program's file.
use Rattle.std.specs.Prelude.{ℕ, ◌*◌, List, ◌++◌, map, length}
use Rattle.records.specs.Rows.{row, place_byte}
use Rattle.tables.specs.Encoded.{flat}
use Rattle.tables.specs.Program.{Program}
use Rattle.sequences.specs.declared.instruction.Instruction.{Instruction}
use Rattle.sequences.specs.declared.instruction.Instruction.TheVariants as op
use Rattle.sections.specs.declared.owner.Owner.{Owner}
use Rattle.sections.specs.declared.owner.Owner.TheVariants as of

abbrev in_row : ℕ → ℕ → ℕ → ℕ → ℕ → List ℕ
in_row n d a b c = row 73 78 n d a b c

-- the ten statements that stay themselves, with addresses for labels, and then the others
abbrev pub instruction_row : Instruction → List ℕ
instruction_row (op.Set d c) = in_row 1 (place_byte d) 0 0 c
instruction_row (op.Copy d a) = in_row 2 (place_byte d) (place_byte a) 0 0
instruction_row (op.Sum d a b) = in_row 3 (place_byte d) (place_byte a) (place_byte b) 0
instruction_row (op.Difference d a b) = in_row 4 (place_byte d) (place_byte a) (place_byte b) 0
instruction_row (op.Less d a b) = in_row 5 (place_byte d) (place_byte a) (place_byte b) 0
instruction_row (op.Same d a b) = in_row 6 (place_byte d) (place_byte a) (place_byte b) 0
instruction_row (op.Jump to) = in_row 7 0 0 0 to.0
instruction_row (op.Branch a to) = in_row 8 0 (place_byte a) 0 to.0
instruction_row (op.Assume a) = in_row 9 0 (place_byte a) 0 0
instruction_row (op.Assert a) = in_row 10 0 (place_byte a) 0 0
instruction_row (op.Hop i t to) = in_row 32 i.0 0 t.0 to.0
instruction_row (op.Guard t) = in_row 33 0 0 t.0 0
instruction_row op.Return = in_row 34 0 0 0 0
instruction_row (op.Must w v) = in_row 35 w.0 0 v 0
instruction_row (op.MustNot w v) = in_row 36 w.0 0 v 0
instruction_row (op.Need w v) = in_row 37 w.0 0 v 0
instruction_row (op.Put w v) = in_row 38 w.0 0 v 0
instruction_row (op.Slot i to) = in_row 39 i.0 0 0 to.0
instruction_row (op.Guess i n) = in_row 40 i.0 0 n 0
instruction_row (op.Call i) = in_row 41 i.0 0 0 0
instruction_row (op.Save i) = in_row 42 i.0 0 0 0
instruction_row op.End = in_row 43 0 0 0 0

-- the record before a section's n instructions
abbrev pub section_row : Owner → ℕ → List ℕ
section_row of.Driver n = row 83 69 255 0 0 0 n
section_row (of.Thread i l) n = row 83 69 i.0 l 0 0 n

-- the first record, for a kind byte and so many rounds, which are the highest byte of c
abbrev pub program_row : ℕ → Program → ℕ → List ℕ
program_row byte p rounds = row 83 81 byte (length p.cells) p.mutexes (length p.texts) (16777216 * rounds)

abbrev pub code_bytes : List Instruction → List ℕ
code_bytes xs = flat (map instruction_row xs)

-- a whole section
abbrev pub section_bytes : Owner → List Instruction → List ℕ
section_bytes o xs = section_row o (length xs) ++ code_bytes xs
