-- The file of a sequential program.
use Rattle.std.specs.Prelude.{ℕ, ◌+◌, ◌*◌, List, [], ◌∷◌, ◌++◌, length}
use Rattle.tables.specs.declared.text.ThreadText.{ThreadText}
use Rattle.tables.specs.Encoded.{cell_bytes}
use Rattle.tables.specs.Program.{Program}
use Rattle.sequences.specs.declared.instruction.Instruction.{Instruction}
use Rattle.sequences.specs.declared.sequence.Sequence.{Sequence}
use Rattle.sequences.specs.Code.{thread, section, driver}
use Rattle.sequences.specs.Sequences.{guide_of, sections_of}
use Rattle.sections.specs.declared.owner.Owner.{Owner}
use Rattle.sections.specs.declared.owner.Owner.TheVariants as of
use Rattle.sections.specs.Rows.{program_row, section_bytes}

abbrev pub owner : ℕ → ThreadText → Owner
owner i t = of.Thread (thread i) t.locals

-- the sections of threads from i on
abbrev pub sections_from : (ℕ → List Instruction) → ℕ → List ThreadText → List ℕ
sections_from S i [] = []
sections_from S i (t ∷ ts) = section_bytes (owner i t) (S i) ++ sections_from S (i + 1) ts

-- the file of a driver and of sections for the threads of a program
abbrev pub emitted_of : ℕ → Program → ℕ → List Instruction → (ℕ → List Instruction) → List ℕ
emitted_of byte p rounds guide S =
    program_row byte p rounds ++ (cell_bytes 0 p.cells ++ (section_bytes of.Driver guide ++ sections_from S 0 p.texts))

-- the file of a program's table and of what a sequence holds
abbrev pub emitted_by : {V : Type 0} → ℕ → Program → ℕ → Sequence V → List ℕ
emitted_by byte p rounds s = emitted_of byte p rounds (guide_of s) (sections_of s)

-- how many bytes it has, section by section
abbrev pub emitted_length : Program → List Instruction → (ℕ → List Instruction) → ℕ
emitted_length p guide S = 20 + 10 * length p.cells + 10 * length guide + length (sections_from S 0 p.texts)

-- the file of the translation of a program over so many rounds
abbrev pub emitted : ℕ → Program → ℕ → List ℕ
emitted byte p rounds = emitted_of byte p rounds (driver p rounds) (section p)
