-- What a sequential program holds: its instructions, and the initial codes of its cells.
use Rattle.std.specs.Prelude.{◌≡◌, ℕ, ◌-◌, ◌<◌, min, List, length, take, drop, slice_index_or}
use Rattle.kinds.specs.Meaning.{Meaning}
use Rattle.tables.specs.Program.{Program}
use Rattle.reports.specs.declared.report.Report.{Report}
use Rattle.reports.specs.Reports.{report}
use Rattle.sequences.specs.declared.instruction.Instruction.{Instruction}
use Rattle.sequences.specs.declared.sequence.Part.{Part}
use Rattle.sequences.specs.declared.sequence.Sequence.{Sequence}
use Rattle.sequences.specs.Code.{section, driver}
use Rattle.sequences.specs.Drives as drives
use Rattle.sequences.specs.Drives.{Moved, Driven, started_on, drive_on, own_cells}

-- what stands where there is no section
abbrev pub no_part : Part
no_part = record { first = 0; size = 0 }

-- the part between two places
abbrev pub part_between : ℕ → ℕ → Part
part_between f e = record { first = f; size = min (e - f) 255 }

-- a part of some instructions
abbrev pub part_in : List Instruction → Part → List Instruction
part_in xs t = take t.size (drop t.first xs)

abbrev pub parts_in : List Instruction → List Part → ℕ → List Instruction
parts_in xs ts i = part_in xs (slice_index_or ts i no_part)

abbrev pub sections_of : {V : Type 0} → Sequence V → ℕ → List Instruction
sections_of s = parts_in s.sections s.parts

abbrev pub guide_of : {V : Type 0} → Sequence V → List Instruction
guide_of s = s.driver

abbrev pub instructions : {V : Type 0} → Sequence V → drives.Sequence
instructions s = record { sections = sections_of s; guide = guide_of s }

-- the initial codes of the cells
abbrev pub codes_of : {V : Type 0} → Sequence V → List ℕ
codes_of s = s.cells

abbrev pub starts : {V : Type 0} → Meaning → Sequence V → Moved
starts k s = started_on k (instructions s) (codes_of s)

-- what a list of guesses comes to
abbrev pub drives_so : {V : Type 0} → Meaning → Sequence V → List ℕ → Driven
drives_so k s ns = drive_on k (instructions s) (codes_of s) ns

-- the cells that a list of guesses leaves
abbrev pub cells_left : {V : Type 0} → Meaning → Sequence V → List ℕ → List ℕ
cells_left k s ns = own_cells (codes_of s) (drives_so k s ns).state

abbrev pub reported : Driven → Report
reported r = report r.outcome r.counts

-- It is the sequential program of p over so many rounds. Only the threads of p have sections.
pub record Holds {V : Type 0} (s : Sequence V) (p : Program) (rounds : ℕ) : Type 0 where
  pub codes : codes_of s ≡ p.cells
  pub guide : guide_of s ≡ driver p rounds
  pub sections : (i : ℕ) → i < length p.texts → sections_of s i ≡ section p i
