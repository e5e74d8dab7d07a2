use Rattle.std.proofs.Common.{◌≡◌, ◌+◌, length, drop}
use Rattle.records.specs.Wrote.{wrote}
use Rattle.sequences.specs.Sequences.{sections_of}
use Rattle.tables.specs.Tables.{view}
use Rattle.sections.specs.Emitted.{sections_from}
use Rattle.sections.proofs.emit.File.write_sections.Given as goal

abbrev pub invariant-loop-i : goal.invariant-loop-i
invariant-loop-i g l =
    (wrote l.out l.at (sections_from (sections_of l.self.sequence.now) l.i (drop l.i (view l.self.table.now).texts)) ≡ wrote l.initial.out l.start (sections_from (sections_of l.self.sequence.now) 0 (view l.self.table.now).texts))
    × (l.at + length (sections_from (sections_of l.self.sequence.now) l.i (drop l.i (view l.self.table.now).texts)) ≡ l.start + length (sections_from (sections_of l.self.sequence.now) 0 (view l.self.table.now).texts))
