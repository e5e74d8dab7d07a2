use Rattle.std.proofs.Common.{◌≡◌, ◌+◌, ◌*◌, ◌≤◌, length, drop}
use Rattle.sequences.specs.Sequences.{sections_of}
use Rattle.tables.specs.Tables.{view}
use Rattle.sections.specs.Emitted.{sections_from}
use Rattle.sections.proofs.emit.File.sections_len.Given as goal

abbrev pub invariant-loop-i : goal.invariant-loop-i
invariant-loop-i g l =
    (l.bytes + length (sections_from (sections_of l.self.sequence.now) l.i (drop l.i (view l.self.table.now).texts)) ≡ length (sections_from (sections_of l.self.sequence.now) 0 (view l.self.table.now).texts))
    × (l.bytes ≤ 2560 * l.i)
