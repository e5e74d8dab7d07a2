use Rattle.std.proofs.Common.{◌≡◌, ◌*◌, ◌≤◌, length, drop}
use Rattle.records.specs.Lines.{lines}
use Rattle.tables.specs.Program.{onto, decoded}
use Rattle.tables.specs.Tables.{view}
use Rattle.tables.proofs.table.Table.fill.Given as goal

abbrev pub invariant-loop-i : goal.invariant-loop-i
invariant-loop-i l =
    (onto (view l.self) l.first (drop l.i (lines l.file)) ≡ decoded l.file) × (l.first ≤ 255 * l.i) × (length (view l.self).statements ≤ l.i)
