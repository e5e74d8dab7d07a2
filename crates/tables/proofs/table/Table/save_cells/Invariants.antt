use Rattle.std.proofs.Common.{◌≡◌, ◌+◌, length}
use Rattle.tables.specs.Encoded.{cell_bytes}
use Rattle.records.specs.Wrote.{wrote}
use Rattle.tables.proofs.table.Table.save_cells.Given as goal

abbrev pub invariant-loop-i : goal.invariant-loop-i
invariant-loop-i l =
    (wrote l.out l.at (cell_bytes l.i l.code-items) ≡ wrote l.initial.out l.start (cell_bytes 0 l.code-items))
    × (l.at + length (cell_bytes l.i l.code-items) ≡ l.start + length (cell_bytes 0 l.code-items))
