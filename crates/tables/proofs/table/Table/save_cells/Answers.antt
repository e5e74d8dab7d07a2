use Rattle.std.proofs.Common.{◌≡◌, ◌+◌, length, ap, ◌∙◌, arith}
use Rattle.tables.specs.Encoded.{cell_bytes}
use Rattle.records.specs.Wrote.{wrote}
use Rattle.tables.proofs.Saves.{cells_more, cells_all}
use Rattle.records.proofs.Writes.{room, advance, done}
use Rattle.tables.proofs.table.Table.save_cells.Goals as goal

pub put-at-requires : goal.put-at-requires
put-at-requires c =
    let r = c.row.result in
    let l : length r ≡ 10 = omega arith in
    let v = ap (λ ns. length (cell_bytes 0 ns)) c.cells-code-items.ensures.value in
    let p = cells_more c.cells-code-items.result.now c.loop-i.i 0 r (omega arith) c.row.ensures in
    omega (arith, room c.loop-i.out c.loop-i.out c.loop-i.at 0 r _ _ c.loop-i.out _ p c.loop-i.invariant.1 (omega (arith, c.requires, c.loop-i.auto.out)))

pub loop-i-preserved : goal.loop-i-preserved
loop-i-preserved c =
    let r = c.row.result in
    let l : length r ≡ 10 = omega arith in
    let v = ap (λ ns. length (cell_bytes 0 ns)) c.cells-code-items.ensures.value in
    let p = cells_more c.cells-code-items.result.now c.loop-i.i 0 r (omega arith) c.row.ensures in
    advance c.loop-i.out c.put-at.new.out c.loop-i.at c.put-at.result r _ _ _ _ p c.loop-i.invariant.1 (omega (arith, c.requires, c.loop-i.auto.out)) c.put-at.ensures.after (omega arith) c.loop-i.invariant.0

pub returns : goal.returns
returns c =
    let ns = c.cells-code-items.result.now in
    let v = c.cells-code-items.ensures.value in
    let e = done c.loop-i.out c.loop-i.at _ _ _ (cells_all ns c.loop-i.i (omega arith)) c.loop-i.invariant.1 c.loop-i.invariant.0 in
    record {
      after = e.0 ∙ ap (λ ns. wrote c.args.out.now c.args.start (cell_bytes 0 ns)) v;
      next = e.1 ∙ ap (λ ns. c.args.start + length (cell_bytes 0 ns)) v;
    }
