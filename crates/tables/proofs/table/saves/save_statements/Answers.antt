use Rattle.std.proofs.Common.{◌≡◌, length, arith}
use Rattle.tables.proofs.Saves.{statements_more, statements_all}
use Rattle.records.proofs.Writes.{room, advance, done}
use Rattle.tables.proofs.table.saves.save_statements.Goals as goal

pub put-at-requires : goal.put-at-requires
put-at-requires c =
    let r = c.statement_row.result in
    let l : length r ≡ 10 = omega arith in
    let p = statements_more c.args.own.now c.loop-s.s-index _ r (omega arith) c.statement_row.ensures in
    omega (arith, room c.loop-s.out c.loop-s.out c.loop-s.at 0 r _ _ c.loop-s.out _ p c.loop-s.invariant.1 (omega (arith, c.requires, c.loop-s.auto.out)))

pub loop-s-preserved : goal.loop-s-preserved
loop-s-preserved c =
    let r = c.statement_row.result in
    let l : length r ≡ 10 = omega arith in
    let p = statements_more c.args.own.now c.loop-s.s-index _ r (omega arith) c.statement_row.ensures in
    advance c.loop-s.out c.put-at.new.out c.loop-s.at c.put-at.result r _ _ _ _ p c.loop-s.invariant.1 (omega (arith, c.requires, c.loop-s.auto.out)) c.put-at.ensures.after (omega (arith, c.put-at.ensures.next)) c.loop-s.invariant.0

pub returns : goal.returns
returns c =
    let e = done c.loop-s.out c.loop-s.at _ _ _ (statements_all c.args.own.now c.loop-s.s-index (omega arith)) c.loop-s.invariant.1 c.loop-s.invariant.0 in
    record { after = e.0; next = e.1 }
