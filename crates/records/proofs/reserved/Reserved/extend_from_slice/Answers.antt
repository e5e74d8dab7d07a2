use Rattle.std.proofs.Common.{◌++◌, take, length, ap, ◌∙◌, arith}
use Rattle.std.proofs.lemmas.List.{take_all}
use Rattle.records.proofs.Rooms.{room_same, room_next}
use Rattle.records.proofs.reserved.Reserved.extend_from_slice.Goals as goal

pub loop-x-init : goal.loop-x-init
loop-x-init g c = room_same g.row.N _ (omega (arith, ap length c.self.view_is))

pub loop-x-preserved : goal.loop-x-preserved
loop-x-preserved g c =
    room_next g.row.N c.args.self.now _ _ c.args.xs.now c.loop-x.x-index _ c.loop-x-test.true c.x-item.is c.loop-x.invariant c.push.ensures.value

pub returns : goal.returns
returns g c = c.loop-x.invariant ∙ ap (λ l. take g.row.N (c.args.self.now ++ l)) (take_all _ _ c.loop-x-test.false)
