use Rattle.std.proofs.Common.{◌≤◌, length, refl, arith}
use Rattle.reports.specs.Players.{with_point}
use Rattle.reports.proofs.Playing.{goes_on, ends_early, ends_late}
use Rattle.reports.proofs.player.run.Goals as goal

pub returns-in-Ended : goal.returns-in-Ended
returns-in-Ended g c =
    let l : c.loop-j.j ≤ length c.loop-j.counts = omega (arith, c.loop-j.invariant.long, c.requires.room) in
    let e = ends_early (g.M.Player.turns c.args.machine.now) _ c.args.numbers.now c.args.counts.now c.loop-j.j _ _ _ _ c.loop-j.invariant c.in-Ended.is l in
    record { report = e.report; counts = e.counts; point = e.point }

pub loop-j-preserved : goal.loop-j-preserved
loop-j-preserved g c =
    let turn = g.M.Player.turns c.args.machine.now in
    let ns = c.args.numbers.now in
    let t = with_point c.read-turn.result c.read-turn.new.at in
    goes_on turn _ ns c.args.counts.now c.loop-j.j c.loop-j.counts c.loop-j.report c.in_default.field-0 c.loop-j.at _ t _ c.loop-j.invariant c.in_default.is c.requires.room c.loop-j-test.true refl c.read-turn.ensures (omega arith) c.note.ensures

pub returns : goal.returns
returns g c =
    let l : c.loop-j.j ≤ length c.loop-j.counts = omega (arith, c.loop-j.invariant.long, c.requires.room) in
    let e = ends_late (g.M.Player.turns c.args.machine.now) _ c.args.numbers.now c.args.counts.now c.loop-j.j _ _ _ c.loop-j.invariant l (omega arith) in
    record { report = e.report; counts = e.counts; point = e.point }
