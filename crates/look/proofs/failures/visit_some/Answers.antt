use Rattle.std.proofs.Common.{None, refl, arith}
use Rattle.threads.specs.Points.{Follows}
use Rattle.walks.proofs.Advances.{runs_out}
use Rattle.look.specs.Surveys.{outcomes}
use Rattle.look.proofs.failures.visit_some.Goals as goal

pub returns-in-None : goal.returns-in-None
returns-in-None g c ready tied =
    let k = g.V.Kind.meaning in
    let m = c.args.machine.now in
    let told = c.in-None.ensures in
    let a = runs_out (outcomes k m) (Follows k m) c.loop.walk 1 c.loop.walk c.visit.new.self 0 None refl (omega arith) (omega arith) told.count (told.leaf ready (c.loop.invariant.1 ready tied)) in
    (a.tied, omega (arith, a.moved, told.count))
