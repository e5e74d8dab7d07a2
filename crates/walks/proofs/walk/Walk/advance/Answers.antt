use Rattle.std.proofs.Common.{arith}
use Rattle.walks.specs.Tallies.{visited}
use Rattle.walks.proofs.Advances.{one_more, runs_out, answers}
use Rattle.walks.proofs.Rows.{complete}
use Rattle.walks.proofs.walk.Walk.advance.Goals as goal

pub loop-preserved : goal.loop-preserved
loop-preserved g c =
    let told = c.visit.ensures in
    (omega (arith, told.count, one_more (visited c.loop.self.tally) c.visit.result c.if-is_none.ensures, c.loop.invariant.0), λ ready tied. (told.leaf ready (c.loop.invariant.1 ready tied)).tied)

pub returns-then-is_none : goal.returns-then-is_none
returns-then-is_none g c =
    let m = g.R.Runner in
    let r = c.args.r.now in
    let told = c.visit.ensures in
    record {
      leaves = λ ready tied. runs_out (m.outcome r) (m.stands r) c.args.self.now c.args.b c.loop.self c.visit.new.self c.loop.counter c.visit.result c.if-is_none.ensures c.loop.invariant.0 c.loop-test.true told.count (told.leaf ready (c.loop.invariant.1 ready tied));
      complete = λ ready. complete (m.outcome r) (g.met.R.Runner.lawful r ready);
    }

pub returns : goal.returns
returns g c =
    let m = g.R.Runner in
    let r = c.args.r.now in
    record {
      leaves = λ ready tied. answers (m.outcome r) (m.stands r) c.args.self.now c.args.b (g.met.R.Runner.lawful r ready) c.loop.self c.answer.result (omega (arith, c.loop.invariant.0, c.loop-test.false, c.loop.auto.counter-end)) (c.loop.invariant.1 ready tied) c.answer.ensures;
      complete = λ ready. complete (m.outcome r) (g.met.R.Runner.lawful r ready);
    }
