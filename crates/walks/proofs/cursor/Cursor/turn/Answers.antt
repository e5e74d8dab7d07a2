use Rattle.std.proofs.Common.{ap, arith}
use Rattle.walks.specs.Paths.{levels, points}
use Rattle.walks.proofs.Levels.{turn_back, turn_up}
use Rattle.walks.proofs.Turns.{turns_out}
use Rattle.walks.proofs.cursor.Cursor.turn.Goals as goal

pub returns-then-self-i : goal.returns-then-self-i
returns-then-self-i g c =
    let l = c.loop-i in
    record {
      path = turn_up l.self c.args.self.now l.i l.invariant.0 c.loop-i-test.true l.auto.i c.index-self-i.result l.invariant.1 c.if-self-i.true;
      points = ap points l.invariant.0;
    }

pub loop-i-preserved : goal.loop-i-preserved
loop-i-preserved g c =
    let l = c.loop-i in (
      l.invariant.0,
      turn_back l.self c.args.self.now l.i l.invariant.0 c.loop-i-test.true l.auto.i c.index-self-i.result l.invariant.1 c.if-self-i.false,
    )

pub returns-clause-path : goal.returns-clause-path
returns-clause-path g c =
    let l = c.loop-i in
    let w = levels l.self in
    turns_out (levels c.args.self.now) w.numbers w.bounds l.i (ap (λ v. (levels v).numbers) l.invariant.0) (ap (λ v. (levels v).bounds) l.invariant.0) l.invariant.1 (omega (arith, c.loop-i-test.false))
