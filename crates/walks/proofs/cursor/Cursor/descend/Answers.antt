use Rattle.std.proofs.Common.{◌∙◌, arith}
use Rattle.walks.specs.declared.outcome.Ending.TheVariants.{Cut}
use Rattle.walks.specs.Cursors.{Descended}
use Rattle.walks.proofs.Descents.{no_room, deeper, goes_down}
use Rattle.walks.proofs.cursor.Cursor.descend.Goals as goal

pub loop-ending-preserved : goal.loop-ending-preserved
loop-ending-preserved g c =
    let m = g.R.Runner in
    let r = c.args.r.now in
    let w = c.loop-ending.self in
    let s = c.step.new.self in
    let q = c.push.new.self in
    let told = c.push.ensures in
    let some = c.loop-ending.invariant.0 in (
      omega (arith, (deeper w s q c.in-Open.bound c.step.ensures.path some c.if-self-eq64.false told.path).0),
      λ ready placed.
          let i = c.loop-ending.invariant.1 ready placed in
          let at = c.in-Open.ensures.point i.0 in
          let down = goes_down w s q c.in-Open.bound c.step.ensures.path some c.if-self-eq64.false told.path (m.outcome r) (m.stands r) told.points at.0 at.1 in
          (down.0, down.1 ∙ i.1),
    )

pub returns-then-self-eq64 : goal.returns-then-self-eq64
returns-then-self-eq64 g c ready placed =
    let r = c.args.r.now in
    let at = c.in-Open.ensures.point (c.loop-ending.invariant.1 ready placed).0 in
    absurd {A = Descended (g.R.Runner.outcome r) (g.R.Runner.stands r) c.args.self.now c.step.new.self Cut} (no_room (g.R.Runner.outcome r) (g.met.R.Runner.lawful r ready) c.step.new.self c.in-Open.bound c.if-self-eq64.true at.0)
