use Rattle.std.proofs.Common.{◌+◌, ◌-◌, get_or}
use Rattle.walks.proofs.Levels.{step_levels, steps}
use Rattle.walks.proofs.cursor.Cursor.step.Goals as goal

pub returns-clause-path : goal.returns-clause-path
returns-clause-path g c =
    let w = c.args.self.now in
    step_levels w.levels (w.depth - 1 + 1) c.index-levels-top-2.result c.index-levels-top-3.result (get_or w.levels (w.depth - 1) c.index-levels-top.result).point c.go_on.new.at w.numbers w.depth

pub returns-clause-point : goal.returns-clause-point
returns-clause-point g c =
    let m = g.R.Runner in
    let r = c.args.r.now in
    steps (m.outcome r) (m.stands r) c.args.self.now c.requires c.index-levels-top.result c.index-levels-top-2.result c.index-levels-top-3.result c.go_on.new.at c.go_on.result c.go_on.ensures
