use Rattle.std.proofs.Common.{◌+◌, set}
use Rattle.walks.proofs.Levels.{push_levels, push_points}
use Rattle.walks.proofs.cursor.Cursor.push.Goals as goal

pub returns-clause-path : goal.returns-clause-path
returns-clause-path g c =
    let w = c.args.self.now in
    push_levels w.levels w.depth c.args.bound c.index-self-self.result (set w.numbers w.depth 0) (w.depth + 1)

pub returns-clause-points : goal.returns-clause-points
returns-clause-points g c =
    let w = c.args.self.now in
    push_points w.levels w.depth c.args.bound c.index-self-self.result
