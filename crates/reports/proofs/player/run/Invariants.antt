use Rattle.reports.specs.Players.{goes}
use Rattle.reports.proofs.Playing.{Running}
use Rattle.reports.proofs.player.run.Given as goal

abbrev pub invariant-loop-j : goal.invariant-loop-j
invariant-loop-j g l =
    let turn = g.M.Player.turns l.machine in
    Running turn (goes turn l.fn.start l.initial.at l.numbers) l.numbers l.initial.counts l.j l.counts l.report l.at
