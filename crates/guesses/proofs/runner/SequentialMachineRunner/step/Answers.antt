use Rattle.reports.specs.Players.{with_point}
use Rattle.guesses.specs.Runners.{step_lands}
use Rattle.guesses.proofs.runner.SequentialMachineRunner.step.Goals as goal

pub returns : goal.returns
returns g c l follows =
    step_lands g.V.Kind.meaning c.args.self.now.sequence c.args.at.now c.args.number (with_point c.turn.result c.turn.new.at) l c.turn.ensures follows
