use Rattle.guesses.specs.Runners.{start_outcome, start_stands}
use Rattle.guesses.proofs.runner.SequentialMachineRunner.start.Goals as goal

pub returns : goal.returns
returns g c =
    let k = g.V.Kind.meaning in
    let s = c.args.self.now.sequence in
    let r = c.first.result in
    record {
      outcome = start_outcome k s r.0 r.1 c.first.ensures.outcome c.first.ensures.point;
      stands = start_stands k s r.0 r.1 c.first.ensures.outcome c.first.ensures.point;
    }
