use Rattle.threads.specs.Runners.{start_outcome, start_stands}
use Rattle.threads.proofs.runner.MachineRunner.start.Goals as goal

pub returns : goal.returns
returns g c =
    let k = g.V.Kind.meaning in
    let m = c.args.self.now in
    record {
      outcome = start_outcome k m c.first-at.result c.standing.result c.first-at.ensures c.standing.ensures;
      stands = start_stands k m c.first-at.result c.standing.result c.first-at.ensures c.standing.ensures;
    }
