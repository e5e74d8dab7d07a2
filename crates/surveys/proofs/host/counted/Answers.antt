use Rattle.std.proofs.Common.{ap, ◌∙◌}
use Rattle.tables.specs.Program.{decoded}
use Rattle.threads.specs.Plays.{play}
use Rattle.surveys.specs.Totals.{totals_of}
use Rattle.surveys.proofs.host.counted.Goals as goal

pub returns : goal.returns
returns g c =
    let k = g.V.Kind.meaning in
    let m = c.in_ok-machine.machine in
    let b = c.args.b in
    let h = c.in_ok-machine.ensures in
    (h.0, h.1, c.totals.ensures h.4 ∙ ap (λ p. totals_of (λ ns. (play k p m.rounds ns).outcome) b) h.2 ∙ ap (λ r. totals_of (λ ns. (play k (decoded c.args.file.now) r ns).outcome) b) h.3)
