use Rattle.jobs.proofs.Running.{play_lawful}
use Rattle.jobs.proofs.Standing.{with_schedules}
use Rattle.jobs.proofs.session.Session.play.Goals as goal

pub returns-in-Translated-clause-lawful : goal.returns-in-Translated-clause-lawful
returns-in-Translated-clause-lawful g c =
    let s = c.args.self.now in
    with_schedules g.V.Kind.meaning s _ c.in-Translated.is (play_lawful g.V.Kind.meaning s c.args.numbers.now c.args.counts.now c.args.cells.now c.play.ensures.lawful)
