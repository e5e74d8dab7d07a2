use Rattle.std.proofs.Common.{sym}
use Rattle.jobs.proofs.Running.{found_none, found_some}
use Rattle.jobs.proofs.Standing.{with_translation}
use Rattle.jobs.proofs.job.Job.found.Goals as goal

pub returns-in-None : goal.returns-in-None
returns-in-None g c =
    let k = g.V.Kind.meaning in
    let j = c.args.self.now in
    with_translation k j _ c.in-Translated.is (found_none k j c.args.guesses.now c.args.schedule.now (sym c.in-None.ensures))

pub returns-in-Some : goal.returns-in-Some
returns-in-Some g c =
    let k = g.V.Kind.meaning in
    let j = c.args.self.now in
    with_translation k j _ c.in-Translated.is (found_some k j c.args.guesses.now c.args.schedule.now _ _ (sym c.in-Some.ensures) c.tell.ensures)
