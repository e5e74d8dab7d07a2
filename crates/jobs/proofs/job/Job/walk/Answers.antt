use Rattle.jobs.proofs.Standing.{with_translation, walk_goes}
use Rattle.jobs.proofs.job.Job.walk.Goals as goal

pub returns-in-Translated : goal.returns-in-Translated
returns-in-Translated g c =
    let k = g.V.Kind.meaning in
    with_translation k c.args.self.now _ c.in-Translated.is (walk_goes k c.args.self.now c.args.b c.go_on.new.walk c.go_on.result c.go_on.ensures.walked)
