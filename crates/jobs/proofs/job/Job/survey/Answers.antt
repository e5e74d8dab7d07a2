use Rattle.jobs.proofs.Standing.{session_keeps, surveyed_with}
use Rattle.jobs.proofs.job.Job.survey.Goals as goal

pub returns : goal.returns
returns g c m h =
    let k = g.V.Kind.meaning in
    let j = c.args.self.now in
    let goes = c.survey.ensures.goes m (session_keeps k j m h) in
    (goes.0, surveyed_with k j c.survey.new.self c.args.b m h goes.1)
