use Rattle.jobs.proofs.Running.{saved_so}
use Rattle.jobs.proofs.Standing.{session_keeps}
use Rattle.jobs.proofs.job.Job.save.Goals as goal

pub returns : goal.returns
returns g c =
    let k = g.V.Kind.meaning in
    let j = c.args.self.now in
    λ m h. saved_so k j.session c.args.out.now c.save.result c.save.new.out c.save.ensures.answer c.save.ensures.after m (session_keeps k j m h)
