use Rattle.jobs.proofs.Promising.{counts_agree}
use Rattle.jobs.proofs.job.Job.new.Goals as goal

pub returns : goal.returns
returns g c = record { made = c.make.ensures; agree = counts_agree }
