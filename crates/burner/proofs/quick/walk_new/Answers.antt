use Rattle.std.proofs.Common.{inr}
use Rattle.jobs.specs.Models.{empty}
use Rattle.burner.proofs.quick.walk_new.Goals as goal

pub returns : goal.returns
returns g c = inr (c.walk_file.ensures empty c.in_ok-job.ensures.made)
