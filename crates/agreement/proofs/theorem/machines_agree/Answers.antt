use Rattle.agreement.proofs.Agreeing.{machines_agree}
use Rattle.agreement.proofs.theorem.machines_agree.Goals as goal

pub returns : goal.returns
returns c = machines_agree
