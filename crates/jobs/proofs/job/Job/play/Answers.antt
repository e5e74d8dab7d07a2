use Rattle.jobs.proofs.Running.{plays_told}
use Rattle.jobs.proofs.Standing.{session_keeps}
use Rattle.jobs.proofs.job.Job.play.Goals as goal

pub returns : goal.returns
returns g c =
    let k = g.V.Kind.meaning in
    let j = c.args.self.now in
    let e = c.play.ensures in
    record {
      answer = λ m h. plays_told k j.session c.args.numbers.now c.args.counts.now c.args.cells.now c.play.result c.play.new.counts c.play.new.cells e.answer e.counts e.cells m (session_keeps k j m h);
      lawful = λ m h. e.lawful m (session_keeps k j m h);
    }
