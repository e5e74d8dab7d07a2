use Rattle.jobs.proofs.Running.{drives_told, drive_lawful}
use Rattle.jobs.proofs.Standing.{with_translation}
use Rattle.jobs.proofs.job.Job.drive.Goals as goal

pub returns-in-Translated : goal.returns-in-Translated
returns-in-Translated g c =
    let k = g.V.Kind.meaning in
    let j = c.args.self.now in
    let ns = c.args.numbers.now in
    let e = c.drive.ensures in
    let counts = c.args.counts.now in
    let cells = c.args.cells.now in
    record {
      answer = with_translation k j _ c.in-Translated.is (drives_told k j ns counts cells c.drive.result c.drive.new.counts c.drive.new.cells e.answer e.counts e.cells);
      lawful = with_translation k j _ c.in-Translated.is (drive_lawful k j ns counts cells g.met.V.Kind.closed);
    }
