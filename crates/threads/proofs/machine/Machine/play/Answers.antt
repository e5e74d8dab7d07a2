use Rattle.std.proofs.Common.{ap, ◌∙◌, length}
use Rattle.threads.specs.Machines.{program}
use Rattle.threads.specs.Plays.{Played, cells_of}
use Rattle.reports.specs.Reports.{front, refusal, answered, unless}
use Rattle.threads.specs.Reports.{reported}
use Rattle.threads.specs.Playing.{begun_plays}
use Rattle.threads.proofs.Lawfuls.{lawful_play}
use Rattle.threads.proofs.machine.Machine.play.Goals as goal

pub returns : goal.returns
returns g c =
    let k = g.V.Kind.meaning in
    let m = c.args.self.now in
    let p = program m in
    let ns = c.args.numbers.now in
    let q = refusal ns c.args.counts.now c.args.cells.now (length p.cells) in
    let e = begun_plays k p m.rounds ns in
    let h = c.play.ensures in
    record {
      answer = h.answer ∙ ap (λ (r : Played). answered q (reported r)) e;
      counts = h.counts ∙ ap (λ (r : Played). unless q (front r.counts c.args.counts.now) c.args.counts.now) e;
      cells = h.cells ∙ ap (λ (r : Played). unless q (front (cells_of p r.state) c.args.cells.now) c.args.cells.now) e;
      lawful = lawful_play k g.met.V.Kind.closed p m.rounds ns;
    }
