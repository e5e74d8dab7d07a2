use Rattle.std.proofs.Common.{ap, ◌∙◌, length}
use Rattle.reports.specs.Reports.{front, refusal, answered, unless}
use Rattle.sequences.specs.Drives.{Driven, own_cells}
use Rattle.sequences.specs.Sequences.{instructions, codes_of, starts, reported}
use Rattle.sequences.proofs.Driving.{goes_drives}
use Rattle.sequences.proofs.Translated.{drives_translated}
use Rattle.sequences.proofs.Lawfuls.{lawful_drive}
use Rattle.sequences.proofs.sequence.Sequence.drive.Goals as goal

pub returns : goal.returns
returns g c =
    let k = g.V.Kind.meaning in
    let s = c.args.self.now in
    let ns = c.args.numbers.now in
    let q = refusal ns c.args.counts.now c.args.cells.now (length (codes_of s)) in
    let e = goes_drives k (instructions s) ns (starts k s).outcome (starts k s).point in
    let h = c.play.ensures in
    record {
      answer = h.answer ∙ ap (λ (r : Driven). answered q (reported r)) e;
      counts = h.counts ∙ ap (λ (r : Driven). unless q (front r.counts c.args.counts.now) c.args.counts.now) e;
      cells = h.cells ∙ ap (λ (r : Driven). unless q (front (own_cells (codes_of s) r.state) c.args.cells.now) c.args.cells.now) e;
      translated = λ p rounds h. drives_translated k s p rounds ns h;
      lawful = λ codes sections. lawful_drive k g.met.V.Kind.closed (instructions s) sections (codes_of s) ns codes;
    }
