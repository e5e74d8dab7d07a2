use Rattle.std.proofs.Common.{◌≡◌, length, take, refl, ap, ◌∙◌}
use Rattle.agreement.specs.Agreement.{play_told}
use Rattle.jobs.specs.Sessions.{held, stage_translated}
use Rattle.replay.proofs.Cells.{cells_long}
use Rattle.replay.proofs.Replying.{lent_cut, played_so}
use Rattle.replay.proofs.reply.played.Goals as goal

pub returns-in-Ok : goal.returns-in-Ok
returns-in-Ok g c =
    let k = g.V.Kind.meaning in
    let s = held c.args.session.now in
    let ns = c.args.numbers.now in
    let counts = c.as_mut_slice.result.now in
    let cells = c.as_mut_slice-2.result.now in
    let counts' = c.play.new.counts in
    let cells' = c.play.new.cells in
    let count-len = c.as_mut_slice.ensures.len in
    let cell-len = c.as_mut_slice-2.ensures.len in
    let count_kept : length counts' ≡ c.in_ok-counts.counts.len = c.play.auto.counts ∙ count-len in
    let cell-kept : length cells' ≡ c.in_ok-cells.cells.len = c.play.auto.cells ∙ cell-len in
    let own : c.truncate-in-Ok.new.self.items ≡ take c.cells.result cells' =
    lent_cut c.cells.result c.in_ok-cells.cells.len cells' c.in_ok-cells.cells.items c.truncate-in-Ok.new.self.items cell-kept c.truncate-in-Ok.ensures.items in
    played_so (stage_translated s.stage) (play_told k s.program s.rounds ns) (length s.program.cells) c.in-Ok.report ns counts cells counts' cells'
    c.truncate.new.self.items c.truncate-in-Ok.new.self.items c.args.count_room c.args.cell_room
    refl
    (cells_long k s.program s.rounds ns)
    (count-len ∙ c.in_ok-counts.ensures.len)
    (cell-len ∙ c.in_ok-cells.ensures.len)
    c.in-Ok.ensures.answer
    c.play.ensures.counts
    c.play.ensures.cells
    (lent_cut c.in-Ok.report.read c.in_ok-counts.counts.len counts' c.in_ok-counts.counts.items c.truncate.new.self.items count_kept c.truncate.ensures.items)
    (own ∙ ap (λ n. take n cells') c.cells.ensures)
