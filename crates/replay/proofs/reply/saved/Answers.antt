use Rattle.std.proofs.Common.{◌∙◌}
use Rattle.tables.specs.Encoded.{encoded}
use Rattle.jobs.specs.Sessions.{held, stage_loaded}
use Rattle.replay.proofs.Replying.{lent_cut, saved_so}
use Rattle.replay.proofs.reply.saved.Goals as goal

pub returns-in-Ok : goal.returns-in-Ok
returns-in-Ok g c =
    let s = held c.args.session.now in
    let old = c.as_mut_slice.result.now in
    let out = c.save.new.out in
    let lent = c.as_mut_slice.ensures.len in
    saved_so (stage_loaded s.stage) c.in-Ok.length c.args.room (encoded g.V.Kind.meaning.byte s.program) old out c.truncate.new.self.items
    (lent ∙ c.in_ok-file.ensures.len)
    c.in-Ok.ensures.answer
    c.save.ensures.after
    (lent_cut c.in-Ok.length c.in_ok-file.file.len out c.in_ok-file.file.items c.truncate.new.self.items (c.save.auto.out ∙ lent) c.truncate.ensures.items)
