use Rattle.std.proofs.Common.{length, Err, sym, ap, ◌∙◌, arith}
use Rattle.std.proofs.lemmas.Result.{err_from_is_err_and}
use Rattle.records.proofs.Fills.{no_room, has_room, fills}
use Rattle.sequences.specs.Sequences.{guide_of, sections_of}
use Rattle.tables.specs.Tables.{view}
use Rattle.sections.specs.Emitted.{emitted_of}
use Rattle.sections.proofs.Emits.{length_emitted}
use Rattle.sections.proofs.Longs.{emitted_translated, emitted_few}
use Rattle.sections.proofs.emit.emit.Goals as goal

pub returns-in_err-room_for : goal.returns-in_err-room_for
returns-in_err-room_for g c =
    let k = g.V.Kind.meaning in
    let p = view c.args.table.now in
    let s = c.args.sequence.now in
    let r = c.args.rounds in
    let q = err_from_is_err_and c.from_residual.result c.from_residual.ensures.1 in
    let e = no_room c.args.out.now (emitted_of k.byte p r (guide_of s) (sections_of s)) c.len-n.result c.in_err-room_for.field-0.0 (c.len-n.ensures ∙ sym (length_emitted k.byte p r (guide_of s) (sections_of s))) c.in_err-room_for.ensures in
    record { answer = q.1 ∙ ap (λ x. Err x) q.2 ∙ e.0; after = e.1; translated = emitted_translated k.byte s p r; few = emitted_few k p r }

pub write-requires : goal.write-requires
write-requires g c =
    let s = c.args.sequence.now in
    let h = has_room c.len-n.result (length c.args.out.now) c.in_ok-room_for.ensures in
    omega (arith, c.len-n.ensures, length_emitted g.V.Kind.meaning.byte (view c.args.table.now) c.args.rounds (guide_of s) (sections_of s))

pub returns : goal.returns
returns g c =
    let k = g.V.Kind.meaning in
    let p = view c.args.table.now in
    let s = c.args.sequence.now in
    let r = c.args.rounds in
    let h = has_room c.len-n.result (length c.args.out.now) c.in_ok-room_for.ensures in
    let e = fills c.args.out.now (emitted_of k.byte p r (guide_of s) (sections_of s)) c.len-n.result (c.len-n.ensures ∙ sym (length_emitted k.byte p r (guide_of s) (sections_of s))) h in
    record { answer = e.0; after = c.write.ensures ∙ e.1; translated = emitted_translated k.byte s p r; few = emitted_few k p r }
