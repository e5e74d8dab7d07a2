use Rattle.std.proofs.Common.{◌≡◌, ◌∙◌, sym, arith, rules, Err}
use Rattle.tables.specs.Encoded.{encoded}
use Rattle.tables.specs.Tables.{view}
use Rattle.records.proofs.Fills.{no_room, has_room, fills}
use Rattle.tables.proofs.Returns.{accepted_again}
use Rattle.tables.proofs.table.Table.save.Goals as goal

pub returns-in_err-room_for : goal.returns-in_err-room_for
returns-in_err-room_for g c =
    let k = g.V.Kind.meaning in
    let p = view c.args.self.now in
    let x = c.in_err-room_for.field-0.0 in
    let q = sym c.in_err-room_for.was ∙ c.room_for.ensures in
    let e = no_room c.args.out.now (encoded k.byte p) c.file_len-n.result x (c.file_len-n.ensures k.byte) q in
    let r : c.from_residual.result ≡ Err x = search rules in
    record { answer = r ∙ e.0; after = e.1; again = accepted_again k p }

pub write-requires : goal.write-requires
write-requires g c =
    let h = has_room c.file_len-n.result _ c.in_ok-room_for.ensures in
    omega (arith, c.file_len-n.ensures g.V.Kind.meaning.byte)

pub returns : goal.returns
returns g c =
    let k = g.V.Kind.meaning in
    let p = view c.args.self.now in
    let h = has_room c.file_len-n.result _ c.in_ok-room_for.ensures in
    let e = fills c.args.out.now (encoded k.byte p) c.file_len-n.result (c.file_len-n.ensures k.byte) h in
    record { answer = e.0; after = c.write.ensures ∙ e.1; again = accepted_again k p }
