use Rattle.std.proofs.Common.{◌++◌, take, sym, ap, ◌∙◌, arith}
use Rattle.sequences.specs.Code.{guards}
use Rattle.records.proofs.Rooms.{room_same}
use Rattle.sequences.proofs.writes.Writer.write_guard.Goals as goal

pub returns-else-guarded : goal.returns-else-guarded
returns-else-guarded c =
    let old = c.args.code.now in
    room_same 1936 old (omega (arith, c.len-few.ensures.value, c.len-few.ensures.few)) ∙ ap (λ b. take 1936 (old ++ guards b c.args.t.0)) (sym (sym c.guarded.ensures ∙ c.if-guarded.false))
