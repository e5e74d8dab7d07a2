use Rattle.std.proofs.Common.{◌/◌, ◌<◌, [], length, get_or, sym, ap, ◌∙◌, arith}
use Rattle.records.specs.Lines.{line, sc, th}
use Rattle.questions.proofs.Follows.{length_lines, lines_at}
use Rattle.tables.specs.Program.{with_record, behind}
use Rattle.tables.specs.Tables.{view}
use Rattle.tables.proofs.Ontos.{cell_room, thread_room, grown, onto_all, statements_most}
use Rattle.tables.proofs.table.Table.fill.Goals as goal

pub add-first-requires : goal.add-first-requires
add-first-requires c =
    let p = view c.loop-i.self in
    let f = c.args.file.now in
    let i = c.loop-i.i in
    let l = ap length c.lines-line-items.ensures ∙ length_lines f in
    let h : i < length f / 10 = omega arith in
    let e = ap (λ rs. get_or rs i []) c.lines-line-items.ensures ∙ lines_at f i h in
    record {
      low = omega arith;
      wide = λ q. omega (arith, cell_room p c.loop-i.first f i h c.loop-i.invariant.0 (ap sc (sym e) ∙ q));
      deep = λ q. omega (arith, thread_room p c.loop-i.first f i h c.loop-i.invariant.0 (ap th (sym e) ∙ q));
      long = omega arith;
    }

pub loop-i-preserved : goal.loop-i-preserved
loop-i-preserved c =
    let p = view c.loop-i.self in
    let f = c.args.file.now in
    let i = c.loop-i.i in
    let at = c.loop-i.first in
    let l = ap length c.lines-line-items.ensures ∙ length_lines f in
    let h : i < length f / 10 = omega arith in
    let e = ap (λ rs. get_or rs i []) c.lines-line-items.ensures ∙ lines_at f i h in
    let after = c.add-first.ensures.after ∙ ap (with_record p at) e in (
      grown p (view c.add-first.new.self) at c.add-first.result f i h c.loop-i.invariant.0 after (c.add-first.ensures.next ∙ ap (behind at) e),
      omega arith,
      omega (arith, ap (λ z. length z.statements) after, statements_most p at (line f i) i c.loop-i.invariant.2),
    )

pub returns : goal.returns
returns c =
    let f = c.args.file.now in
    let l = ap length c.lines-line-items.ensures ∙ length_lines f in
    sym (onto_all (view c.loop-i.self) c.loop-i.first f c.loop-i.i (omega arith)) ∙ c.loop-i.invariant.0
