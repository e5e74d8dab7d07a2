use Rattle.std.proofs.Common.{◌<◌, length, ap, ◌∙◌, arith}
use Rattle.tables.specs.Tables.{view}
use Rattle.sequences.specs.Sequences.{part_between}
use Rattle.sequences.specs.Writes.{Low}
use Rattle.sequences.proofs.Joined.{written_more, written_sections, own_all}
use Rattle.sequences.proofs.translate.write_sections.Goals as goal

pub loop-i-preserved : goal.loop-i-preserved
loop-i-preserved c =
    let p = view c.args.table.now in
    let i = c.loop-i.i in
    let xs = c.loop-i.sections in
    let ys = c.write_section.new.code in
    let ts = c.loop-i.parts in
    let b : i < 8 = omega (arith, c.threads-i-end.ensures.few) in
    let t = c.between.ensures ∙ ap (part_between _) c.len.ensures.value ∙ ap (λ f. part_between f (length ys)) c.len-first.ensures.value in
    λ small.
    let w = c.loop-i.invariant small in
    written_more p small i xs ys ts _ c.between.result b w (c.write_section.ensures (own_all Low p i small.low)) (c.push.ensures.room (omega (arith, w.many))) t

pub returns : goal.returns
returns c = λ small i l. written_sections _ _ _ _ (c.loop-i.invariant small) i (omega (arith, c.threads-i-end.ensures.value))
