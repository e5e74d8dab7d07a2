use Rattle.std.proofs.Common.{◌<◌, length, ap, arith}
use Rattle.sequences.specs.Sequences.{sections_of}
use Rattle.tables.specs.Tables.{view}
use Rattle.sections.proofs.Emits.{length_more}
use Rattle.sections.proofs.emit.File.sections_len.Goals as goal

pub loop-i-preserved : goal.loop-i-preserved
loop-i-preserved g c =
    let S = sections_of c.args.self.now.sequence.now in
    let ts = (view c.args.self.now.table.now).texts in
    let i = c.loop-i.i in
    let h : i < length ts = omega (arith, c.threads-i-end.ensures.value) in
    let l = length_more S ts i h in
    let e = ap length c.section.ensures.value in
    (omega (arith, c.loop-i.invariant.0), omega (arith, c.loop-i.invariant.1, c.section.ensures.few))
