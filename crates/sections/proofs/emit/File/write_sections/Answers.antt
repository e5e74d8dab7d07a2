use Rattle.std.proofs.Common.{◌+◌, ◌<◌, length, drop, ap, arith}
use Rattle.records.proofs.Writes.{advance}
use Rattle.sequences.specs.Code.{thread}
use Rattle.sequences.specs.Sequences.{sections_of}
use Rattle.tables.specs.Tables.{view}
use Rattle.sections.specs.declared.owner.Owner.TheVariants as of
use Rattle.sections.specs.Emitted.{sections_from}
use Rattle.sections.specs.Rows.{section_bytes}
use Rattle.sections.proofs.Emits.{length_more, sections_more}
use Rattle.sections.proofs.Sections.{length_section}
use Rattle.sections.proofs.emit.File.write_sections.Goals as goal

pub write_section-at-requires-clause-room : goal.write_section-at-requires-clause-room
write_section-at-requires-clause-room g c =
    let S = sections_of c.args.self.now.sequence.now in
    let ts = (view c.args.self.now.table.now).texts in
    let i = c.loop-i.i in
    let h : i < length ts = omega (arith, c.threads-i-end.ensures.value) in
    let l = length_more S ts i h in
    let e = ap length c.section.ensures.value in
    omega (arith, c.loop-i.invariant.1, c.requires, c.loop-i.auto.out)

pub loop-i-preserved : goal.loop-i-preserved
loop-i-preserved g c =
    let S = sections_of c.args.self.now.sequence.now in
    let ts = (view c.args.self.now.table.now).texts in
    let i = c.loop-i.i in
    let t = c.text.result in
    let code = c.section.result.now in
    let own = of.Thread (thread i) t.locals in
    let h : i < length ts = omega (arith, c.threads-i-end.ensures.value) in
    let parts = sections_more S ts i t code h c.text.ensures c.section.ensures.value in
    advance c.loop-i.out c.write_section-at.new.out c.loop-i.at c.write_section-at.result (section_bytes own code) (sections_from S (i + 1) (drop (i + 1) ts)) _ _ _ parts c.loop-i.invariant.1 (omega (arith, c.requires, c.loop-i.auto.out)) c.write_section-at.ensures.after (omega (arith, c.write_section-at.ensures.next, length_section own code)) c.loop-i.invariant.0
