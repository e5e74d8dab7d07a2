use Rattle.std.proofs.Common.{length, ap, ◌∙◌, arith}
use Rattle.records.specs.Wrote.{wrote}
use Rattle.sequences.specs.Sequences.{guide_of, sections_of}
use Rattle.tables.specs.Encoded.{cell_bytes}
use Rattle.tables.specs.Tables.{view}
use Rattle.tables.proofs.Saves.{length_cells}
use Rattle.sections.specs.declared.owner.Owner.TheVariants as of
use Rattle.sections.specs.Emitted.{sections_from}
use Rattle.sections.specs.Rows.{program_row, section_bytes}
use Rattle.sections.proofs.Emits.{length_emitted, four_writes}
use Rattle.sections.proofs.Sections.{length_section}
use Rattle.sections.proofs.emit.File.write.Goals as goal

pub write_section-threads-requires-clause-room : goal.write_section-threads-requires-clause-room
write_section-threads-requires-clause-room g c =
    let k = g.V.Kind.meaning.byte in
    let p = view c.args.self.now.table.now in
    let s = c.args.self.now.sequence.now in
    omega (arith, length_emitted k p c.args.self.now.rounds (guide_of s) (sections_of s), length_cells 0 p.cells, ap length c.driver.ensures.value, c.requires, c.put-cells.ensures.next, c.put-cells.auto.out, c.save_cells-driver.ensures.next, c.save_cells-driver.auto.out)

pub write_sections-end-requires : goal.write_sections-end-requires
write_sections-end-requires g c =
    let k = g.V.Kind.meaning.byte in
    let p = view c.args.self.now.table.now in
    let s = c.args.self.now.sequence.now in
    omega (arith, length_emitted k p c.args.self.now.rounds (guide_of s) (sections_of s), length_cells 0 p.cells, ap length c.driver.ensures.value, c.requires, c.put-cells.ensures.next, c.put-cells.auto.out, c.save_cells-driver.ensures.next, c.save_cells-driver.auto.out, c.write_section-threads.ensures.next, c.write_section-threads.auto.out)

pub returns : goal.returns
returns g c =
    let k = g.V.Kind.meaning.byte in
    let p = view c.args.self.now.table.now in
    let s = c.args.self.now.sequence.now in
    let out = c.args.out.now in
    let guide = c.driver.ensures.value in
    let l = length_section of.Driver (guide_of s) in
    four_writes (program_row k p c.args.self.now.rounds) (cell_bytes 0 p.cells) (section_bytes of.Driver (guide_of s)) (sections_from (sections_of s) 0 p.texts) out c.put-cells.new.out c.save_cells-driver.new.out c.write_section-threads.new.out c.write_sections-end.new.out c.put-cells.result c.save_cells-driver.result c.write_section-threads.result c.requires c.put-cells.auto.out (omega (arith, c.put-cells.auto.out, c.save_cells-driver.auto.out)) (omega (arith, c.put-cells.auto.out, c.save_cells-driver.auto.out, c.write_section-threads.auto.out))
    (c.put-cells.ensures.after ∙ ap (λ r. wrote out 0 r) c.program_row.ensures) c.put-cells.ensures.next c.save_cells-driver.ensures.after c.save_cells-driver.ensures.next
    (c.write_section-threads.ensures.after ∙ ap (λ xs. wrote c.save_cells-driver.new.out c.save_cells-driver.result (section_bytes of.Driver xs)) guide) (omega (arith, c.write_section-threads.ensures.next, ap length guide)) c.write_sections-end.ensures.after
