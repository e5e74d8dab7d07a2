use Rattle.std.proofs.Common.{◌∙◌}
use Rattle.tables.specs.Program.{own}
use Rattle.tables.specs.Tables.{view}
use Rattle.sequences.specs.Code.{address_in}
use Rattle.sequences.proofs.Writings.{section_next}
use Rattle.sequences.proofs.writes.write_section.Goals as goal

pub loop-l-preserved : goal.loop-l-preserved
loop-l-preserved c =
    let p = view c.args.table.now in
    let i = c.args.i.0 in
    λ low.
    section_next p i (own p i) (address_in p i) 1936 c.loop-l.l _ c.statements_of-text.result.now c.loop-l.code c.write_label.new.code c.statements_of-text.ensures.value c.loop-l-test.true low c.write_label.ensures ∙ c.loop-l.invariant low
