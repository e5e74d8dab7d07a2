use Rattle.tables.specs.Tables.{view}
use Rattle.sequences.specs.Writes.{Translatable}
use Rattle.sequences.proofs.Joined.{Written}
use Rattle.sequences.proofs.translate.write_sections.Given as goal

abbrev pub invariant-loop-i : goal.invariant-loop-i
invariant-loop-i l = Translatable (view l.table) → Written (view l.table) l.i l.sections l.parts
