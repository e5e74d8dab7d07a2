use Rattle.std.proofs.Common.{refl}
use Rattle.tables.specs.Encoded.{thread_row}
use Rattle.records.proofs.Writes.{both}
use Rattle.tables.proofs.table.saves.save_text.Goals as goal

pub returns-clause-after : goal.returns-clause-after
returns-clause-after c =
    both c.args.out.now c.put-at.new.out c.save_statements.new.out c.args.start c.put-at.result c.row.result (thread_row c.args.i c.args.t) _ c.row.ensures refl c.put-at.ensures.after c.put-at.ensures.next c.save_statements.ensures.after c.requires
