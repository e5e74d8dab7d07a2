use Rattle.std.proofs.Common.{arith}
use Rattle.tables.specs.Tables.{view}
use Rattle.tables.proofs.Saves.{length_encoded}
use Rattle.tables.proofs.table.Table.file_len.Goals as goal

pub returns : goal.returns
returns c byte = omega (arith, length_encoded byte (view c.args.self.now) c.threads_len.result c.threads_len.ensures.value)
