use Rattle.std.proofs.Common.{◌∙◌}
use Rattle.records.proofs.Chunks.{chunks_lines}
use Rattle.records.proofs.reader.lines.Goals as goal

pub returns : goal.returns
returns c = c.as_chunks.ensures.front ∙ chunks_lines c.args.file.now
