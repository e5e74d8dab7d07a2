use Rattle.std.proofs.Common.{◌≡◌, ◌+◌, length}
use Rattle.tables.specs.Encoded.{thread_bytes}
use Rattle.records.specs.Wrote.{wrote}
use Rattle.tables.proofs.table.Table.save_threads.Given as goal

abbrev pub invariant-loop-i : goal.invariant-loop-i
invariant-loop-i l =
    (wrote l.out l.at (thread_bytes l.i l.t-items l.left) ≡ wrote l.initial.out l.start (thread_bytes 0 l.t-items l.initial.left))
    × (l.at + length (thread_bytes l.i l.t-items l.left) ≡ l.start + length (thread_bytes 0 l.t-items l.initial.left))
