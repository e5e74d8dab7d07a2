use Rattle.std.proofs.Common.{◌≡◌, ◌+◌, ◌*◌, ◌≤◌, length}
use Rattle.tables.specs.Encoded.{thread_bytes}
use Rattle.tables.proofs.table.Table.threads_len.Given as goal

abbrev pub invariant-loop-t : goal.invariant-loop-t
invariant-loop-t l =
    (l.bytes + length (thread_bytes l.t-index l.t-items l.left) ≡ length (thread_bytes 0 l.t-items l.initial.left))
    × (l.bytes + 10 * length l.left ≤ 10 * l.t-index + 10 * length l.initial.left)
