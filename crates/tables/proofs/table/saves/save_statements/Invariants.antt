use Rattle.std.proofs.Common.{◌≡◌, ◌+◌, length, drop}
use Rattle.tables.specs.Encoded.{own_bytes}
use Rattle.records.specs.Wrote.{wrote}
use Rattle.tables.proofs.table.saves.save_statements.Given as goal

abbrev pub invariant-loop-s : goal.invariant-loop-s
invariant-loop-s l =
    (wrote l.out l.at (own_bytes (drop l.s-index l.own)) ≡ wrote l.initial.out l.start (own_bytes l.own))
    × (l.at + length (own_bytes (drop l.s-index l.own)) ≡ l.start + length (own_bytes l.own))
