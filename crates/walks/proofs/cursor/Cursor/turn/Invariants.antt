use Rattle.std.proofs.Common.{◌≡◌}
use Rattle.walks.specs.Paths.{levels, unspent}
use Rattle.walks.proofs.cursor.Cursor.turn.Given as goal

abbrev pub invariant-loop-i : goal.invariant-loop-i
invariant-loop-i g l =
    let old = levels l.initial.self in
    let now = levels l.self in
    (l.self ≡ l.initial.self) × (unspent now.numbers now.bounds l.i ≡ unspent old.numbers old.bounds old.depth)
