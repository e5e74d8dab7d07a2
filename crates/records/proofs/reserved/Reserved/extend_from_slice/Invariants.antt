use Rattle.std.proofs.Common.{◌≡◌, ◌++◌, take}
use Rattle.records.proofs.reserved.Reserved.extend_from_slice.Given as goal

abbrev pub invariant-loop-x : goal.invariant-loop-x
invariant-loop-x g l = l.self ≡ take g.row.N (l.fn.self ++ take l.x-index l.xs)
