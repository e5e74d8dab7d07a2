use Rattle.std.proofs.Common.{◌≡◌, map, take, vec_items}
use Rattle.hosts.specs.Numerals.{numeral}
use Rattle.hosts.proofs.numbers.numbers_of.Given as goal

abbrev pub invariant-loop-word : goal.invariant-loop-word
invariant-loop-word g l = vec_items l.numbers ≡ map (λ w. numeral (g.S.AsStr.text w)) (take l.word-index l.words)
