use Rattle.std.proofs.Common.{◌≡◌, ◌+◌}
use Rattle.walks.specs.Tallies.{visited}
use Rattle.walks.specs.Walks.{Tied}
use Rattle.walks.proofs.walk.Walk.advance.Given as goal

abbrev pub invariant-loop : goal.invariant-loop
invariant-loop g l =
    let m = g.R.Runner in
    (visited l.self.tally ≡ visited l.initial.self.tally + l.counter) × (m.ready l.r → Tied (m.outcome l.r) (m.stands l.r) l.initial.self → Tied (m.outcome l.r) (m.stands l.r) l.self)
