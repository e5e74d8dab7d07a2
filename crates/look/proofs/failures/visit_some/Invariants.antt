use Rattle.std.proofs.Common.{◌≡◌, ◌+◌}
use Rattle.threads.specs.Points.{Ready, Follows}
use Rattle.walks.specs.Tallies.{visited}
use Rattle.walks.specs.Walks.{Tied}
use Rattle.look.specs.Surveys.{outcomes}
use Rattle.look.proofs.failures.visit_some.Given as goal

abbrev pub invariant-loop : goal.invariant-loop
invariant-loop g l =
    let k = g.V.Kind.meaning in
    (visited l.walk.tally ≡ visited l.initial.walk.tally + l.counter) × (Ready k l.machine → Tied (outcomes k l.machine) (Follows k l.machine) l.initial.walk → Tied (outcomes k l.machine) (Follows k l.machine) l.walk)
