use Rattle.std.proofs.Common.{◌≡◌, ◌-◌}
use Rattle.tables.specs.Tables.{view}
use Rattle.threads.specs.Slots.{run}
use Rattle.threads.proofs.slot.run_slot.Given as goal

-- what is left to do comes to the whole
abbrev pub invariant-loop-d : goal.invariant-loop-d
invariant-loop-d g l =
    let k = g.V.Kind.meaning in
    run k (view l.table) l.i l.n.0 0 l.initial.state ≡ run k (view l.table) l.i (l.n.0 - l.d) l.d l.state
