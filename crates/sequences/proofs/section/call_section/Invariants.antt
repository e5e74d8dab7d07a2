use Rattle.std.proofs.Common.{◌≡◌, ◌-◌, ◌≤◌, length}
use Rattle.sequences.specs.Acts.{call, exec}
use Rattle.sequences.proofs.section.call_section.Given as goal

-- what is left to run comes to the whole
abbrev pub invariant-loop-step : goal.invariant-loop-step
invariant-loop-step g l =
    let k = g.V.Kind.meaning in
    (call k l.i.0 l.code l.initial.state ≡ exec k l.i.0 l.code (length l.code - l._step) l.at l.count l.state) × (l.count ≤ l._step)
