use Rattle.std.proofs.Common.{◌≡◌, ◌-◌, length}
use Rattle.sequences.specs.Drives.{proceed, proceeds}
use Rattle.sequences.specs.Sequences.{instructions, guide_of}
use Rattle.sequences.proofs.sequence.Sequence.proceed.Given as goal

-- what is left to run comes to the whole
abbrev pub invariant-loop-step : goal.invariant-loop-step
invariant-loop-step g l =
    let k = g.V.Kind.meaning in
    let s = instructions l.self in
    proceeds k s l.initial.at.at.0 l.initial.at.state ≡ proceed k s (length (guide_of l.self) - l._step) l.at.at.0 l.count l.at.state
