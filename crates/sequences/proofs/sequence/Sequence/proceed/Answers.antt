use Rattle.std.proofs.Common.{◌<◌, ◌≤◌, length, sym, ap, ◌∙◌, arith}
use Rattle.sequences.specs.Sequences.{instructions, guide_of}
use Rattle.reports.specs.Players.{with_point}
use Rattle.sequences.proofs.Strides.{proceed_after, proceed_none}
use Rattle.sequences.proofs.sequence.Sequence.proceed.Goals as goal

pub returns-in-Break : goal.returns-in-Break
returns-in-Break g c =
    let s = c.args.self.now in
    let l : c.loop-step._step < length (guide_of s) = omega arith in
    sym (c.loop-step.invariant ∙ proceed_after g.V.Kind.meaning (instructions s) (length (guide_of s)) c.loop-step._step c.loop-step.at.at.0 c.loop-step.count c.loop-step.at.state _ c.stride.new.at l c.in-Break.ensures)

pub loop-step-preserved : goal.loop-step-preserved
loop-step-preserved g c =
    let s = c.args.self.now in
    let l : c.loop-step._step < length (guide_of s) = omega arith in
    c.loop-step.invariant ∙ proceed_after g.V.Kind.meaning (instructions s) (length (guide_of s)) c.loop-step._step c.loop-step.at.at.0 c.loop-step.count c.loop-step.at.state _ c.stride.new.at l c.in-Continue.ensures

pub returns : goal.returns
returns g c =
    let s = c.args.self.now in
    let l : length (guide_of s) ≤ c.loop-step._step = omega arith in
    ap (λ t. with_point t c.loop-step.at) c.ended.ensures
    ∙ sym (c.loop-step.invariant ∙ proceed_none g.V.Kind.meaning (instructions s) (length (guide_of s)) c.loop-step._step c.loop-step.at.at.0 c.loop-step.count c.loop-step.at.state l)
