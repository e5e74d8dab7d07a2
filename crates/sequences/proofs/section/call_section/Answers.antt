use Rattle.std.proofs.Common.{◌+◌, ◌≤◌, length, sym, ap, ◌∙◌, subst, arith}
use Rattle.sequences.specs.Passages.{counts, tally}
use Rattle.sequences.proofs.Execs.{exec_after, exec_past, exec_none, tally_most}
use Rattle.sequences.proofs.section.call_section.Goals as goal

pub returns-in-Break : goal.returns-in-Break
returns-in-Break g c =
    let n = c.tally-count.ensures ∙ ap (λ b. tally b c.loop-step.count) c.counts.ensures in
    sym (c.loop-step.invariant.0 ∙ exec_after g.V.Kind.meaning c.args.i.0 c.args.code.now _ _ c.loop-step.at c.loop-step.count _ _ _ _ _ _ c.loop-step-test.true c.if-at-code.false c.act_of-act.ensures c.perform.ensures n c.in-Break.ensures)

pub loop-step-preserved : goal.loop-step-preserved
loop-step-preserved g c =
    let d = c.loop-step.count in
    let n = c.tally-count.ensures ∙ ap (λ b. tally b d) c.counts.ensures in (
      c.loop-step.invariant.0 ∙ exec_after g.V.Kind.meaning c.args.i.0 c.args.code.now _ _ c.loop-step.at d _ _ _ _ _ _ c.loop-step-test.true c.if-at-code.false c.act_of-act.ensures c.perform.ensures n c.in-Continue.ensures,
      subst (λ m. m ≤ c.loop-step._step + 1) (sym n) (tally_most (counts c.act_of-act.result) d c.loop-step._step c.loop-step.invariant.1),
    )

pub returns-then-at-code : goal.returns-then-at-code
returns-then-at-code g c =
    sym (c.loop-step.invariant.0 ∙ exec_past _ _ c.args.code.now (length c.args.code.now) _ _ _ _ c.if-at-code.true)

pub returns-after-loop-step : goal.returns-after-loop-step
returns-after-loop-step g c =
    sym (c.loop-step.invariant.0 ∙ exec_none _ _ _ _ _ _ _ _ (omega arith))
