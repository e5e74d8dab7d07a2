use Rattle.std.proofs.Common.{sym, ap, ◌∙◌, arith}
use Rattle.threads.specs.Slots.{ran}
use Rattle.threads.proofs.Runs.{run_after, run_none}
use Rattle.threads.proofs.slot.run_slot.Goals as goal

pub returns-in-Err : goal.returns-in-Err
returns-in-Err g c =
    sym (c.loop-d.invariant ∙ run_after _ _ _ _ _ _ c.loop-d-test.true _ _ _ c.in-Err.is c.step.ensures.progress c.step.ensures.after ∙ ap (λ x. ran x c.step.new.state) (sym c.stopped.ensures))

pub loop-d-preserved : goal.loop-d-preserved
loop-d-preserved g c = c.loop-d.invariant ∙ run_after _ _ _ _ _ _ c.loop-d-test.true _ _ _ c.in_default.is c.step.ensures.progress c.step.ensures.after

pub returns : goal.returns
returns g c = sym (c.loop-d.invariant ∙ run_none _ _ _ _ c.args.n.0 c.loop-d.d (omega arith))
