-- One more instruction of the driver.
use Rattle.std.proofs.Common.{◌≡◌, ℕ, suc, ◌+◌, ◌-◌, ◌<◌, ◌≤◌, Bool, true, false, cond, eqb, List, drop, sym, refl, ap, ◌∙◌, arith, Ok, Err}
use Rattle.std.specs.declared.ops.ControlFlow.{ControlFlow}
use Rattle.std.specs.declared.ops.ControlFlow.TheVariants.{Continue, Break}
use Rattle.kinds.specs.Meaning.{Meaning}
use Rattle.walks.specs.declared.outcome.Ending.TheVariants.{Cut}
use Rattle.walks.specs.declared.outcome.Outcome.TheVariants.{Ended}
use Rattle.reports.specs.declared.report.Turn.{Turn}
use Rattle.reports.specs.Stops.{End}
use Rattle.sequences.specs.declared.instruction.Instruction.{Instruction}
use Rattle.sequences.specs.declared.point.SeqPoint.{SeqPoint}
use Rattle.sequences.specs.declared.state.SeqState.{SeqState}
use Rattle.sequences.specs.Acts.{Called, call}
use Rattle.sequences.specs.Drives.{Sequence, Moved, moved, Move, slot, guess, enter, save, finish, stray, first_move, returned, driven, proceed}
use Rattle.sequences.specs.States.{word}
use Rattle.sequences.specs.Strides.{Strode, strode, entered, stride}
use Rattle.sequences.specs.Words.{active}

-- what an instruction makes of the run: `more` is the run from another address
abbrev pub onward : (ℕ → ℕ → SeqState → Moved) → SeqPoint → ControlFlow Turn ℕ → Moved
onward more p (Continue c) = more p.at.0 c p.state
onward more p (Break t) = moved t.count.0 t.outcome p.at.0 p.state

abbrev onward_by : (ℕ → ℕ → SeqState → Moved) → Strode → Moved
onward_by more s = onward more s.point s.stride

returned_onward : (h : ℕ) (more : ℕ → ℕ → SeqState → Moved) (r : Called) (e : End) → returned h more r e ≡ onward_by more (entered h r e)
returned_onward h more r (Ok tt) = refl
returned_onward h more r (Err e) = refl

either : (b : Bool) (a h c : ℕ) (q : SeqState) (more : ℕ → ℕ → SeqState → Moved) → cond b (more a c q) (more h c q) ≡ more (cond b a h) c q
either true a h c q more = refl
either false a h c q more = refl

driven_onward : (k : Meaning) (sections : ℕ → List Instruction) (h c : ℕ) (q : SeqState) (more : ℕ → ℕ → SeqState → Moved) (m : Move) → driven k sections h c q more m ≡ onward_by more (stride k sections h c q m)
driven_onward k sections h c q more (slot i to) = either (eqb (word q (active i)) 0) to (h + 1) c q more
driven_onward k sections h c q more (guess i n) = refl
driven_onward k sections h c q more (enter i) = let r = call k i (sections i) q in returned_onward h more r r.end
driven_onward k sections h c q more (save i) = refl
driven_onward k sections h c q more finish = refl
driven_onward k sections h c q more stray = refl

module _ (k : Meaning) (s : Sequence) (n : ℕ) where
  -- the run goes on as the instruction at its address says
  pub proceed_after : (z h c : ℕ) (q : SeqState) (t : ControlFlow Turn ℕ) (p : SeqPoint) → z < n → strode t p ≡ stride k s.sections h c q (first_move (drop h s.guide)) → proceed k s (n - z) h c q ≡ onward (proceed k s (n - (z + 1))) p t
  unfolding proceed
  proceed_after z h c q t p l e =
      let m : n - z ≡ suc (n - (z + 1)) = omega arith in
      ap (λ y. proceed k s y h c q) m
      ∙ driven_onward k s.sections h c q (proceed k s (n - (z + 1))) (first_move (drop h s.guide))
      ∙ ap (onward_by (proceed k s (n - (z + 1)))) (sym e)

  -- with no step left it is cut
  pub proceed_none : (z h c : ℕ) (q : SeqState) → n ≤ z → proceed k s (n - z) h c q ≡ moved c (Ended Cut) h q
  unfolding proceed
  proceed_none z h c q l =
      let m : n - z ≡ 0 = omega arith in
      ap (λ y. proceed k s y h c q) m
