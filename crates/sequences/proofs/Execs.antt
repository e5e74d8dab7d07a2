-- One more instruction of a section.
use Rattle.std.proofs.Common.{◌≡◌, ℕ, zero, suc, ◌+◌, ◌-◌, ◌<◌, ◌≤◌, Bool, true, false, List, length, get_or, drop, sym, refl, ap, ◌∙◌, arith, Err}
use Rattle.std.proofs.lemmas.List.{drop_more, drop_all}
use Rattle.std.specs.declared.ops.ControlFlow.{ControlFlow}
use Rattle.std.specs.declared.ops.ControlFlow.TheVariants.{Continue, Break}
use Rattle.kinds.specs.Meaning.{Meaning}
use Rattle.reports.specs.declared.stop.Stop.TheVariants as stop
use Rattle.reports.specs.Stops.{End}
use Rattle.sequences.specs.declared.act.Act.{Act}
use Rattle.sequences.specs.declared.act.Act.TheVariants.{On, Write, Mark, To, Back, Fail, Stop}
use Rattle.sequences.specs.declared.instruction.Instruction.{Instruction}
use Rattle.sequences.specs.declared.state.SeqState.{SeqState}
use Rattle.sequences.specs.Acts.{Called, called, act, carried, fetched, exec}
use Rattle.sequences.specs.Passages.{performed, counts, passage, tally}

pub tally_most : (c : Bool) (d s : ℕ) → d ≤ s → tally c d ≤ s + 1
tally_most true d s l = omega arith
tally_most false d s l = omega arith

-- what an instruction makes of the run: `more` is the run from another address
abbrev pub went : ℕ → SeqState → (ℕ → ℕ → SeqState → Called) → ControlFlow End ℕ → Called
went d q more (Continue h) = more h d q
went d q more (Break e) = called e d q

carried_went : (i h d : ℕ) (q : SeqState) (more : ℕ → ℕ → SeqState → Called) (a : Act) → carried i h d q more a ≡ went (tally (counts a) d) (performed q i a) more (passage h a)
carried_went i h d q more (On c) = refl
carried_went i h d q more (Write p c) = refl
carried_went i h d q more (Mark w v) = refl
carried_went i h d q more (To c a) = refl
carried_went i h d q more Back = refl
carried_went i h d q more Fail = refl
carried_went i h d q more Stop = refl

module _ (k : Meaning) (i : ℕ) (code : List Instruction) (n : ℕ) where
  exec_more : (s h d : ℕ) (q : SeqState) → s < n → exec k i code (n - s) h d q ≡ fetched k i h d q (exec k i code (n - (s + 1))) (drop h code)
  unfolding exec
  exec_more s h d q l =
      let e : n - s ≡ suc (n - (s + 1)) = omega arith in
      ap (λ m. exec k i code m h d q) e

  -- the run goes on as the instruction at its address says
  pub exec_after : (s h d : ℕ) (q t : SeqState) (z : Instruction) (a : Act) (c : ℕ) (w : ControlFlow End ℕ) → s < n → h < length code → a ≡ act k i q (get_or code h z) → t ≡ performed q i a → c ≡ tally (counts a) d → w ≡ passage h a → exec k i code (n - s) h d q ≡ went c t (exec k i code (n - (s + 1))) w
  exec_after s h d q t z a c w l there ea et ec ew =
      exec_more s h d q l
      ∙ ap (fetched k i h d q (exec k i code (n - (s + 1)))) (drop_more code h z there)
      ∙ ap (carried i h d q (exec k i code (n - (s + 1)))) (sym ea)
      ∙ carried_went i h d q (exec k i code (n - (s + 1))) a
      ∙ ap (λ y. went (tally (counts a) d) y (exec k i code (n - (s + 1))) (passage h a)) (sym et)
      ∙ ap (λ y. went y t (exec k i code (n - (s + 1))) (passage h a)) (sym ec)
      ∙ ap (went c t (exec k i code (n - (s + 1)))) (sym ew)

  -- past the last instruction, and with no step left, it is cut
  pub exec_past : (s h d : ℕ) (q : SeqState) → length code ≤ h → exec k i code s h d q ≡ called (Err stop.Cut) d q
  unfolding exec
  exec_past zero h d q l = refl
  exec_past (suc s) h d q l = ap (fetched k i h d q (exec k i code s)) (drop_all h code l)

  pub exec_none : (s h d : ℕ) (q : SeqState) → n ≤ s → exec k i code (n - s) h d q ≡ called (Err stop.Cut) d q
  unfolding exec
  exec_none s h d q l =
      let e : n - s ≡ 0 = omega arith in
      ap (λ m. exec k i code m h d q) e
