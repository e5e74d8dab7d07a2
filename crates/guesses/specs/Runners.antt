-- The sequential program is a runner: its laws, its first point, and one step.
use Rattle.std.specs.Prelude.{◌≡◌, ℕ, ◌≤◌, List, [], ◌∷◌, ◌++◌}
use Rattle.std.proofs.Math.Path.{refl, ap, fun_ext}
use Rattle.std.proofs.Common.{sym, subst, ◌∙◌, append_assoc}
use Rattle.kinds.specs.Meaning.{Meaning}
use Rattle.tables.specs.Program.{Program}
use Rattle.tables.specs.WellFormed.{WellFormed}
use Rattle.walks.specs.declared.outcome.Outcome.{Outcome}
use Rattle.walks.specs.declared.outcome.Outcome.TheVariants.{Open, Ended}
use Rattle.walks.specs.Outcomes.{IsOpen}
use Rattle.walks.specs.Runs.{Lawful, Landed}
use Rattle.sequences.specs.declared.point.SeqPoint.{SeqPoint}
use Rattle.sequences.specs.declared.sequence.Sequence.{Sequence}
use Rattle.sequences.specs.Drives.{Moved, Driven, turn, drive_from, drive}
use Rattle.sequences.specs.Sequences.{instructions, starts, drives_so}
use Rattle.sequences.proofs.Translated.{drives_translated}
use Rattle.guesses.specs.Answers.{Answer}
use Rattle.guesses.specs.Points.{Ready, Follows}
use Rattle.guesses.specs.Drivers.{drives_paced}
use Rattle.guesses.specs.Pacing.{pace_lawful}

pub drive_lawful : (k : Meaning) (p : Program) → WellFormed k p → (rounds : ℕ) → 1 ≤ rounds → rounds ≤ 8 → Lawful (λ l. (drive k p rounds l).outcome)
drive_lawful k p w rounds some few =
    subst Lawful (fun_ext (λ l. ap (λ (a : Answer). a.outcome) (sym (drives_paced k p w rounds l)))) (pace_lawful k p w rounds some few)

module _ {V : Type 0} (k : Meaning) (s : Sequence V) where
  pub ready_lawful : Ready k s → Lawful (λ l. (drives_so k s l).outcome)
  ready_lawful r =
      subst Lawful (fun_ext (λ l. ap (λ (d : Driven). d.outcome) (sym (drives_translated k s r.program r.rounds l r.holds))))
      (drive_lawful k r.program r.exists r.rounds r.some r.few)

  -- a run at its start
  starts_so : (ns : List ℕ) (o : Outcome) (at : SeqPoint) → o ≡ (starts k s).outcome → at ≡ (starts k s).point → (drives_so k s ns).outcome ≡ (drive_from k (instructions s) o at ns).outcome
  starts_so ns o at e q = sym (ap (λ o. (drive_from k (instructions s) o at ns).outcome) e ∙ ap (λ p. (drive_from k (instructions s) (starts k s).outcome p ns).outcome) q)

  none_read : (o : Outcome) (at : SeqPoint) → (drive_from k (instructions s) o at []).outcome ≡ o
  unfolding drive_from
  none_read o at = refl

  one_read : (b : ℕ) (at : SeqPoint) (n : ℕ) (ns : List ℕ) (t : Moved) → t ≡ turn k (instructions s) at n → (drive_from k (instructions s) (Open b) at (n ∷ ns)).outcome ≡ (drive_from k (instructions s) t.outcome t.point ns).outcome
  unfolding drive_from
  one_read b at n ns t e = ap (λ (t : Moved). (drive_from k (instructions s) t.outcome t.point ns).outcome) (sym e)

  pub start_outcome : (o : Outcome) (at : SeqPoint) → o ≡ (starts k s).outcome → at ≡ (starts k s).point → o ≡ (drives_so k s []).outcome
  start_outcome o at e q = sym (starts_so [] o at e q ∙ none_read o at)

  pub start_stands : (o : Outcome) (at : SeqPoint) → o ≡ (starts k s).outcome → at ≡ (starts k s).point → IsOpen o → Follows k s at []
  start_stands (Open b) at e q x = record { bound = b; on = λ ns. starts_so ns (Open b) at e q }
  start_stands (Ended d) at e q x = absurd x

  -- how the run stands behind one more number
  onward : (l : List ℕ) (o : Outcome) (at : SeqPoint) → ((ns : List ℕ) → (drives_so k s (l ++ ns)).outcome ≡ (drive_from k (instructions s) o at ns).outcome) → IsOpen o → Follows k s at l
  onward l (Open b) at on x = record { bound = b; on = on }
  onward l (Ended e) at on x = absurd x

  pub step_lands : (at : SeqPoint) (g : ℕ) (t : Moved) (l : List ℕ) → t ≡ turn k (instructions s) at g → Follows k s at l → Landed (λ ns. (drives_so k s ns).outcome) (Follows k s) (l ++ g ∷ []) t.outcome t.point
  step_lands at g t l e f =
      let more : (ns : List ℕ) → (drives_so k s (l ++ g ∷ ns)).outcome ≡ (drive_from k (instructions s) t.outcome t.point ns).outcome = λ ns. f.on (g ∷ ns) ∙ one_read f.bound at g ns t e in (
        more [] ∙ none_read t.outcome t.point,
        onward (l ++ g ∷ []) t.outcome t.point (λ ns. ap (λ l. (drives_so k s l).outcome) (append_assoc l (g ∷ []) ns) ∙ more ns),
      )
