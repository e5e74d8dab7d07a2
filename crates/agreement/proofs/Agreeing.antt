-- The machines agree.
use Rattle.std.proofs.Common.{◌≡◌, ℕ, ◌<◌, ◌≤◌, true, List, [], sym, refl, ap, ◌∙◌, subst, ⊎_elim, arith}
use Rattle.kinds.specs.Meaning.{Meaning}
use Rattle.reports.specs.Reports.{report}
use Rattle.states.specs.States.{beginning}
use Rattle.tables.specs.Program.{Program}
use Rattle.tables.specs.Slots.{program_slots, slot_total}
use Rattle.tables.specs.WellFormed.{WellFormed}
use Rattle.walks.specs.declared.outcome.Ending.{Ending}
use Rattle.walks.specs.declared.outcome.Ending.TheVariants.{Failed, Full}
use Rattle.walks.specs.declared.outcome.Outcome.{Outcome}
use Rattle.walks.specs.declared.outcome.Outcome.TheVariants.{Ended}
use Rattle.walks.specs.Leaves.{Before, Complete, leaves}
use Rattle.walks.proofs.Rows.{complete}
use Rattle.threads.specs.Plays.{serve, bound}
use Rattle.threads.specs.Runners.{play_lawful}
use Rattle.sequences.proofs.Translated.{program_within}
use Rattle.guesses.specs.Answers.{Answer, played_so, play_answer, drive_answer}
use Rattle.guesses.specs.Paces.{pace}
use Rattle.agreement.specs.Agreement.{LeafOf, NotAfter, Told, scheduled, guessed, schedule, OneToOne, EquallyMany, Kept, Agrees, MachinesAgree}
use Rattle.agreement.proofs.Correspond.{Meet, Fit, leaves_fit}
use Rattle.agreement.proofs.Matches.{KeptLeaf, made, every, Precedes, compare}
use Rattle.agreement.proofs.Orders.{one_way, never, equally_many}
use Rattle.guesses.specs.Drivers.{drives_paced}
use Rattle.guesses.specs.Runners.{drive_lawful}
use Rattle.agreement.proofs.Pairs.{uncut}
use Rattle.guesses.specs.Rules.{none_left}

-- what an answer tells
abbrev told_of : Answer → Told
told_of a = record { report = report a.outcome a.counts; counts = a.counts; cells = a.cells }

module _ (k : Meaning) (p : Program) (rounds : ℕ) (w : WellFormed k p) (some : 1 ≤ rounds) (few : rounds ≤ 8) where
  abbrev A₁ : List ℕ → Answer
  A₁ = play_answer k p rounds

  abbrev A₂ : List ℕ → Answer
  A₂ = drive_answer k p rounds

  abbrev f : List ℕ → List ℕ
  f = schedule k p rounds

  meet : Meet k p w A₁ A₂ [] []
  meet = record {
    slots = program_slots p (slot_total p rounds);
    state = beginning k p;
    known = program_within p rounds (λ i. i < 8) (λ i h. omega (arith, w.threads_few));
    stand = record { on₁ = λ m. refl; on₂ = drives_paced k p w rounds };
  }

  each : Fit k p w A₁ A₂ (leaves (scheduled k p rounds)) (leaves (guessed k p rounds))
  each =
      leaves_fit k p w A₁ A₂ meet
      (ap (λ (a : Answer). a.outcome) (ap (played_so p) (none_left (serve k p) (pace k p) (bound p) (program_slots p (slot_total p rounds)) (beginning k p)) ∙ sym (drives_paced k p w rounds [])))

  all₁ : Complete (scheduled k p rounds) (leaves (scheduled k p rounds))
  all₁ = complete (scheduled k p rounds) (play_lawful k p w rounds some few)

  all₂ : Complete (guessed k p rounds) (leaves (guessed k p rounds))
  all₂ = complete (guessed k p rounds) (drive_lawful k p w rounds some few)

  -- of two leaves that are not cut, one is first, and then its schedule is
  before : (g h : List ℕ) → KeptLeaf (guessed k p rounds) g → KeptLeaf (guessed k p rounds) h → Before g h → Before (f g) (f h)
  before g h a b o =
      ⊎_elim (λ (e : g ≡ h). absurd (never h (subst (λ x. Before x h) e o)))
      (⊎_elim
      (λ (q : Precedes A₁ A₂ all₁ all₂ each g h). q.1)
      (λ (q : Precedes A₁ A₂ all₁ all₂ each h g). absurd (one_way g h o q.0)))
      (compare A₁ A₂ all₁ all₂ each g h a b)

  before_back : (g h : List ℕ) → KeptLeaf (guessed k p rounds) g → KeptLeaf (guessed k p rounds) h → Before (f g) (f h) → Before g h
  before_back g h a b o =
      ⊎_elim (λ (e : g ≡ h). absurd (never (f h) (subst (λ x. Before (f x) (f h)) e o)))
      (⊎_elim
      (λ (q : Precedes A₁ A₂ all₁ all₂ each g h). q.0)
      (λ (q : Precedes A₁ A₂ all₁ all₂ each h g). absurd (one_way (f g) (f h) o q.1)))
      (compare A₁ A₂ all₁ all₂ each g h a b)

  -- an ending that is not a cut
  module _ (e : Ending) (ends : uncut (Ended e) ≡ true) where
    leaf_kept : (out : List ℕ → Outcome) (l : List ℕ) → LeafOf e out l → KeptLeaf out l
    leaf_kept out l leaf = (leaf.0, ap uncut leaf.1 ∙ ends)

    abbrev Of : List ℕ → Type 0
    Of = LeafOf e (guessed k p rounds)

    keep : (g : List ℕ) → Of g → KeptLeaf (guessed k p rounds) g
    keep g leaf = leaf_kept (guessed k p rounds) g leaf

    one_to_one : OneToOne k p rounds e
    one_to_one = record {
      made = λ g leaf.
          let m = made A₁ A₂ all₁ all₂ each g (keep g leaf) in
          (m.0.0, ap (λ (a : Answer). a.outcome) m.1 ∙ leaf.1);
      every = λ s leaf.
          let g = every A₁ A₂ all₁ all₂ each s (leaf_kept (scheduled k p rounds) s leaf) in
          let m = made A₁ A₂ all₁ all₂ each g.0 g.1 in
          (g.0, (g.1.0, sym (ap (λ (a : Answer). a.outcome) m.1) ∙ ap (scheduled k p rounds) g.2 ∙ leaf.1), g.2);
      one = λ g h a b same.
          ⊎_elim (λ (q : g ≡ h). q)
          (⊎_elim
          (λ (q : Precedes A₁ A₂ all₁ all₂ each g h). absurd (never (f h) (subst (λ x. Before x (f h)) same q.1)))
          (λ (q : Precedes A₁ A₂ all₁ all₂ each h g). absurd (never (f h) (subst (λ x. Before (f h) x) same q.1))))
          (compare A₁ A₂ all₁ all₂ each g h (keep g a) (keep h b));
      told = λ g leaf. ap told_of (sym (made A₁ A₂ all₁ all₂ each g (keep g leaf)).1);
    }

    many : EquallyMany k p rounds e
    many = record {
      all = equally_many Of (LeafOf e (scheduled k p rounds)) f one_to_one.made one_to_one.every (λ g h a b. before g h (keep g a) (keep h b));
      up_to = λ g leaf.
          equally_many (λ x. Of x × NotAfter x g) (λ x. LeafOf e (scheduled k p rounds) x × NotAfter x (f g)) f
          (λ x h. (one_to_one.made x h.0, λ o. h.1 (before_back g x (keep g leaf) (keep x h.0) o)))
          (λ y h.
          let x = one_to_one.every y h.0 in
          (x.0, (x.1, λ o. h.1 (subst (Before (f g)) x.2 (before g x.0 (keep g leaf) (keep x.0 x.1) o))), x.2))
          (λ x y a b. before x y (keep x a.0) (keep y b.0));
    }

  agrees : Agrees k p rounds
  agrees =
      let keep_either : (g : List ℕ) → Kept k p rounds g → KeptLeaf (guessed k p rounds) g =
      λ g h. ⊎_elim (keep Failed refl g) (keep Full refl g) h in
      record {
        failing = one_to_one Failed refl;
        full = one_to_one Full refl;
        order = λ g h a b. before g h (keep_either g a) (keep_either h b);
        failing_many = many Failed refl;
        full_many = many Full refl;
      }

pub machines_agree : MachinesAgree
machines_agree k p rounds w some few = agrees k p rounds w some few
