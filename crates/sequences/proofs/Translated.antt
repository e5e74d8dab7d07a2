-- A sequential program that holds that of a table runs as it does: the driver calls only the table's threads.
use Rattle.std.proofs.Common.{◌≡◌, ℕ, zero, suc, ◌+◌, ◌-◌, ◌*◌, ◌%◌, ◌<◌, true, false, cond, eqb, ltb, List, [], ◌∷◌, map, length, drop, sym, refl, ap, ◌∙◌, subst, inl, inr, mod-lt, eq-zero-or-pos, mul-zero, Ok, Err}
use Rattle.std.specs.List.{range_with_len, AllByRecursion}
use Rattle.std.proofs.ByRecursion.{All-drop}
use Rattle.kinds.specs.Meaning.{Meaning}
use Rattle.tables.specs.Program.{Program}
use Rattle.tables.specs.Slots.{slot_total, program_slots}
use Rattle.walks.specs.declared.outcome.Ending.TheVariants as ending
use Rattle.walks.specs.declared.outcome.Outcome.{Outcome}
use Rattle.walks.specs.declared.outcome.Outcome.TheVariants.{Open, Ended}
use Rattle.reports.specs.Stops.{End}
use Rattle.sequences.specs.declared.instruction.Instruction.{Instruction}
use Rattle.sequences.specs.declared.point.SeqPoint.{SeqPoint}
use Rattle.sequences.specs.declared.sequence.Sequence as held
use Rattle.sequences.specs.declared.state.SeqState.{SeqState}
use Rattle.sequences.specs.Acts.{Called, call}
use Rattle.sequences.specs.Code.{section, driver_from, driver}
use Rattle.sequences.specs.Drives.{Sequence, Moved, moved, Move, slot, guess, enter, save, finish, stray, move, first_move, returned, driven, proceed, guessed, asked, turn, prefixed, drive_from, started_on, drive_on, drive}
use Rattle.sequences.specs.Sequences.{Holds, sections_of, codes_of, drives_so}
use Rattle.sequences.specs.States.{word, with_word}
use Rattle.sequences.specs.Words.{active, saved, stop_at}

abbrev with_sections : List Instruction → (ℕ → List Instruction) → Sequence
with_sections guide sections = record { sections = sections; guide = guide }

-- the two have the same section where a move enters one
abbrev Agree : (S R : ℕ → List Instruction) → Move → Type 0
Agree S R (slot i to) = Unit {0}
Agree S R (guess i n) = Unit {0}
Agree S R (enter i) = S i ≡ R i
Agree S R (save i) = Unit {0}
Agree S R finish = Unit {0}
Agree S R stray = Unit {0}

abbrev Agrees : (S R : ℕ → List Instruction) → List Instruction → Type 0
Agrees S R xs = AllByRecursion (λ x. Agree S R (move x)) xs

module _ (k : Meaning) (S R : ℕ → List Instruction) where
  first_agree : (xs : List Instruction) → Agrees S R xs → Agree S R (first_move xs)
  first_agree [] all = tt
  first_agree (x ∷ xs) all = all.0

  abbrev Same : (more less : ℕ → ℕ → SeqState → Moved) → Type 0
  Same more less = (h c : ℕ) (q : SeqState) → more h c q ≡ less h c q

  returned_same : (h : ℕ) (more less : ℕ → ℕ → SeqState → Moved) (r : Called) (e : End) → Same more less → returned h more r e ≡ returned h less r e
  returned_same h more less r (Ok tt) m = m _ _ _
  returned_same h more less r (Err e) m = refl

  driven_same : (h c : ℕ) (q : SeqState) (more less : ℕ → ℕ → SeqState → Moved) (m : Move) → Agree S R m → Same more less → driven k S h c q more m ≡ driven k R h c q less m
  driven_same h c q more less (slot i to) a m =
      elim (eqb (word q (active i)) 0) as (λ b. cond b (more to c q) (more (h + 1) c q) ≡ cond b (less to c q) (less (h + 1) c q)) [ true ↦ m to c q | false ↦ m (h + 1) c q ]
  driven_same h c q more less (guess i n) a m = refl
  driven_same h c q more less (enter i) a m =
      let r = call k i (S i) q in
      returned_same h more less r r.end m ∙ ap (λ code. returned h less (call k i code q) (call k i code q).end) a
  driven_same h c q more less (save i) a m = m _ _ _
  driven_same h c q more less finish a m = refl
  driven_same h c q more less stray a m = refl

  module _ (guide : List Instruction) (all : Agrees S R guide) where
    abbrev here : Sequence
    here = with_sections guide S

    abbrev there : Sequence
    there = with_sections guide R

    proceed_same : (steps : ℕ) → Same (proceed k here steps) (proceed k there steps)
    unfolding proceed
    proceed_same zero h c q = refl
    proceed_same (suc steps) h c q =
        driven_same h c q (proceed k here steps) (proceed k there steps) (first_move (drop h guide)) (first_agree (drop h guide) (All-drop (λ x. Agree S R (move x)) h guide all)) (proceed_same steps)

    guessed_same : (h i n g : ℕ) (q : SeqState) → guessed k here h i n g q ≡ guessed k there h i n g q
    guessed_same h i n g q =
        let t = with_word q stop_at (word q (saved i) + g) in
        ap (cond (ltb (n - word q (saved i)) g) (moved 0 (Ended ending.Cut) h q)) (proceed_same (length guide) (h + 1) 0 t)

    asked_same : (p : SeqPoint) (g : ℕ) (m : Move) → asked k here p g m ≡ asked k there p g m
    asked_same p g (guess i n) = guessed_same p.at.0 i n g p.state
    asked_same p g (slot i to) = refl
    asked_same p g (enter i) = refl
    asked_same p g (save i) = refl
    asked_same p g finish = refl
    asked_same p g stray = refl

    drive_from_same : (o : Outcome) (p : SeqPoint) (ns : List ℕ) → drive_from k here o p ns ≡ drive_from k there o p ns
    unfolding drive_from
    drive_from_same o p [] = refl
    drive_from_same (Open b) p (n ∷ ns) =
        let t = turn k here p n in
        ap (prefixed t.count) (drive_from_same t.outcome t.point ns)
        ∙ ap (λ (u : Moved). prefixed u.count (drive_from k there u.outcome u.point ns)) (asked_same p n (first_move (drop p.at.0 guide)))
    drive_from_same (Ended e) p (n ∷ ns) = refl

    drive_on_same : (codes ns : List ℕ) → drive_on k here codes ns ≡ drive_on k there codes ns
    drive_on_same codes ns =
        let t = started_on k here codes in
        drive_from_same t.outcome t.point ns
        ∙ ap (λ (u : Moved). drive_from k there u.outcome u.point ns) (proceed_same (length guide) 0 0 _)

  driver_agrees : (p : Program) (is : List ℕ) (h : ℕ) → AllByRecursion (λ i. S i ≡ R i) is → Agrees S R (driver_from p is h)
  driver_agrees p [] h all = (tt, tt)
  driver_agrees p (i ∷ is) h all = (tt, (tt, (all.0, (tt, driver_agrees p is (4 + h) all.1))))

-- every slot has a thread of the program
slots_within : (t a n : ℕ) (P : ℕ → Type 0) → 0 < t → ((i : ℕ) → i < t → P i) → AllByRecursion P (map (λ q. q % t) (range_with_len a n))
slots_within t a zero P b f = tt
slots_within t a (suc n) P b f = (f (a % t) (mod-lt a b), slots_within t (a + 1) n P b f)

pub program_within : (p : Program) (rounds : ℕ) (P : ℕ → Type 0) → ((i : ℕ) → i < length p.texts → P i) → AllByRecursion P (program_slots p (slot_total p rounds))
program_within p rounds P f =
    elim (eq-zero-or-pos (length p.texts)) [
      | inl z ↦ subst (λ n. AllByRecursion P (map (λ q. q % length p.texts) (range_with_len 0 n))) (sym (ap (λ t. rounds * t) z ∙ mul-zero rounds)) tt
      | inr b ↦ slots_within (length p.texts) 0 (slot_total p rounds) P b f
    ]

pub drives_translated : {V : Type 0} (k : Meaning) (s : held.Sequence V) (p : Program) (rounds : ℕ) (ns : List ℕ) → Holds s p rounds → drives_so k s ns ≡ drive k p rounds ns
drives_translated k s p rounds ns h =
    ap (λ g. drive_on k (with_sections g (sections_of s)) (codes_of s) ns) h.guide
    ∙ ap (λ cs. drive_on k (with_sections (driver p rounds) (sections_of s)) cs ns) h.codes
    ∙ drive_on_same k (sections_of s) (section p) (driver p rounds)
    (driver_agrees k (sections_of s) (section p) p (program_slots p (slot_total p rounds)) 0 (program_within p rounds (λ i. sections_of s i ≡ section p i) h.sections)) p.cells ns
