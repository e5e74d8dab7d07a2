-- The driver runs as the slots bounded by labels do.
use Rattle.std.specs.Prelude.{◌≡◌, ℕ, zero, suc, ◌+◌, ◌-◌, ◌<◌, ◌≤◌, Bool, true, false, cond, List, [], ◌∷◌, length, drop, Some, None, Option, ◌==◌, ◌≢◌, nat_lt, Ok, Err}
use Rattle.std.proofs.Math.Path.{refl, ap}
use Rattle.std.proofs.Common.{sym, ap₂, subst, ◌∙◌, ⊎_elim, arith, length-drop}
use Rattle.std.specs.List.{AllByRecursion}
use Rattle.std.proofs.lemmas.Bool.{cases_lt, cases_eq, cases_Bool, lt-ltb, le-ltb}
use Rattle.kinds.specs.Meaning.{Meaning}
use Rattle.records.specs.declared.statement.Statement.{Statement}
use Rattle.states.specs.declared.state.State.{State}
use Rattle.states.specs.States.{label, created, go, beginning}
use Rattle.tables.specs.Program.{Program, size, due}
use Rattle.tables.specs.Slots.{program_slots, slot_total}
use Rattle.tables.specs.WellFormed.{WellFormed}
use Rattle.reports.specs.Stops.{End}
use Rattle.reports.specs.declared.stop.Stop.TheVariants as slot_end
use Rattle.threads.specs.Effects.{effect_of}
use Rattle.threads.specs.Plays.{bound, closed, served_by, thread}
use Rattle.threads.specs.Slots.{Ran, ran, slot_of}
use Rattle.walks.specs.declared.outcome.Ending.{Ending}
use Rattle.walks.specs.declared.outcome.Ending.TheVariants as ending
use Rattle.walks.specs.declared.outcome.Outcome.TheVariants.{Open, Ended}
use Rattle.sequences.specs.declared.instruction.Instruction.{Instruction}
use Rattle.sequences.specs.declared.instruction.Instruction.TheVariants as op
use Rattle.sequences.specs.declared.state.SeqState.{SeqState}
use Rattle.sequences.specs.Acts.{Called, call}
use Rattle.sequences.specs.Code as code
use Rattle.sequences.specs.Code.{section, driver, driver_from}
use Rattle.sequences.specs.Drives.{Sequence, Moved, moved, Driven, first_move, driven, asked, returned, proceed, proceeds, turn, drive_from, sequence, point}
use Rattle.sequences.specs.States.{word, with_word}
use Rattle.sequences.specs.Words.{active, saved, stop_at}
use Rattle.sequences.proofs.Translated.{program_within}
use Rattle.guesses.specs.Answers.{Answer, played_so, driven_so, drive_answer, pace_answer}
use Rattle.guesses.specs.Paces.{until, pace, paces}
use Rattle.guesses.specs.Entries.{Sized, sized_go, lab, go_go, go_stay}
use Rattle.guesses.specs.Layouts.{ahead_section}
use Rattle.guesses.specs.Onwards.{Onto, onto}
use Rattle.guesses.specs.Sections.{shown, section_runs}
use Rattle.guesses.specs.Seen.{seen, seen_active, seen_label, seen_stop, save_label, set_stop, seen_start, sized_start}
use Rattle.guesses.specs.Dids.{Did, Fails, Blocks, Steps, did, does, counted, until_did}
use Rattle.guesses.specs.Rules.{slot_skipped, slot_served, none_full}
use Rattle.guesses.specs.Slots.{until_at, until_past, until_off}
use Rattle.guesses.specs.Sweep.{call_sweep, drop_next}

module _ (k : Meaning) (p : Program) (i : ℕ) where
  -- a statement that is carried out leaves a state of its size
  abbrev Sizes : State → Did → Type 0
  Sizes s Fails = Unit {0}
  Sizes s Blocks = Unit {0}
  Sizes s (Steps s' t) = Sized s → Sized s'

  sizes_onto : (s : State) (x : Statement) (r : Did) → Onto i s x r → Sizes s r
  sizes_onto s x Fails o = tt
  sizes_onto s x Blocks o = tt
  sizes_onto s x (Steps s' t) o = o.1

  sizes_due : (s : State) (x : Option Statement) → Sizes s (did i s (effect_of k p (thread i) s x))
  sizes_due s None = tt
  sizes_due s (Some x) = sizes_onto s x _ (onto k p i s x)

  module _ (cs : ℕ) where
    -- a slot that is over stands at cs, and its state has its size
    abbrev Kept : Ran → Type 0
    Kept r = (r.slot.end ≡ (Ok tt) → label r.state i ≡ cs) × Sized r.state

    kept_cut : (d : ℕ) (s : State) → Sized s → Kept (ran (slot_of (Err slot_end.Cut) d) s)
    kept_cut d s z = (λ e. absurd (let z : ◌≡◌ {A = ℕ} 0 1 = cc in omega arith), z)

    kept_counted : (d : ℕ) (s : State) (more : State → Ran) → Sized s → ((s' : State) → Sized s' → Kept (more s')) → (r : Did) → Sizes s r → Kept (counted i d s more r)
    kept_counted d s more z h Fails a = (λ e. absurd (let z : ◌≡◌ {A = ℕ} 0 1 = cc in omega arith), z)
    kept_counted d s more z h Blocks a = kept_cut d s z
    kept_counted d s more z h (Steps s' t) a = h (go s' i (lab t)) (sized_go s' i t (a z))

    kept_at : (f d : ℕ) (s : State) → Sized s → ((label s i ≢ cs) → until k p (thread i) cs f d s ≡ ran (slot_of (Err slot_end.Cut) d) s) → Kept (until k p (thread i) cs f d s)
    kept_at f d s z off =
        ⊎_elim
        (λ (e : label s i ≡ cs). subst Kept (sym (until_at k p i s cs f d e)) (λ x. e, z))
        (λ (ne : label s i ≡ cs → ⊥). subst Kept (sym (off ne)) (kept_cut d s z))
        (cases_eq (label s i) cs)

    pub until_keeps : (f d : ℕ) (s : State) → Sized s → Kept (until k p (thread i) cs f d s)
    until_keeps zero d s z = kept_at 0 d s z (until_off k p i s cs d)
    until_keeps (suc f) d s z =
        ⊎_elim
        (λ (lt : label s i < cs). subst Kept (sym (until_did k p i s cs f d (does k p i s) lt refl)) (kept_counted d s (until k p (thread i) cs f (d + 1)) z (until_keeps f (d + 1)) (does k p i s) (sizes_due s (due p i (label s i)))))
        (λ (ge : cs ≤ label s i). kept_at (suc f) d s z (λ ne. until_past k p i s cs (suc f) d (omega arith)))
        (cases_lt (label s i) cs)

drop_more : {A : Type 0} (xs : List A) (h : ℕ) (y : A) (ys : List A) → drop h xs ≡ y ∷ ys → drop (h + 1) xs ≡ ys
drop_more xs h y ys e = let z : h + 1 ≡ suc h = omega arith in ap (λ n. drop n xs) z ∙ drop_next xs h y ys e

module _ (k : Meaning) (p : Program) (w : WellFormed k p) (rounds : ℕ) where
  abbrev sq : Sequence
  sq = sequence p rounds

  abbrev guide : List Instruction
  guide = driver p rounds

  -- the driver stands before these slots at the address h
  abbrev Before : List ℕ → ℕ → Type 0
  Before rest h = drop h guide ≡ driver_from p rest h

  module _ (i : ℕ) (rest : List ℕ) (h : ℕ) (at : Before (i ∷ rest) h) where
    at_guess : drop (h + 1) guide ≡ op.Guess (code.thread i) (size p i) ∷ op.Call (code.thread i) ∷ op.Save (code.thread i) ∷ driver_from p rest (4 + h)
    at_guess = drop_more guide h _ _ at

    at_call : drop (h + 1 + 1) guide ≡ op.Call (code.thread i) ∷ op.Save (code.thread i) ∷ driver_from p rest (4 + h)
    at_call = drop_more guide (h + 1) _ _ at_guess

    at_save : drop (h + 1 + 1 + 1) guide ≡ op.Save (code.thread i) ∷ driver_from p rest (4 + h)
    at_save = drop_more guide (h + 1 + 1) _ _ at_call

    next_at : h + 1 + 1 + 1 + 1 ≡ 4 + h
    next_at = omega arith

    at_next : Before rest (4 + h)
    at_next = ap (λ n. drop n guide) (sym next_at) ∙ drop_more guide (h + 1 + 1 + 1) _ _ at_save

    -- the instructions left are enough for the steps
    long : 4 + length (driver_from p rest (4 + h)) ≤ length guide
    long = omega (arith, ap length at, length-drop h guide)

  -- to the next GUESS or to the end, c being the latest CALL's count
  abbrev arrives : List ℕ → (h c : ℕ) → State → ℕ → Moved
  arrives [] h c s cs = moved c (Ended ending.Full) h (seen s cs)
  arrives (i ∷ rest) h c s cs = cond (created s i) (moved c (Open (bound p s i)) (h + 1) (seen s cs)) (arrives rest (4 + h) c s cs)

  count_kept : (rest : List ℕ) (h c : ℕ) (s : State) (cs : ℕ) → (arrives rest h c s cs).count ≡ c
  count_kept [] h c s cs = refl
  count_kept (j ∷ rest) h c s cs =
      elim (created s j) as (λ b. (cond b (moved c (Open (bound p s j)) (h + 1) (seen s cs)) (arrives rest (4 + h) c s cs)).count ≡ c) [ true ↦ refl | false ↦ count_kept rest (4 + h) c s cs ]

  step_at : (steps h c : ℕ) (q : SeqState) (x : Instruction) (xs : List Instruction) → drop h guide ≡ x ∷ xs → proceed k sq (suc steps) h c q ≡ driven k (section p) h c q (proceed k sq steps) (first_move (x ∷ xs))
  unfolding proceed
  step_at steps h c q x xs e = ap (λ ys. driven k (section p) h c q (proceed k sq steps) (first_move ys)) e

  -- the two ways at a SLOT
  slot_way : (more₁ more₂ : Moved) (n : ℕ) (b : Bool) → n ≡ cond b 1 0 → cond (n == 0) more₁ more₂ ≡ cond b more₂ more₁
  slot_way more₁ more₂ n true e = ap (λ n. cond (n == 0) more₁ more₂) e
  slot_way more₁ more₂ n false e = ap (λ n. cond (n == 0) more₁ more₂) e

  proceed_arrives : (rest : List ℕ) (steps h c : ℕ) (s : State) (cs : ℕ) → Before rest h → AllByRecursion (λ i. i < 8) rest → Sized s → length (driver_from p rest h) ≤ steps
      → proceed k sq steps h c (seen s cs) ≡ arrives rest h c s cs
  proceed_arrives [] zero h c s cs at known z enough = absurd (let z : ⊥ = omega arith in z)
  proceed_arrives [] (suc steps) h c s cs at known z enough = step_at steps h c (seen s cs) op.End [] at
  proceed_arrives (i ∷ rest) zero h c s cs at known z enough = absurd (let z : ⊥ = omega arith in z)
  proceed_arrives (i ∷ rest) (suc zero) h c s cs at known z enough = absurd (let z : ⊥ = omega arith in z)
  proceed_arrives (i ∷ rest) (suc (suc steps)) h c s cs at known z enough =
      step_at (suc steps) h c (seen s cs) _ _ at
      ∙ slot_way (proceed k sq (suc steps) (4 + h) c (seen s cs)) (proceed k sq (suc steps) (h + 1) c (seen s cs)) (word (seen s cs) (active i)) (created s i) (seen_active s cs z i known.0)
      ∙ ap₂ (cond (created s i))
      (step_at steps (h + 1) c (seen s cs) _ _ (at_guess i rest h at) ∙ ap (λ l. moved c (Open (size p i - l)) (h + 1) (seen s cs)) (seen_label s cs z i known.0))
      (proceed_arrives rest (suc steps) (4 + h) c s cs (at_next i rest h at) known.1 z (omega arith))

  -- what is left of a run that has come so far
  abbrev onward : Moved → List ℕ → Driven
  onward t ns = drive_from k sq t.outcome t.point ns

  ended_stays : (e : Ending) (c h : ℕ) (q : SeqState) (ns : List ℕ) → onward (moved c (Ended e) h q) ns ≡ record { outcome = Ended e; counts = []; state = q }
  unfolding drive_from
  ended_stays e c h q [] = refl
  ended_stays e c h q (n ∷ ns) = refl

  open_stays : (b c h : ℕ) (q : SeqState) → onward (moved c (Open b) h q) [] ≡ record { outcome = Open b; counts = []; state = q }
  unfolding drive_from
  open_stays b c h q = refl

  open_reads : (b c h : ℕ) (q : SeqState) (g : ℕ) (ns : List ℕ) (t : Moved) → turn k sq (point h q) g ≡ t → onward (moved c (Open b) h q) (g ∷ ns) ≡ record { outcome = (onward t ns).outcome; counts = t.count ∷ (onward t ns).counts; state = (onward t ns).state }
  unfolding drive_from
  open_reads b c h q g ns t e = ap (λ (t : Moved). record { outcome = (onward t ns).outcome; counts = t.count ∷ (onward t ns).counts; state = (onward t ns).state }) e

  -- one slot count in front of an answer
  abbrev behind : ℕ → Answer → Answer
  behind c a = record { outcome = a.outcome; counts = c ∷ a.counts; cells = a.cells }

  module _ (i : ℕ) (rest : List ℕ) (h : ℕ) (at : Before (i ∷ rest) h) (has : i < 8) (known : AllByRecursion (λ i. i < 8) rest) (s : State) (z : Sized s) (cs : ℕ) where
    abbrev q : SeqState
    q = seen s cs

    reads_guess : (g : ℕ) → turn k sq (point (h + 1) q) g ≡ cond (nat_lt (bound p s i) g) (moved 0 (Ended ending.Cut) (h + 1) q) (proceeds k sq (h + 1 + 1) (seen s (label s i + g)))
    reads_guess g =
        ap (λ ys. asked k sq (point (h + 1) q) g (first_move ys)) (at_guess i rest h at)
        ∙ ap₂ (λ l x. cond (nat_lt (size p i - l) g) (moved 0 (Ended ending.Cut) (h + 1) q) (proceeds k sq (h + 1 + 1) x)) (seen_label s cs z i has)
        (ap (λ l. with_word q stop_at (l + g)) (seen_label s cs z i has) ∙ set_stop s cs z (label s i + g))

    module _ (g : ℕ) (le : g ≤ bound p s i) where
      abbrev to : ℕ
      to = label s i + g

      abbrev r : Ran
      r = until k p (thread i) to g 0 s

      kept : Kept k p i to r
      kept = until_keeps k p i to g 0 s z

      calls : call k i (section p i) (seen s to) ≡ shown i (label s i) to r
      calls = call_sweep k i (section p i) (ahead_section p i k w) (seen s to) ∙ section_runs k p w i has g s le z

      -- SAVE behind a section that has returned
      saves : r.slot.end ≡ (Ok tt) → with_word (seen (go r.state i (lab (label s i))) to) (saved i) (word (seen (go r.state i (lab (label s i))) to) stop_at) ≡ seen r.state to
      saves done =
          let z' = sized_go r.state i (label s i) kept.1 in
          ap (with_word (seen (go r.state i (lab (label s i))) to) (saved i)) (seen_stop (go r.state i (lab (label s i))) to z')
          ∙ save_label (go r.state i (lab (label s i))) to z' i to has
          ∙ ap (λ x. seen x to) (go_go r.state i (label s i) to ∙ ap (λ t. go r.state i (lab t)) (sym (kept.0 done)) ∙ go_stay r.state i)

      -- the slot's end, its count and the state: what the driver comes to
      abbrev closes : End → Moved
      closes (Ok tt) = arrives rest (4 + h) r.slot.count.0 r.state to
      closes (Err slot_end.Failed) = moved r.slot.count.0 (Ended ending.Failed) (h + 1 + 1) (seen (go r.state i (lab (label s i))) to)
      closes (Err slot_end.Cut) = moved r.slot.count.0 (Ended ending.Cut) (h + 1 + 1) (seen (go r.state i (lab (label s i))) to)

      returns : (steps : ℕ) → length (driver_from p rest (4 + h)) ≤ steps → (e : End) → r.slot.end ≡ e → returned (h + 1 + 1) (proceed k sq (suc steps)) (shown i (label s i) to r) e ≡ closes e
      returns steps enough (Ok tt) done =
          step_at steps (h + 1 + 1 + 1) r.slot.count.0 _ _ _ (at_save i rest h at)
          ∙ ap₂ (λ n x. proceed k sq steps n r.slot.count.0 x) (next_at i rest h at) (saves done)
          ∙ proceed_arrives rest steps (4 + h) r.slot.count.0 r.state to (at_next i rest h at) known kept.1 enough
      returns steps enough (Err slot_end.Failed) done = refl
      returns steps enough (Err slot_end.Cut) done = refl

      call_closes : proceeds k sq (h + 1 + 1) (seen s to) ≡ closes r.slot.end
      call_closes =
          let steps : ℕ = length guide - 2 in
          let all : length guide ≡ suc (suc steps) = omega (arith, long i rest h at) in
          ap (λ n. proceed k sq n (h + 1 + 1) 0 (seen s to)) all
          ∙ step_at (suc steps) (h + 1 + 1) 0 (seen s to) _ _ (at_call i rest h at)
          ∙ ap (λ (c : Called). returned (h + 1 + 1) (proceed k sq (suc steps)) c c.end) calls
          ∙ returns steps (omega (arith, long i rest h at)) r.slot.end refl

    module _ (more : (c : ℕ) (s' : State) (to : ℕ) → Sized s' → (ns : List ℕ) → driven_so p (onward (arrives rest (4 + h) c s' to) ns) ≡ played_so p (paces k p rest s' ns)) (c : ℕ) (on : created s i ≡ true) where
      -- behind the slot
      closes_so : (g : ℕ) (le : g ≤ bound p s i) (ns : List ℕ) (e : End) → (r g le).slot.end ≡ e
          → behind (closes g le e).count (driven_so p (onward (closes g le e) ns)) ≡ played_so p (closed (r g le) (λ s'. paces k p rest s' ns) e)
      closes_so g le ns (Ok tt) done =
          ap₂ behind (count_kept rest (4 + h) (r g le).slot.count.0 (r g le).state (to g le)) (more (r g le).slot.count.0 (r g le).state (to g le) (kept g le).1 ns)
      closes_so g le ns (Err slot_end.Failed) done =
          ap (λ d. behind (r g le).slot.count.0 (driven_so p d)) (ended_stays ending.Failed (r g le).slot.count.0 (h + 1 + 1) (seen (go (r g le).state i (lab (label s i))) (to g le)) ns)
      closes_so g le ns (Err slot_end.Cut) done =
          ap (λ d. behind (r g le).slot.count.0 (driven_so p d)) (ended_stays ending.Cut (r g le).slot.count.0 (h + 1 + 1) (seen (go (r g le).state i (lab (label s i))) (to g le)) ns)

      slot_runs : (ns : List ℕ) → driven_so p (onward (moved c (Open (bound p s i)) (h + 1) q) ns) ≡ played_so p (served_by (pace k p) (bound p) i s (paces k p rest) ns)
      slot_runs [] = ap (driven_so p) (open_stays (bound p s i) c (h + 1) q)
      slot_runs (g ∷ ns) =
          ⊎_elim
          (λ (lt : bound p s i < g).
          let cut = lt-ltb (bound p s i) g lt in
          ap (driven_so p) (open_reads (bound p s i) c (h + 1) q g ns (moved 0 (Ended ending.Cut) (h + 1) q) (reads_guess g ∙ ap (λ b. cond b (moved 0 (Ended ending.Cut) (h + 1) q) (proceeds k sq (h + 1 + 1) (seen s (label s i + g)))) cut))
          ∙ ap (λ d. behind 0 (driven_so p d)) (ended_stays ending.Cut 0 (h + 1) q ns)
          ∙ sym (ap (λ b. let r = cond b (ran (slot_of (Err slot_end.Cut) 0) s) (until k p (thread i) (label s i + g) g 0 s) in played_so p (closed r (λ s'. paces k p rest s' ns) r.slot.end)) cut))
          (λ (le : g ≤ bound p s i).
          let in_bound = le-ltb (bound p s i) g le in
          ap (driven_so p) (open_reads (bound p s i) c (h + 1) q g ns (closes g le (r g le).slot.end)
          (reads_guess g ∙ ap (λ b. cond b (moved 0 (Ended ending.Cut) (h + 1) q) (proceeds k sq (h + 1 + 1) (seen s (label s i + g)))) in_bound ∙ call_closes g le))
          ∙ closes_so g le ns (r g le).slot.end refl
          ∙ sym (ap (λ b. let r = cond b (ran (slot_of (Err slot_end.Cut) 0) s) (until k p (thread i) (label s i + g) g 0 s) in played_so p (closed r (λ s'. paces k p rest s' ns) r.slot.end)) in_bound))
          (cases_lt (bound p s i) g)

  driver_runs : (rest : List ℕ) (h c : ℕ) (s : State) (cs : ℕ) → Before rest h → AllByRecursion (λ i. i < 8) rest → Sized s → (ns : List ℕ) → driven_so p (onward (arrives rest h c s cs) ns) ≡ played_so p (paces k p rest s ns)
  driver_runs [] h c s cs at known z ns = ap (driven_so p) (ended_stays ending.Full c h (seen s cs) ns) ∙ sym (ap (played_so p) (none_full (pace k p) (bound p) s ns))
  driver_runs (i ∷ rest) h c s cs at known z ns =
      ⊎_elim
      (λ (e : created s i ≡ true).
      ap (λ b. driven_so p (onward (cond b (moved c (Open (bound p s i)) (h + 1) (seen s cs)) (arrives rest (4 + h) c s cs)) ns)) e
      ∙ slot_runs i rest h at known.0 known.1 s z cs (λ c' s' to z' ns'. driver_runs rest (4 + h) c' s' to (at_next i rest h at) known.1 z' ns') c e ns
      ∙ sym (ap (played_so p) (slot_served (pace k p) (bound p) i rest s ns e)))
      (λ (e : created s i ≡ false).
      ap (λ b. driven_so p (onward (cond b (moved c (Open (bound p s i)) (h + 1) (seen s cs)) (arrives rest (4 + h) c s cs)) ns)) e
      ∙ driver_runs rest (4 + h) c s cs (at_next i rest h at) known.1 z ns
      ∙ sym (ap (played_so p) (slot_skipped (pace k p) (bound p) i rest s ns e)))
      (cases_Bool (created s i))

  -- the sequential program answers as the slots bounded by labels do
  pub drives_paced : (ns : List ℕ) → drive_answer k p rounds ns ≡ pace_answer k p rounds ns
  drives_paced ns =
      let slots : List ℕ = program_slots p (slot_total p rounds) in
      let known : AllByRecursion (λ i. i < 8) slots = program_within p rounds (λ i. i < 8) (λ i h. omega (arith, w.threads_few)) in
      ap (λ (t : Moved). driven_so p (onward t ns)) (ap (proceeds k sq 0) (seen_start k p) ∙ proceed_arrives slots (length guide) 0 0 (beginning k p) 0 refl known (sized_start k p) (omega arith))
      ∙ driver_runs slots 0 0 (beginning k p) 0 refl known (sized_start k p) ns
