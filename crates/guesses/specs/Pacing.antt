-- The layer between the two machines is a runner too.
use Rattle.std.specs.Prelude.{◌≡◌, ℕ, zero, suc, ◌+◌, ◌%◌, ◌<◌, ◌≤◌, true, false, cond, length, ◌==◌, ◌≢◌, refl, Ok, Err}
use Rattle.std.proofs.Common.{sym, ap, subst, ◌∙◌, ⊎_elim, arith}
use Rattle.std.proofs.lemmas.Nat.{mul-le}
use Rattle.std.proofs.lemmas.List.FromFn.{length-map-range_with_len}
use Rattle.std.proofs.lemmas.Bool.{cases_lt, lt-ltb, le-ltb}
use Rattle.kinds.specs.Meaning.{Meaning}
use Rattle.states.specs.declared.state.State.{State}
use Rattle.states.specs.States.{label, beginning}
use Rattle.tables.specs.Program.{Program}
use Rattle.tables.specs.Slots.{program_slots, slot_total}
use Rattle.tables.specs.WellFormed.{WellFormed}
use Rattle.walks.specs.Outcomes.{IsOpen}
use Rattle.walks.specs.Runs.{Lawful}
use Rattle.reports.specs.Stops.{End}
use Rattle.reports.specs.declared.stop.Stop.TheVariants as end
use Rattle.reports.specs.declared.stop.Stop.TheVariants.{Failed, Cut}
use Rattle.threads.specs.Plays.{Played, bound, serve, thread}
use Rattle.threads.specs.Slots.{Ran, ran, slot_of}
use Rattle.threads.specs.Laws.{lawful_by}
use Rattle.threads.specs.Runners.{play_lawful}
use Rattle.guesses.specs.Paces.{until, arrived, pace, paced}
use Rattle.guesses.specs.Texts.{size_few}
use Rattle.guesses.specs.Slots.{behind, outcome, stepped, until_next, until_none, until_arrived}
use Rattle.guesses.specs.Rules.{none_left}

-- a slot that arrives does not fail
arrived_well : (cs l d : ℕ) (s : State) → (arrived cs l d s).slot.end ≢ (Err end.Failed)
arrived_well cs l d s =
    elim (l == cs) as (λ b. (cond b (ran (slot_of (Ok tt) d) s) (ran (slot_of (Err end.Cut) d) s)).slot.end ≢ (Err end.Failed)) [
      | true ↦ λ e. let z : ◌≡◌ {A = ℕ} 0 1 = cc in omega arith
      | false ↦ λ e. let z : ◌≡◌ {A = ℕ} 0 1 = cc in omega arith
    ]

stepped_up : (s : State) (r q : Ran) (d : ℕ) (o : End) → (r.slot.end ≡ (Err end.Failed) → q.slot.end ≡ (Err end.Failed)) → (stepped s r d o).slot.end ≡ (Err end.Failed) → (stepped s q d o).slot.end ≡ (Err end.Failed)
stepped_up s r q d (Ok tt) more f = more f
stepped_up s r q d (Err Failed) more f = f
stepped_up s r q d (Err Cut) more f = f

module _ (k : Meaning) (p : Program) (i : ℕ) where
  -- a slot that fails on its way to a label fails on its way to a later one
  until_up : (cs cs' n m d : ℕ) (s : State) → cs ≤ cs' → n ≤ m → (until k p (thread i) cs n d s).slot.end ≡ (Err end.Failed) → (until k p (thread i) cs' m d s).slot.end ≡ (Err end.Failed)
  until_up cs cs' zero m d s le len f = absurd (arrived_well cs (label s i) d s (sym (ap (λ (r : Ran). r.slot.end) (until_none k p i s cs d)) ∙ f))
  until_up cs cs' (suc n) zero d s le len f = absurd (let z : ⊥ = omega arith in z)
  until_up cs cs' (suc n) (suc m) d s le len f =
      ⊎_elim
      (λ (lt : label s i < cs).
      let end_of : Ran → End = λ r. r.slot.end in
      ap end_of (until_next k p i s cs' m d (outcome k p i s) (omega arith) refl)
      ∙ stepped_up (behind k p i s) (until k p (thread i) cs n (suc d) (behind k p i s)) (until k p (thread i) cs' m (suc d) (behind k p i s)) d (outcome k p i s)
      (until_up cs cs' n m (suc d) (behind k p i s) le (omega arith))
      (sym (ap end_of (until_next k p i s cs n d (outcome k p i s) lt refl)) ∙ f))
      (λ (ge : cs ≤ label s i). absurd (arrived_well cs (label s i) d s (sym (ap (λ (r : Ran). r.slot.end) (until_arrived k p i s cs (suc n) d ge)) ∙ f)))
      (cases_lt (label s i) cs)

module _ (k : Meaning) (p : Program) (w : WellFormed k p) where
  pace_within : (i : ℕ) (s : State) (n : ℕ) → n ≤ bound p s i → pace k p i s n ≡ until k p (thread i) (label s i + n) n 0 s
  pace_within i s n le = rw (le-ltb (bound p s i) n le)

  over : (i : ℕ) (s : State) (n : ℕ) → bound p s i < n → (pace k p i s n).slot.end ≡ (Err end.Cut)
  over i s n h = rw (lt-ltb (bound p s i) n h)

  up : (i : ℕ) (s : State) (n m : ℕ) → n ≤ m → m ≤ bound p s i → (pace k p i s n).slot.end ≡ (Err end.Failed) → (pace k p i s m).slot.end ≡ (Err end.Failed)
  up i s n m le lb f =
      let end_of : Ran → End = λ r. r.slot.end in
      ap end_of (pace_within i s m lb)
      ∙ until_up k p i (label s i + n) (label s i + m) n m 0 s (omega arith) le (sym (ap end_of (pace_within i s n (omega arith))) ∙ f)

  pub pace_lawful : (r : ℕ) → 1 ≤ r → r ≤ 8 → Lawful (λ ns. (paced k p r ns).outcome)
  pace_lawful r some few =
      let n = slot_total p r in
      let len = length-map-range_with_len (λ q. q % length p.texts) 0 n in
      let most : n ≤ 64 = mul-le r (length p.texts) 8 8 few w.threads_few in
      let same = none_left (serve k p) (pace k p) (bound p) (program_slots p n) (beginning k p) in
      lawful_by (pace k p) (bound p) (λ s i. omega (arith, size_few k p w i)) over up (program_slots p n) (beginning k p) (omega arith)
      (subst (λ (x : Played). IsOpen x.outcome) same (play_lawful k p w r some few).start)
