-- The thread machine is a runner: its laws, its first point, and one step.
use Rattle.std.specs.Prelude.{◌≡◌, ℕ, zero, suc, ◌+◌, ◌*◌, ◌%◌, ◌<◌, ◌≤◌, cond, List, [], ◌∷◌, ◌++◌, drop, Some, None, Option, nat_lt, slice_index_or, refl, Err}
use Rattle.std.proofs.Common.{sym, ap, subst, ◌∙◌, append_assoc, arith}
use Rattle.std.proofs.lemmas.Nat.{mul-le}
use Rattle.std.proofs.lemmas.List.FromFn.{length-map-range_with_len}
use Rattle.std.proofs.lemmas.Bool.{cond_both, ltb-true, ltb-false, lt-ltb, le-ltb}
use Rattle.kinds.specs.declared.kind.Kind.{Ghosts}
use Rattle.kinds.specs.Meaning.{Meaning}
use Rattle.records.specs.declared.statement.Statement.{Statement}
use Rattle.records.specs.declared.statement.Thread.{Thread}
use Rattle.states.specs.declared.state.State.{State}
use Rattle.states.specs.States.{beginning}
use Rattle.tables.specs.declared.text.ThreadText.{ThreadText}
use Rattle.tables.specs.Program.{Program, no_text}
use Rattle.tables.specs.WellFormed.{Threads, WellFormed}
use Rattle.walks.specs.declared.outcome.Ending.TheVariants.{Full}
use Rattle.walks.specs.declared.outcome.Outcome.{Outcome}
use Rattle.walks.specs.declared.outcome.Outcome.TheVariants.{Open, Ended}
use Rattle.walks.specs.Outcomes.{IsOpen}
use Rattle.walks.specs.Runs.{Lawful, Landed}
use Rattle.reports.specs.Players.{Turned}
use Rattle.threads.specs.declared.machine.Machine.{Machine}
use Rattle.threads.specs.declared.point.Point.{Point}
use Rattle.threads.specs.declared.slot.Slot.{Slot}
use Rattle.reports.specs.declared.stop.Stop.TheVariants as end
use Rattle.threads.specs.Effects.{next}
use Rattle.threads.specs.Machines.{program, total, plays}
use Rattle.tables.specs.Slots.{slots, program_slots, slot_total}
use Rattle.threads.specs.Plays.{Played, serve, bound, rounds, play, thread}
use Rattle.threads.specs.Points.{Follows}
use Rattle.threads.specs.Slots.{Ran, ran, run, stops, unless_stopped, slot_of}
use Rattle.threads.specs.Steps.{progress, after}
use Rattle.threads.specs.Turns.{width, first, standing, turn, Stands, rest}
use Rattle.threads.specs.Laws.{lawful_by, out_ask}
use Rattle.threads.specs.Playing.{first_stands, first_rest}
use Rattle.threads.specs.Running.{Waits, turn_waits}
use Rattle.threads.specs.Turning.{slots_more, rest_there, rest_full, rest_turn, followed}

-- a failing slot fails with every greater number
run_up : (k : Meaning) (p : Program) (i : Thread) (n m d : ℕ) (s : State) → n ≤ m → (run k p i n d s).slot.end ≡ (Err end.Failed) → (run k p i m d s).slot.end ≡ (Err end.Failed)
unfolding run
run_up k p i zero m d s le f = absurd (let z : ◌≡◌ {A = ℕ} 0 1 = cc in omega arith)
run_up k p i (suc n) zero d s le f = absurd (let z : ⊥ = omega arith in z)
run_up k p i (suc n) (suc m) d s le f =
    let s' = after i (next k p i s) s in
    same s' (run k p i n (d + 1) s') (run k p i m (d + 1) s') (stops (progress (next k p i s)) d) (run_up k p i n m (d + 1) s' (omega arith)) f
  where
    same : (s : State) (r q : Ran) (x : Option Slot) → (r.slot.end ≡ (Err end.Failed) → q.slot.end ≡ (Err end.Failed)) → (unless_stopped s r x).slot.end ≡ (Err end.Failed) → (unless_stopped s q x).slot.end ≡ (Err end.Failed)
    same s r q None more f = more f
    same s r q (Some x) more f = f

sizes : (k : Meaning) (cs ms n at : ℕ) (ts : List ThreadText) (ss : List Statement) (i : ℕ) → Threads k cs ms n at ts ss → (slice_index_or ts i no_text).size ≤ 48
sizes k cs ms n at [] ss i f = omega arith
sizes k cs ms n at (t ∷ ts) ss zero f = f.2
sizes k cs ms n at (t ∷ ts) ss (suc i) f = sizes k cs ms n (at + t.size) ts (drop t.size ss) i f.6

module _ (k : Meaning) (p : Program) (w : WellFormed k p) where
  small : (s : State) (i : ℕ) → bound p s i ≤ 255
  small s i = omega (arith, sizes k _ _ _ 0 p.texts p.statements i w.threads)

  over : (i : ℕ) (s : State) (n : ℕ) → bound p s i < n → (serve k p i s n).slot.end ≡ (Err end.Cut)
  over i s n h = rw (lt-ltb (bound p s i) n h) refl

  up : (i : ℕ) (s : State) (n m : ℕ) → n ≤ m → m ≤ bound p s i → (serve k p i s n).slot.end ≡ (Err end.Failed) → (serve k p i s m).slot.end ≡ (Err end.Failed)
  up i s n m le lb f =
      let en = le-ltb (bound p s i) n (omega arith) in
      let em = le-ltb (bound p s i) m lb in
      let a = ap (λ b. (cond b (ran (slot_of (Err end.Cut) 0) s) (run k p (thread i) n 0 s)).slot.end) en in
      ap (λ b. (cond b (ran (slot_of (Err end.Cut) 0) s) (run k p (thread i) m 0 s)).slot.end) em ∙ run_up k p (thread i) n m 0 s le (sym a ∙ f)

  opens : (n : ℕ) → 0 < n → IsOpen (rounds k p (program_slots p n) (beginning k p) []).outcome
  opens n h =
      let t = width p in
      let z : 0 % t ≡ 0 = omega (arith, w.threads_some) in
      let e = slots_more t n 0 h ∙ ap (λ i. i ∷ drop (0 + 1) (slots t n)) z in
      subst (λ l. IsOpen (rounds k p l (beginning k p) []).outcome) (sym e) (subst IsOpen (sym (out_ask (serve k p) (bound p) 0 (drop (0 + 1) (slots t n)) (beginning k p) refl)) tt)

  pub play_lawful : (r : ℕ) → 1 ≤ r → r ≤ 8 → Lawful (λ ns. (play k p r ns).outcome)
  play_lawful r some few =
      let n = slot_total p r in
      let len = length-map-range_with_len (λ q. q % width p) 0 n in
      let most : n ≤ 64 = mul-le r (width p) 8 8 few w.threads_few in
      lawful_by (serve k p) (bound p) small over up (program_slots p n) (beginning k p) (omega arith) (opens n (least r (width p) some w.threads_some))
    where
      least : (r t : ℕ) → 1 ≤ r → 1 ≤ t → 0 < r * t
      least r t h l = mul-le 1 1 r t h l

module _ {V : Type 0} {G : Ghosts V} (k : Meaning) (m : Machine V G) where
  abbrev p : Program
  p = program m

  abbrev n : ℕ
  n = total m

  ends : (at : Point) → Stands p n at → (rest k p n at []).outcome ≡ standing p n at
  ends at w =
      cond_both (nat_lt at.slot n) (Open (bound p at.state (at.slot % width p))) (Ended Full) (λ o. (rest k p n at []).outcome ≡ o)
      (λ e. let h = ltb-true at.slot n e in ap (λ (r : Played). r.outcome) (rest_there k p n at [] h (w.exists h)))
      (λ e. ap (λ (r : Played). r.outcome) (rest_full k p n at [] (ltb-false at.slot n e)))

  pub start_outcome : (at : Point) (o : Outcome) → at ≡ first k p n → o ≡ standing p n at → o ≡ (plays k m []).outcome
  start_outcome at o e q = q ∙ sym (ends at (first_stands k p m.rounds at e)) ∙ ap (λ (r : Played). r.outcome) (first_rest k p m.rounds at e [])

  open_within : (at : Point) → IsOpen (standing p n at) → at.slot < n
  open_within at =
      cond_both (nat_lt at.slot n) (Open (bound p at.state (at.slot % width p))) (Ended Full) (λ o. IsOpen o → at.slot < n) (λ e _. ltb-true at.slot n e) (λ _ x. absurd x)

  pub start_stands : (at : Point) (o : Outcome) → at ≡ first k p n → o ≡ standing p n at → IsOpen o → Follows k m at []
  start_stands at o e q x =
      let h = open_within at (subst IsOpen q x) in
      record { within = h; exists = (first_stands k p m.rounds at e).exists h; on = λ ns. sym (ap (λ (r : Played). r.outcome) (first_rest k p m.rounds at e ns)) }

  stands_of : (at : Point) (l : List ℕ) → Follows k m at l → Stands p n at
  stands_of at l f = record { within = omega (arith, f.within); exists = λ _. f.exists }

  -- one number more
  lands : (t : Turned Point) (l : List ℕ) (g : ℕ) (o : Outcome) → Waits k p n t.point o → ((ns : List ℕ) → (plays k m (l ++ g ∷ ns)).outcome ≡ (followed k p n t (λ at. rest k p n at ns) o).outcome) → Landed (λ ns. (plays k m ns).outcome) (Follows k m) (l ++ g ∷ []) o t.point
  lands t l g (Open b) w on = (
    on [] ∙ ap (λ (r : Played). r.outcome) (rest_there k p n t.point [] w.0 (w.1.exists w.0)) ∙ ap (λ x. Open x) (sym w.2),
    λ _. record { within = w.0; exists = w.1.exists w.0; on = λ ns. ap (λ l. (plays k m l).outcome) (append_assoc l (g ∷ []) ns) ∙ on ns },
  )
  lands t l g (Ended e) w on = (on [], λ x. absurd x)

  pub step_lands : (at : Point) (g : ℕ) (t : Turned Point) (l : List ℕ) → t ≡ turn k p n at g → Follows k m at l → Landed (λ ns. (plays k m ns).outcome) (Follows k m) (l ++ g ∷ []) t.outcome t.point
  step_lands at g t l e f =
      lands t l g t.outcome (subst (λ (u : Turned Point). Waits k p n u.point u.outcome) (sym e) (turn_waits k p n at g f.within))
      (λ ns. f.on (g ∷ ns) ∙ ap (λ (r : Played). r.outcome) (rest_turn k p n at g ns (stands_of at l f) f.within) ∙ ap (λ (u : Turned Point). (followed k p n u (λ at'. rest k p n at' ns) u.outcome).outcome) (sym e))
