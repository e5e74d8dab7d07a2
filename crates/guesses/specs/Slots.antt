-- One more statement of a slot, by count and by label.
use Rattle.std.specs.Prelude.{◌≡◌, ℕ, zero, suc, ◌+◌, ◌<◌, ◌≤◌, cond, ◌≢◌, Ok, Err}
use Rattle.std.proofs.Math.Path.{refl, ap}
use Rattle.std.proofs.Common.{◌∙◌, add-one, arith}
use Rattle.std.proofs.lemmas.Bool.{lt-ltb, le-ltb, eq-eqb, ne_eqb}
use Rattle.kinds.specs.Meaning.{Meaning}
use Rattle.states.specs.declared.state.State.{State}
use Rattle.states.specs.States.{label}
use Rattle.tables.specs.Program.{Program}
use Rattle.reports.specs.declared.stop.Stop.TheVariants as end
use Rattle.reports.specs.Stops.{End}
use Rattle.reports.specs.declared.stop.Stop.TheVariants.{Failed, Cut}
use Rattle.threads.specs.Effects.{next}
use Rattle.threads.specs.Plays.{thread}
use Rattle.threads.specs.Slots.{Ran, ran, run, slot_of, stops, unless_stopped}
use Rattle.threads.specs.Steps.{progress, after}
use Rattle.guesses.specs.Paces.{until, arrived}

-- a slot after d statements, and one that came out so and left the state s; `more` is the rest of the slot
abbrev pub stepped : State → Ran → ℕ → End → Ran
stepped s more d (Ok tt) = more
stepped s more d (Err Failed) = ran (slot_of (Err end.Failed) (suc d)) s
stepped s more d (Err Cut) = ran (slot_of (Err end.Cut) d) s

stops_so : (s : State) (more : Ran) (d : ℕ) (o : End) → unless_stopped s more (stops o d) ≡ stepped s more d o
stops_so s more d (Ok tt) = refl
stops_so s more d (Err Failed) = ap (λ n. ran (slot_of (Err end.Failed) n) s) (add-one d)
stops_so s more d (Err Cut) = refl

module _ (k : Meaning) (p : Program) (i : ℕ) (s : State) where
  -- the state behind the statement that is due, and how that comes out
  abbrev pub behind : State
  behind = after (thread i) (next k p (thread i) s) s

  abbrev pub outcome : End
  outcome = progress (next k p (thread i) s)

  pub run_next : (m d : ℕ) (o : End) → outcome ≡ o → run k p (thread i) (suc m) d s ≡ stepped behind (run k p (thread i) m (suc d) behind) d o
  unfolding run
  run_next m d o e =
      ap (λ n. unless_stopped behind (run k p (thread i) m n behind) (stops outcome d)) (add-one d)
      ∙ stops_so behind (run k p (thread i) m (suc d) behind) d outcome
      ∙ ap (stepped behind (run k p (thread i) m (suc d) behind) d) e

  pub run_none : (d : ℕ) → run k p (thread i) zero d s ≡ ran (slot_of (Ok tt) d) s
  unfolding run
  run_none d = refl

  pub until_next : (cs f d : ℕ) (o : End) → label s i < cs → outcome ≡ o → until k p (thread i) cs (suc f) d s ≡ stepped behind (until k p (thread i) cs f (suc d) behind) d o
  unfolding until
  until_next cs f d o lt e =
      ap (λ b. cond b (unless_stopped behind (until k p (thread i) cs f (d + 1) behind) (stops outcome d)) (arrived cs (label s i) d s)) (lt-ltb (label s i) cs lt)
      ∙ ap (λ n. unless_stopped behind (until k p (thread i) cs f n behind) (stops outcome d)) (add-one d)
      ∙ stops_so behind (until k p (thread i) cs f (suc d) behind) d outcome
      ∙ ap (stepped behind (until k p (thread i) cs f (suc d) behind) d) e

  pub until_none : (cs d : ℕ) → until k p (thread i) cs zero d s ≡ arrived cs (label s i) d s
  unfolding until
  until_none cs d = refl

  -- where the label is not below cs, the slot is over
  pub until_arrived : (cs f d : ℕ) → cs ≤ label s i → until k p (thread i) cs f d s ≡ arrived cs (label s i) d s
  unfolding until
  until_arrived cs zero d le = refl
  until_arrived cs (suc f) d le = rw (le-ltb (label s i) cs le)

  pub until_at : (cs f d : ℕ) → label s i ≡ cs → until k p (thread i) cs f d s ≡ ran (slot_of (Ok tt) d) s
  until_at cs f d e = until_arrived cs f d (omega arith) ∙ rw (eq-eqb (label s i) cs e)

  pub until_past : (cs f d : ℕ) → cs < label s i → until k p (thread i) cs f d s ≡ ran (slot_of (Err end.Cut) d) s
  until_past cs f d lt = until_arrived cs f d (omega arith) ∙ rw (ne_eqb (label s i) cs (omega arith))

  pub until_off : (cs d : ℕ) → (label s i ≢ cs) → until k p (thread i) cs zero d s ≡ ran (slot_of (Err end.Cut) d) s
  until_off cs d ne = until_none cs d ∙ rw (ne_eqb (label s i) cs ne)
