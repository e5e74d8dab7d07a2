-- What the statement that is due does, apart from the thread's label.
use Rattle.std.specs.Prelude.{◌≡◌, ℕ, suc, ◌+◌, ◌<◌, refl, Err}
use Rattle.std.proofs.Math.Path.{ap}
use Rattle.std.proofs.Common.{◌∙◌, add-one}
use Rattle.std.proofs.lemmas.Bool.{lt-ltb}
use Rattle.kinds.specs.Meaning.{Meaning}
use Rattle.states.specs.declared.state.State.{State}
use Rattle.states.specs.States.{label, go, put, mark, create}
use Rattle.tables.specs.Program.{Program}
use Rattle.threads.specs.declared.effect.Effect.{Effect}
use Rattle.threads.specs.declared.effect.Effect.TheVariants.{Fail, Block, Pass, GoTo, Write, Mark, Create}
use Rattle.reports.specs.declared.stop.Stop.TheVariants as end
use Rattle.threads.specs.Effects.{next}
use Rattle.threads.specs.Plays.{thread}
use Rattle.threads.specs.Slots.{Ran, ran, slot_of, stops, unless_stopped}
use Rattle.threads.specs.Steps.{progress, after}
use Rattle.guesses.specs.Paces.{until}
use Rattle.guesses.specs.Entries.{lab}

-- A statement fails, blocks, or leaves a state (but for the thread's label) and the label that is due next.
pub data Did : Type 0 where
  Fails : Did
  Blocks : Did
  Steps : State → ℕ → Did

abbrev pub did : ℕ → State → Effect → Did
did i s Fail = Fails
did i s Block = Blocks
did i s Pass = Steps s (suc (label s i))
did i s (GoTo t) = Steps s t.0
did i s (Write d c) = Steps (put s i d c) (suc (label s i))
did i s (Mark m h) = Steps (mark s m.0 h) (suc (label s i))
did i s (Create j) = Steps (create s j.0) (suc (label s i))

-- after d statements the next one does this; `more` is the rest of the slot
abbrev pub counted : ℕ → ℕ → State → (State → Ran) → Did → Ran
counted i d s more Fails = ran (slot_of (Err end.Failed) (d + 1)) s
counted i d s more Blocks = ran (slot_of (Err end.Cut) d) s
counted i d s more (Steps s' t) = more (go s' i (lab t))

did_counted : (i d : ℕ) (s : State) (more : State → Ran) (e : Effect) → unless_stopped (after (thread i) e s) (more (after (thread i) e s)) (stops (progress e) d) ≡ counted i d s more (did i s e)
did_counted i d s more Fail = refl
did_counted i d s more Block = refl
did_counted i d s more Pass = ap (λ n. more (go s i (lab n))) (add-one (label s i))
did_counted i d s more (GoTo t) = refl
did_counted i d s more (Write p c) = ap (λ n. more (go (put s i p c) i (lab n))) (add-one (label s i))
did_counted i d s more (Mark m h) = ap (λ n. more (go (mark s m.0 h) i (lab n))) (add-one (label s i))
did_counted i d s more (Create j) = ap (λ n. more (go (create s j.0) i (lab n))) (add-one (label s i))

module _ (k : Meaning) (p : Program) (i : ℕ) (s : State) where
  -- what the statement that is due does
  abbrev pub does : Did
  does = did i s (next k p (thread i) s)

  pub until_did : (cs f d : ℕ) (r : Did) → label s i < cs → does ≡ r → until k p (thread i) cs (suc f) d s ≡ counted i d s (until k p (thread i) cs f (d + 1)) r
  unfolding until
  until_did cs f d r lt e =
      rw (lt-ltb (label s i) cs lt) (did_counted i d s (until k p (thread i) cs f (d + 1)) (next k p (thread i) s) ∙ ap (counted i d s (until k p (thread i) cs f (d + 1))) e)
