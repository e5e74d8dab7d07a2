-- What a statement leaves that is carried out: a later label, and as many entries.
use Rattle.std.proofs.Common.{◌≡◌, ℕ, ◌<◌, ◌≤◌, Bool, true, false, cond, eqb, length, Some, None, Option, refl, ap, ◌∙◌, arith, length-set, get_or-set_same, Ok, Err}
use Rattle.kinds.specs.Meaning.{Meaning}
use Rattle.records.specs.declared.statement.Label.{Label}
use Rattle.records.specs.declared.statement.Mutex.{Mutex}
use Rattle.records.specs.declared.statement.Place.{Place}
use Rattle.records.specs.declared.statement.Place.TheVariants.{Shared, Local}
use Rattle.records.specs.declared.statement.Statement.{Statement}
use Rattle.records.specs.declared.statement.Statement.TheVariants as op
use Rattle.states.specs.declared.entries.ThreadEntry.{ThreadEntry}
use Rattle.states.specs.declared.state.MutexState.{MutexState}
use Rattle.states.specs.declared.state.MutexState.TheVariants.{Free, Destroyed, Held}
use Rattle.states.specs.declared.state.State.{State}
use Rattle.states.specs.Entries.{no_entry, labelled, with_local, awake}
use Rattle.states.specs.States.{entry, label, value, mutex, go, put, mark, create}
use Rattle.tables.specs.Program.{Program, size, due}
use Rattle.tables.specs.WellFormed.{Fit, WellFormed}
use Rattle.threads.specs.declared.effect.Effect.{Effect}
use Rattle.threads.specs.declared.effect.Effect.TheVariants.{Fail, Block, Pass, GoTo, Write, Mark}
use Rattle.reports.specs.Stops.{End}
use Rattle.reports.specs.declared.stop.Stop.TheVariants.{Failed, Cut}
use Rattle.threads.specs.Effects.{ended, taken, freed, effect, effect_of, next}
use Rattle.threads.specs.Plays.{thread}
use Rattle.threads.specs.Steps.{progress, following, after}
use Rattle.guesses.specs.Texts.{counts_of, due_within, due_fits}

-- how many entries a state has
abbrev pub width : State → ℕ
width s = length s.threads.entries

-- from s to s⁺ thread i goes to a later label of its text
pub record Later (p : Program) (i : ℕ) (s s⁺ : State) : Type 0 where
  pub up : label s i < label s⁺ i
  pub in_text : label s⁺ i ≤ size p i
  pub wide : width s⁺ ≡ width s

module _ (k : Meaning) (p : Program) (i : ℕ) (s : State) where
  -- what is known of a statement that came out so and left the state s⁺
  abbrev pub Left : State → End → Type 0
  Left s⁺ (Ok tt) = Later p i s s⁺
  Left s⁺ (Err Failed) = label s i < size p i
  Left s⁺ (Err Cut) = Unit {0}

  abbrev Leaves : Effect → Type 0
  Leaves e = Left (after (thread i) e s) (progress e)

  module _ (has : i < width s) where
    lands : (s' : State) (t : Label) → width s' ≡ width s → label s i < t.0 → t.0 ≤ size p i → Later p i s (go s' i t)
    lands s' t wide lt le =
        let at : label (go s' i t) i ≡ t.0 = ap (λ (e : ThreadEntry). e.label.0) (get_or-set_same s'.threads.entries i (labelled (entry s' i) t) no_entry (omega arith)) in
        record {
          up = omega arith;
          in_text = omega arith;
          wide = length-set s'.threads.entries i (labelled (entry s' i) t) ∙ wide;
        }

    module _ (within : label s i < size p i) where
      onward : (s' : State) → width s' ≡ width s → Later p i s (go s' i (following s i))
      onward s' wide = lands s' (following s i) wide (omega arith) (omega arith)

      wrote : (d : Place) (c : ℕ) → Leaves (Write d c)
      wrote (Shared n) c = onward (put s i (Shared n) c) refl
      wrote (Local n) c = onward (put s i (Local n) c) (length-set s.threads.entries i (with_local (entry s i) n c))

      either : (b : Bool) (e f : Effect) → Leaves e → Leaves f → Leaves (cond b e f)
      either true e f g h = g
      either false e f g h = h

      took : (x : MutexState) (m : Mutex) → Leaves (taken x (thread i) m)
      took Free m = onward (mark s m.0 (Held (thread i))) refl
      took Destroyed m = within
      took (Held j) m = tt

      gave : (x : MutexState) (m : Mutex) → Leaves (freed x (thread i) m)
      gave Free m = within
      gave Destroyed m = within
      gave (Held j) m = either (eqb j.0 i) (Mark m Free) Fail (onward (mark s m.0 Free) refl) within

      leaves : (x : Statement) → Fit k (counts_of p i) (label s i) x → Leaves (effect k p (thread i) s x)
      leaves (op.Set d c) f = wrote d c
      leaves (op.Copy d a) f = wrote d _
      leaves (op.Sum d a b) f = wrote d _
      leaves (op.Difference d a b) f = wrote d _
      leaves (op.Less d a b) f = wrote d _
      leaves (op.Same d a b) f = wrote d _
      leaves (op.Jump t) f = lands s t refl f.0 f.1
      leaves (op.Branch a t) f = either (k.holds (value k s i a)) Pass (GoTo t) (onward s refl) (lands s t refl f.1 f.2)
      leaves (op.Assume a) f = either (k.holds (value k s i a)) Pass Block (onward s refl) tt
      leaves (op.Assert a) f = either (k.holds (value k s i a)) Pass Fail (onward s refl) within
      leaves (op.Init m) f = onward (mark s m.0 Free) refl
      leaves (op.Destroy m) f = onward (mark s m.0 Destroyed) refl
      leaves (op.Lock m) f = took (mutex s m.0) m
      leaves (op.Unlock m) f = gave (mutex s m.0) m
      leaves (op.Create j) f = onward (create s j.0) (length-set s.threads.entries j.0 (awake (entry s j.0)))
      leaves (op.Join j) f = either (ended p s j.0) Pass Block (onward s refl) tt

    leaves_due : WellFormed k p → (x : Option Statement) → due p i (label s i) ≡ x → Leaves (effect_of k p (thread i) s x)
    leaves_due w None e = tt
    leaves_due w (Some x) e = leaves (due_within k p w i (label s i) x e) x (due_fits k p w i (label s i) x e)

    -- of the statement that is due
    pub leaves_next : WellFormed k p → Left (after (thread i) (next k p (thread i) s) s) (progress (next k p (thread i) s))
    leaves_next w = leaves_due w (due p i (label s i)) refl
