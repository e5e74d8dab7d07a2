-- Where a statement leads: to the next label, or to one that it names.
use Rattle.std.specs.Prelude.{◌≡◌, ℕ, zero, suc, ◌<◌, ◌≤◌, Bool, true, false, cond, ◌⊎◌, List, [], ◌∷◌, drop, ◌==◌, refl}
use Rattle.std.proofs.Common.{ap, ◌∙◌, inl, inr, arith}
use Rattle.std.proofs.lemmas.Bool.{eq-eqb, eqb-true, or_left, or_right}
use Rattle.kinds.specs.Meaning.{Meaning}
use Rattle.records.specs.declared.statement.Mutex.{Mutex}
use Rattle.records.specs.declared.statement.Statement.{Statement}
use Rattle.records.specs.declared.statement.Statement.TheVariants.{Set, Copy, Sum, Difference, Less, Same, Jump, Branch, Assume, Assert, Init, Destroy, Lock, Unlock, Create, Join}
use Rattle.states.specs.declared.state.MutexState.{MutexState}
use Rattle.states.specs.declared.state.MutexState.TheVariants.{Free, Destroyed, Held}
use Rattle.states.specs.declared.state.State.{State}
use Rattle.states.specs.States.{label, value, mutex}
use Rattle.tables.specs.Program.{Program}
use Rattle.tables.specs.WellFormed.{Counts, Fit}
use Rattle.threads.specs.declared.effect.Effect.{Effect}
use Rattle.threads.specs.declared.effect.Effect.TheVariants as effects
use Rattle.threads.specs.Effects.{effect, ended, taken, freed}
use Rattle.threads.specs.Plays.{thread}
use Rattle.sequences.specs.Code.{names, guarded}
use Rattle.guesses.specs.Entries.{Sized, sized_put, sized_mark, sized_create}
use Rattle.guesses.specs.Dids.{Did, Fails, Blocks, Steps, did}

-- the label that follows a statement, and that its state has its size
abbrev pub Onto : ℕ → State → Statement → Did → Type 0
Onto i s x Fails = Unit {0}
Onto i s x Blocks = Unit {0}
Onto i s x (Steps s' t) = ((t ≡ suc (label s i)) ⊎ (names t x ≡ true)) × (Sized s → Sized s')

module _ (k : Meaning) (p : Program) (i : ℕ) (s : State) where
  either : (x : Statement) (b : Bool) (u v : Effect) → Onto i s x (did i s u) → Onto i s x (did i s v) → Onto i s x (did i s (cond b u v))
  either x true u v g h = g
  either x false u v g h = h

  taken_onto : (x : Statement) (h : MutexState) (m : Mutex) → Onto i s x (did i s (taken h (thread i) m))
  taken_onto x Free m = (inl refl, sized_mark s m.0 (Held (thread i)))
  taken_onto x Destroyed m = tt
  taken_onto x (Held j) m = tt

  freed_onto : (x : Statement) (h : MutexState) (m : Mutex) → Onto i s x (did i s (freed h (thread i) m))
  freed_onto x Free m = tt
  freed_onto x Destroyed m = tt
  freed_onto x (Held j) m = either x (j.0 == i) (effects.Mark m Free) effects.Fail (inl refl, sized_mark s m.0 Free) tt

  pub onto : (x : Statement) → Onto i s x (did i s (effect k p (thread i) s x))
  onto (Set d c) = (inl refl, sized_put s i d _)
  onto (Copy d a) = (inl refl, sized_put s i d _)
  onto (Sum d a b) = (inl refl, sized_put s i d _)
  onto (Difference d a b) = (inl refl, sized_put s i d _)
  onto (Less d a b) = (inl refl, sized_put s i d _)
  onto (Same d a b) = (inl refl, sized_put s i d _)
  onto (Jump t) = (inr (eq-eqb t.0 t.0 refl), λ z. z)
  onto (Branch a t) = either (Branch a t) (k.holds (value k s i a)) effects.Pass (effects.GoTo t) (inl refl, λ z. z) (inr (eq-eqb t.0 t.0 refl), λ z. z)
  onto (Assume a) = either (Assume a) (k.holds (value k s i a)) effects.Pass effects.Block (inl refl, λ z. z) tt
  onto (Assert a) = either (Assert a) (k.holds (value k s i a)) effects.Pass effects.Fail (inl refl, λ z. z) tt
  onto (Init m) = (inl refl, sized_mark s m.0 Free)
  onto (Destroy m) = (inl refl, sized_mark s m.0 Destroyed)
  onto (Lock m) = taken_onto (Lock m) (mutex s m.0) m
  onto (Unlock m) = freed_onto (Unlock m) (mutex s m.0) m
  onto (Create j) = (inl refl, sized_create s j.0)
  onto (Join j) = either (Join j) (ended p s j.0) effects.Pass effects.Block (inl refl, λ z. z) tt

never : {X : Type 0} → false ≡ true → X
never e = absurd (let z : ◌≡◌ {A = ℕ} 0 1 = cc in omega arith)

-- a label that a statement names lies above its own, and in the text
pub named_above : (k : Meaning) (M : Counts) (l t : ℕ) (x : Statement) → Fit k M l x → names t x ≡ true → (l < t) × (t ≤ M.size)
named_above k M l t (Jump u) f e = let z : u.0 ≡ t = eqb-true u.0 t e in (omega (arith, f.0), omega (arith, f.1))
named_above k M l t (Branch a u) f e = let z : u.0 ≡ t = eqb-true u.0 t e in (omega (arith, f.1), omega (arith, f.2))
named_above k M l t (Set d c) f e = never e
named_above k M l t (Copy d a) f e = never e
named_above k M l t (Sum d a b) f e = never e
named_above k M l t (Difference d a b) f e = never e
named_above k M l t (Less d a b) f e = never e
named_above k M l t (Same d a b) f e = never e
named_above k M l t (Assume a) f e = never e
named_above k M l t (Assert a) f e = never e
named_above k M l t (Init m) f e = never e
named_above k M l t (Destroy m) f e = never e
named_above k M l t (Lock m) f e = never e
named_above k M l t (Unlock m) f e = never e
named_above k M l t (Create j) f e = never e
named_above k M l t (Join j) f e = never e

-- a label that a jump names has a guard
pub named_guarded : (xs : List Statement) (l t : ℕ) (x : Statement) (ys : List Statement) → drop l xs ≡ x ∷ ys → names t x ≡ true → guarded xs t ≡ true
named_guarded [] zero t x ys e n = absurd (let z : ◌≡◌ {A = ℕ} 0 1 = cc in omega arith)
named_guarded [] (suc l) t x ys e n = absurd (let z : ◌≡◌ {A = ℕ} 0 1 = cc in omega arith)
named_guarded (y ∷ xs) zero t x ys e n = let same : y ≡ x = cc in or_left (names t y) (guarded xs t) (ap (names t) same ∙ n)
named_guarded (y ∷ xs) (suc l) t x ys e n = or_right (names t y) (guarded xs t) (named_guarded xs l t x ys e n)
