-- The instructions of one statement do what the statement does.
use Rattle.std.specs.Prelude.{◌≡◌, ℕ, suc, ◌+◌, ◌-◌, ◌<◌, ◌≤◌, Bool, true, false, cond, ◌&&◌, List, ◌∷◌, ◌++◌, ◌==◌, nat_eq, nat_le, nat_lt, refl, Err}
use Rattle.std.proofs.Common.{sym, ap, ap₂, subst, ◌∙◌, ⊎_elim, arith}
use Rattle.std.proofs.lemmas.Bool.{eq-eqb, ne_eqb, cases_eq, lt-ltb, le-ltb, le-leb, and_from, and_right}
use Rattle.kinds.specs.Meaning.{Meaning}
use Rattle.records.specs.declared.statement.Mutex.{Mutex}
use Rattle.records.specs.declared.statement.Place.{Place}
use Rattle.records.specs.declared.statement.Statement.{Statement}
use Rattle.records.specs.declared.statement.Statement.TheVariants.{Set, Copy, Sum, Difference, Less, Same, Jump, Branch, Assume, Assert, Init, Destroy, Lock, Unlock, Create, Join}
use Rattle.states.specs.declared.state.MutexState.{MutexState}
use Rattle.states.specs.declared.state.MutexState.TheVariants.{Free, Destroyed, Held}
use Rattle.states.specs.declared.state.State.{State}
use Rattle.states.specs.States as threads
use Rattle.states.specs.States.{label, mutex, go, mark, create}
use Rattle.tables.specs.Program.{Program, size}
use Rattle.tables.specs.WellFormed.{Counts, Fit}
use Rattle.threads.specs.declared.effect.Effect.{Effect}
use Rattle.threads.specs.declared.effect.Effect.TheVariants as effects
use Rattle.threads.specs.Effects.{effect, taken, freed, ended}
use Rattle.threads.specs.Plays.{thread}
use Rattle.reports.specs.declared.stop.Stop.TheVariants as stop
use Rattle.sequences.specs.declared.act.Act.{Act}
use Rattle.sequences.specs.declared.act.Act.TheVariants.{On, Write, Mark, To, Fail, Stop}
use Rattle.sequences.specs.declared.instruction.Instruction.{Instruction}
use Rattle.sequences.specs.declared.instruction.Instruction.TheVariants as op
use Rattle.sequences.specs.declared.state.SeqState.{SeqState}
use Rattle.sequences.specs.Acts.{Called, called, act, whole}
use Rattle.sequences.specs.Code.{inner, past, at, word}
use Rattle.sequences.specs.States as sequences
use Rattle.sequences.specs.States.{value, put, with_word}
use Rattle.sequences.specs.Words.{active, saved, lock}
use Rattle.guesses.specs.Entries.{Sized, sized_go, lab, go_put, go_value, go_create, go_label, go_other}
use Rattle.guesses.specs.Seen.{seen, lock_word, seen_value, seen_put, seen_label, seen_lock, set_lock, wake}
use Rattle.guesses.specs.Dids.{Did, Fails, Blocks, Steps, did}
use Rattle.guesses.specs.Sweep.{sweep, sweep_at}

-- a NEED of a mutex is a part of a LOCK, one of a saved label a whole JOIN
whole_lock : (m : ℕ) → whole (lock m) ≡ false
whole_lock m = and_right (nat_le 8 (16 + m)) (nat_lt (16 + m) 16) (le-ltb (16 + m) 16 (omega arith))

whole_saved : (j : ℕ) → j < 8 → whole (saved j) ≡ true
whole_saved j h = and_from (nat_le 8 (8 + j)) (nat_lt (8 + j) 16) (le-leb 8 (8 + j) (omega arith)) (lt-ltb (8 + j) 16 (omega arith))

eqb_two : (a b : ℕ) → (2 + a == 2 + b) ≡ (a == b)
eqb_two a b =
    ⊎_elim
    (λ (e : a ≡ b). eq-eqb (2 + a) (2 + b) (omega arith) ∙ sym (eq-eqb a b e))
    (λ (ne : a ≡ b → ⊥). ne_eqb (2 + a) (2 + b) (λ x. ne (omega arith)) ∙ sym (ne_eqb a b ne))
    (cases_eq a b)

module _ (k : Meaning) (p : Program) (i cs pc : ℕ) (A : ℕ → ℕ) (s : State) (rest : List Instruction) (h d : ℕ) where
  -- Inside its slot the thread's label is still the one that was saved.
  abbrev pub held : State → SeqState
  held x = seen (go x i (lab pc)) cs

  -- what the run is after a statement whose instructions end before the address a
  abbrev pub follows : ℕ → Did → Called
  follows a Fails = called (Err stop.Failed) (d + 1) (held s)
  follows a Blocks = called (Err stop.Cut) d (held s)
  follows a (Steps s' t) = sweep k i rest a (A t - a) (d + 1) (held s')

  -- the run of these instructions from the address h
  abbrev from_here : List Instruction → Called
  from_here xs = sweep k i xs h 0 d (held s)

  module _ (below : label s i < size p i) (from : pc ≤ label s i) (has : i < 8) (sized : Sized s) where
    -- the next statement stands behind it
    went : (a : ℕ) (q : SeqState) (s' : State) → A (suc (label s i)) ≡ a → q ≡ held s' → sweep k i rest a 0 (d + 1) q ≡ follows a (Steps s' (suc (label s i)))
    went a q s' e eq =
        let z : 0 ≡ A (suc (label s i)) - a = omega arith in
        ap₂ (λ n m. sweep k i rest a n (d + 1) m) z eq

    reads : (a : Place) → value k (held s) i a ≡ threads.value k s i a
    reads a = seen_value (go s i (lab pc)) cs k i a ∙ go_value s i k pc i a

    written : (x : Instruction) (dst : Place) (c c' : ℕ) → act k i (held s) x ≡ Write dst c → A (suc (label s i)) ≡ suc h → c ≡ c' → from_here (x ∷ rest) ≡ follows (suc h) (did i s (effects.Write dst c'))
    written x dst c c' ex e ec =
        sweep_at k i x rest h d (held s) (Write dst c) ex
        ∙ went (suc h) (put (held s) i dst c) (threads.put s i dst c') e
        (ap (put (held s) i dst) ec ∙ seen_put (go s i (lab pc)) cs i dst c' ∙ ap (λ x. seen x cs) (go_put s i pc i dst c'))

    passed : (x : Instruction) → act k i (held s) x ≡ On true → A (suc (label s i)) ≡ suc h → from_here (x ∷ rest) ≡ follows (suc h) (did i s effects.Pass)
    passed x ex e = sweep_at k i x rest h d (held s) (On true) ex ∙ went (suc h) (held s) s e refl

    -- a test of a cell
    tested : (x : Instruction) (a : Place) (els : Act) (els' : Effect) → act k i (held s) x ≡ cond (k.holds (value k (held s) i a)) (On true) els → A (suc (label s i)) ≡ suc h
        → (act k i (held s) x ≡ els → from_here (x ∷ rest) ≡ follows (suc h) (did i s els'))
        → from_here (x ∷ rest) ≡ follows (suc h) (did i s (cond (k.holds (threads.value k s i a)) effects.Pass els'))
    tested x a els els' ex e other =
        (elim (k.holds (threads.value k s i a)) as (λ b. act k i (held s) x ≡ cond b (On true) els → from_here (x ∷ rest) ≡ follows (suc h) (did i s (cond b effects.Pass els'))) [
          | true ↦ λ y. passed x y e
          | false ↦ λ y. other y
        ]) (ex ∙ ap (λ v. cond (k.holds v) (On true) els) (reads a))

    module _ (m : Mutex) (lt : m.0 < 8) where
      abbrev w : ℕ
      w = lock m.0

      holds_lock : (x : MutexState) → mutex s m.0 ≡ x → sequences.word (held s) w ≡ lock_word x
      holds_lock x e = seen_lock (go s i (lab pc)) cs (sized_go s i pc sized) m.0 lt ∙ ap lock_word e

      -- a PUT of a mutex
      marked : (a v : ℕ) (y : MutexState) → v ≡ lock_word y → A (suc (label s i)) ≡ suc a → sweep k i (op.Put (word w) v ∷ rest) a 0 d (held s) ≡ follows (suc a) (did i s (effects.Mark m y))
      marked a v y ev e =
          sweep_at k i (op.Put (word w) v) rest a d (held s) (Mark (word w) v) refl
          ∙ went (suc a) (with_word (held s) w v) (mark s m.0 y) e (set_lock (go s i (lab pc)) cs (sized_go s i pc sized) m.0 v y lt ev)

      abbrev lock_code : List Instruction
      lock_code = op.MustNot (word w) 1 ∷ op.Need (word w) 0 ∷ op.Put (word w) (2 + i) ∷ rest

      must_not : (x : MutexState) (b : Bool) → mutex s m.0 ≡ x → (lock_word x == 1) ≡ b → act k i (held s) (op.MustNot (word w) 1) ≡ cond b Fail (On false)
      must_not x b e eb = ap (λ v. cond (v == 1) Fail (On false)) (holds_lock x e) ∙ ap (λ b. cond b Fail (On false)) eb

      need : (x : MutexState) (b : Bool) → mutex s m.0 ≡ x → (lock_word x == 0) ≡ b → act k i (held s) (op.Need (word w) 0) ≡ cond b (On false) Stop
      need x b e eb =
          ap (λ v. cond (v == 0) (On (whole w)) Stop) (holds_lock x e)
          ∙ ap₂ (λ b c. cond b (On c) Stop) eb (whole_lock m.0)

      locks : (x : MutexState) → mutex s m.0 ≡ x → A (suc (label s i)) ≡ suc (suc (suc h)) → from_here lock_code ≡ follows (suc (suc (suc h))) (did i s (taken x (thread i) m))
      locks Free e ea =
          sweep_at k i (op.MustNot (word w) 1) _ h d (held s) (On false) (must_not Free false e refl)
          ∙ sweep_at k i (op.Need (word w) 0) _ (suc h) d (held s) (On false) (need Free true e refl)
          ∙ marked (suc (suc h)) (2 + i) (Held (thread i)) refl ea
      locks Destroyed e ea = sweep_at k i (op.MustNot (word w) 1) _ h d (held s) Fail (must_not Destroyed true e refl)
      locks (Held j) e ea =
          sweep_at k i (op.MustNot (word w) 1) _ h d (held s) (On false) (must_not (Held j) false e (ne_eqb (2 + j.0) 1 (omega arith)))
          ∙ sweep_at k i (op.Need (word w) 0) _ (suc h) d (held s) Stop (need (Held j) false e (ne_eqb (2 + j.0) 0 (omega arith)))

      must : (x : MutexState) (b : Bool) → mutex s m.0 ≡ x → (lock_word x == 2 + i) ≡ b → act k i (held s) (op.Must (word w) (2 + i)) ≡ cond b (On false) Fail
      must x b e eb = ap (λ v. cond (v == 2 + i) (On false) Fail) (holds_lock x e) ∙ ap (λ b. cond b (On false) Fail) eb

      abbrev unlock_code : List Instruction
      unlock_code = op.Must (word w) (2 + i) ∷ op.Put (word w) 0 ∷ rest

      not_held : (x : MutexState) → mutex s m.0 ≡ x → (lock_word x == 2 + i) ≡ false → from_here unlock_code ≡ called (Err stop.Failed) (d + 1) (held s)
      not_held x e eb = sweep_at k i (op.Must (word w) (2 + i)) _ h d (held s) Fail (must x false e eb)

      unlocks : (x : MutexState) → mutex s m.0 ≡ x → A (suc (label s i)) ≡ suc (suc h) → from_here unlock_code ≡ follows (suc (suc h)) (did i s (freed x (thread i) m))
      unlocks Free e ea = not_held Free e (ne_eqb 0 (2 + i) (omega arith))
      unlocks Destroyed e ea = not_held Destroyed e (ne_eqb 1 (2 + i) (omega arith))
      unlocks (Held j) e ea = by_holder (j.0 == i) (eqb_two j.0 i)
        where
          by_holder : (b : Bool) → (2 + j.0 == 2 + i) ≡ b → from_here unlock_code ≡ follows (suc (suc h)) (did i s (cond b (effects.Mark m Free) effects.Fail))
          by_holder true eb = sweep_at k i (op.Must (word w) (2 + i)) _ h d (held s) (On false) (must (Held j) true e eb) ∙ marked (suc h) 0 Free refl ea
          by_holder false eb = not_held (Held j) e eb

    -- a thread has ended for both or for neither, for the one that runs has not ended
    ended_both : (j : ℕ) → j < 8 → (sequences.word (held s) (saved j) == size p j) ≡ ended p s j
    ended_both j lt =
        ap (λ l. nat_eq l (size p j)) (seen_label (go s i (lab pc)) cs (sized_go s i pc sized) j lt)
        ∙ ⊎_elim
        (λ (e : i ≡ j). subst (λ j. (label (go s i (lab pc)) j == size p j) ≡ (label s j == size p j)) e
        (ne_eqb (label (go s i (lab pc)) i) (size p i) (λ x. omega (arith, go_label s i pc (omega (arith, sized.entries)))) ∙ sym (ne_eqb (label s i) (size p i) (λ x. omega arith))))
        (λ (ne : i ≡ j → ⊥). ap (λ l. nat_eq l (size p j)) (go_other s i pc j ne))
        (cases_eq i j)
        ∙ sym (ap (λ b. b && label s j == size p j) (lt-ltb j 8 lt))

    joins : (j : ℕ) → j < 8 → A (suc (label s i)) ≡ suc h → from_here (op.Need (word (saved j)) (size p j) ∷ rest) ≡ follows (suc h) (did i s (cond (ended p s j) effects.Pass effects.Block))
    joins j lt e =
        (elim (ended p s j) as (λ b. act k i (held s) (op.Need (word (saved j)) (size p j)) ≡ cond b (On true) Stop → from_here (op.Need (word (saved j)) (size p j) ∷ rest) ≡ follows (suc h) (did i s (cond b effects.Pass effects.Block))) [
          | true ↦ λ y. passed (op.Need (word (saved j)) (size p j)) y e
          | false ↦ λ y. sweep_at k i (op.Need (word (saved j)) (size p j)) rest h d (held s) Stop y
        ]) (ap₂ (λ b c. cond b (On c) Stop) (ended_both j lt) (whole_saved j lt))

    creates : (j : ℕ) → j < 8 → A (suc (label s i)) ≡ suc h → from_here (op.Put (word (active j)) 1 ∷ rest) ≡ follows (suc h) (Steps (create s j) (suc (label s i)))
    creates j lt e =
        sweep_at k i (op.Put (word (active j)) 1) rest h d (held s) (Mark (word (active j)) 1) refl
        ∙ went (suc h) (with_word (held s) (active j) 1) (create s j) e
        (wake (go s i (lab pc)) cs (sized_go s i pc sized) j lt ∙ ap (λ x. seen x cs) (go_create s i pc j))

    module _ (M : Counts) (mutexes : M.mutexes ≤ 8) (all : M.threads ≤ 8) (l : ℕ) where
      pub body : (x : Statement) → Fit k M l x → A (suc (label s i)) ≡ past (inner p i A x) h → from_here (inner p i A x ++ rest) ≡ follows (past (inner p i A x) h) (did i s (effect k p (thread i) s x))
      body (Set dst c) f e = written (op.Set dst c) dst c c refl e refl
      body (Copy dst a) f e = written (op.Copy dst a) dst _ _ refl e (reads a)
      body (Sum dst a b) f e = written (op.Sum dst a b) dst _ _ refl e (ap₂ k.sum (reads a) (reads b))
      body (Difference dst a b) f e = written (op.Difference dst a b) dst _ _ refl e (ap₂ k.difference (reads a) (reads b))
      body (Less dst a b) f e = written (op.Less dst a b) dst _ _ refl e (ap₂ k.less (reads a) (reads b))
      body (Same dst a b) f e = written (op.Same dst a b) dst _ _ refl e (ap₂ k.same (reads a) (reads b))
      body (Jump t) f e = sweep_at k i (op.Jump (at (A t.0))) rest h d (held s) (To true (at (A t.0))) refl
      body (Branch a t) f e =
          tested (op.Branch a (at (A t.0))) a (To true (at (A t.0))) (effects.GoTo t) refl e
          (λ x. sweep_at k i (op.Branch a (at (A t.0))) rest h d (held s) (To true (at (A t.0))) x)
      body (Assume a) f e = tested (op.Assume a) a Stop effects.Block refl e (λ x. sweep_at k i (op.Assume a) rest h d (held s) Stop x)
      body (Assert a) f e = tested (op.Assert a) a Fail effects.Fail refl e (λ x. sweep_at k i (op.Assert a) rest h d (held s) Fail x)
      body (Init m) f e = marked m (omega arith) h 0 Free refl e
      body (Destroy m) f e = marked m (omega arith) h 1 Destroyed refl e
      body (Lock m) f e = locks m (omega arith) (mutex s m.0) refl e
      body (Unlock m) f e = unlocks m (omega arith) (mutex s m.0) refl e
      body (Create j) f e = creates j.0 (omega (arith, f.1)) e
      body (Join j) f e = joins j.0 (omega arith) e
