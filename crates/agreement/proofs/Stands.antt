-- Two runs that stand at one state with the same slots left, and one slot of each.
use Rattle.std.proofs.Common.{◌≡◌, ℕ, ◌+◌, ◌≤◌, true, cond, List, [], ◌∷◌, ◌++◌, sym, ap, ◌∙◌, append_assoc, Err}
use Rattle.std.proofs.lemmas.Bool.{le-ltb}
use Rattle.kinds.specs.Meaning.{Meaning}
use Rattle.states.specs.declared.state.State.{State}
use Rattle.states.specs.States.{created, label}
use Rattle.tables.specs.Program.{Program}
use Rattle.reports.specs.declared.stop.Stop.TheVariants as end
use Rattle.threads.specs.Plays.{Played, closed, rounds, serve, bound, thread}
use Rattle.threads.specs.Slots.{Ran, ran, run, slot_of}
use Rattle.guesses.specs.Answers.{Answer, played_so}
use Rattle.guesses.specs.Paces.{until, pace, paces}
use Rattle.guesses.specs.Rules.{slot_served}

-- slot counts in front
abbrev pub counted : List ℕ → Answer → Answer
counted l a = record { outcome = a.outcome; counts = l ++ a.counts; cells = a.cells }

pub counted_more : (l : List ℕ) (n : ℕ) (a : Answer) → counted l (counted (n ∷ []) a) ≡ counted (l ++ n ∷ []) a
counted_more l n a = ap (λ cs. record { outcome = a.outcome; counts = cs; cells = a.cells }) (sym (append_assoc l (n ∷ []) a.counts))

-- the lists x and y have the same answer, whose slot counts are x
abbrev pub Same : (A₁ A₂ : List ℕ → Answer) → List ℕ → List ℕ → Type 0
Same A₁ A₂ x y = (A₁ x ≡ A₂ y) × ((A₂ y).counts ≡ x)

-- behind a slot; `more` is the rest of the run
abbrev pub over : Program → Ran → (State → Played) → Answer
over p r more = played_so p (closed r more r.slot.end)

module _ (k : Meaning) (p : Program) where
  -- within the bound
  module _ (i : ℕ) (rest : List ℕ) (s : State) (n : ℕ) (m : List ℕ) (on : created s i ≡ true) (le : n ≤ bound p s i) where
    pub count_slot : played_so p (rounds k p (i ∷ rest) s (n ∷ m)) ≡ over p (run k p (thread i) n 0 s) (λ s'. rounds k p rest s' m)
    count_slot =
        ap (played_so p) (slot_served (serve k p) (bound p) i rest s (n ∷ m) on)
        ∙ ap (λ b. over p (cond b (ran (slot_of (Err end.Cut) 0) s) (run k p (thread i) n 0 s)) (λ s'. rounds k p rest s' m)) (le-ltb (bound p s i) n le)

    pub label_slot : played_so p (paces k p (i ∷ rest) s (n ∷ m)) ≡ over p (until k p (thread i) (label s i + n) n 0 s) (λ s'. paces k p rest s' m)
    label_slot =
        ap (played_so p) (slot_served (pace k p) (bound p) i rest s (n ∷ m) on)
        ∙ ap (λ b. over p (cond b (ran (slot_of (Err end.Cut) 0) s) (until k p (thread i) (label s i + n) n 0 s)) (λ s'. paces k p rest s' m)) (le-ltb (bound p s i) n le)

  -- l₁ by count and l₂ by label stand at the state s with the slots `rest` left, and the slot counts so far are l₁
  pub record Stand (A₁ A₂ : List ℕ → Answer) (rest : List ℕ) (s : State) (l₁ l₂ : List ℕ) : Type 0 where
    pub on₁ : (m : List ℕ) → A₁ (l₁ ++ m) ≡ counted l₁ (played_so p (rounds k p rest s m))
    pub on₂ : (m : List ℕ) → A₂ (l₂ ++ m) ≡ counted l₁ (played_so p (paces k p rest s m))
