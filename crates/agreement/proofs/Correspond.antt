-- The leaves of a run by count that fail or are full, and those of a run by label, correspond one to one and in order.
use Rattle.std.proofs.Common.{◌≡◌, ℕ, suc, ◌<◌, true, false, List, [], ◌∷◌, ◌++◌, sym, refl, ap, ◌∙◌, subst, ⊎_elim, arith}
use Rattle.std.specs.List.{AllByRecursion}
use Rattle.std.proofs.lemmas.List.{append-nil}
use Rattle.std.proofs.lemmas.Bool.{cases_Bool}
use Rattle.kinds.specs.Meaning.{Meaning}
use Rattle.states.specs.declared.state.State.{State}
use Rattle.states.specs.States.{created}
use Rattle.tables.specs.Program.{Program}
use Rattle.tables.specs.WellFormed.{WellFormed}
use Rattle.walks.specs.declared.outcome.Ending.TheVariants.{Full}
use Rattle.walks.specs.declared.outcome.Outcome.TheVariants.{Open, Ended}
use Rattle.walks.specs.Leaves.{scan, leaves}
use Rattle.threads.specs.Plays.{Played, serve, bound}
use Rattle.guesses.specs.Answers.{Answer, played_so}
use Rattle.guesses.specs.Paces.{pace}
use Rattle.agreement.proofs.Steps.{width}
use Rattle.agreement.proofs.Pairs.{Rows, Agree, agree_leaves}
use Rattle.guesses.specs.Rules.{slot_skipped, slot_served, none_full}
use Rattle.agreement.proofs.Stands.{Same, Stand, counted, count_slot, label_slot}
use Rattle.agreement.proofs.Traces.{slot}

module _ (k : Meaning) (p : Program) (w : WellFormed k p) (A₁ A₂ : List ℕ → Answer) where
  -- the lists stand at one state with the same slots left, all of threads that it has
  pub record Meet (l₁ l₂ : List ℕ) : Type 0 where
    pub slots : List ℕ
    pub state : State
    pub known : AllByRecursion (λ i. i < width state) slots
    pub stand : Stand k p A₁ A₂ slots state l₁ l₂

  abbrev pub Fit : Rows → Rows → Type 0
  Fit = Agree (Same A₁ A₂) (λ l. (A₁ l).outcome) (λ l. (A₂ l).outcome)

  module _ (below₁ below₂ : List ℕ → ℕ → Rows)
      (deep : (m₁ m₂ : List ℕ) (b : ℕ) → Meet m₁ m₂ → (A₁ m₁).outcome ≡ Open b → (A₂ m₂).outcome ≡ Open b → Fit (below₁ m₁ b) (below₂ m₂ b))
      (l₁ l₂ : List ℕ) (b : ℕ) (o₁ : (A₁ l₁).outcome ≡ Open b) where
    abbrev Goal : ℕ → Type 0
    Goal n = Fit (scan (λ l. (A₁ l).outcome) below₁ l₁ (suc n) 0) (scan (λ l. (A₂ l).outcome) below₂ l₂ (suc n) 0)

    alone : A₁ l₁ ≡ A₁ (l₁ ++ [])
    alone = ap A₁ (sym (append-nil l₁))

    -- at a slot that exists
    grow_slot : (i : ℕ) (rest : List ℕ) (s : State) → i < width s → AllByRecursion (λ i. i < width s) rest → Stand k p A₁ A₂ (i ∷ rest) s l₁ l₂ → created s i ≡ true → Goal b
    grow_slot i rest s has all stand on =
        let same : Open (bound p s i) ≡ Open b =
        sym (ap (λ (a : Answer). a.outcome) (alone ∙ stand.on₁ [] ∙ ap (λ r. counted l₁ (played_so p r)) (slot_served (serve k p) (bound p) i rest s [] on))) ∙ o₁ in
        let top : bound p s i ≡ b = cc in
        subst Goal top
        (slot k p w A₁ A₂ below₁ below₂ i rest s l₁ l₂ has
        (λ n m le. stand.on₁ (n ∷ m) ∙ ap (counted l₁) (count_slot k p i rest s n m on le))
        (λ g m le. stand.on₂ (g ∷ m) ∙ ap (counted l₁) (label_slot k p i rest s g m on le))
        (λ s' m₁ m₂ c wide st. deep m₁ m₂ c (record { slots = rest; state = s'; known = subst (λ n. AllByRecursion (λ i. i < n) rest) (sym wide) all; stand = st })))

    grow : (slots : List ℕ) (s : State) → AllByRecursion (λ i. i < width s) slots → Stand k p A₁ A₂ slots s l₁ l₂ → Goal b
    grow [] s known stand =
        let full : Ended Full ≡ Open b = sym (ap (λ (r : Played). r.outcome) (none_full (serve k p) (bound p) s [])) ∙ sym (ap (λ (a : Answer). a.outcome) (alone ∙ stand.on₁ [])) ∙ o₁ in
        absurd (let z : ◌≡◌ {A = ℕ} 0 1 = cc in omega arith)
    grow (i ∷ rest) s known stand =
        ⊎_elim
        (λ (e : created s i ≡ true). grow_slot i rest s known.0 known.1 stand e)
        (λ (e : created s i ≡ false). grow rest s known.1 (record {
          on₁ = λ m. stand.on₁ m ∙ ap (λ r. counted l₁ (played_so p r)) (slot_skipped (serve k p) (bound p) i rest s m e);
          on₂ = λ m. stand.on₂ m ∙ ap (λ r. counted l₁ (played_so p r)) (slot_skipped (pace k p) (bound p) i rest s m e);
        }))
        (cases_Bool (created s i))

  pub leaves_fit : Meet [] [] → (A₁ []).outcome ≡ (A₂ []).outcome → Fit (leaves (λ l. (A₁ l).outcome)) (leaves (λ l. (A₂ l).outcome))
  leaves_fit meet e =
      agree_leaves (Same A₁ A₂) (λ l. (A₁ l).outcome) (λ l. (A₂ l).outcome) Meet
      (λ below₁ below₂ deep l₁ l₂ b m o₁ o₂. grow below₁ below₂ deep l₁ l₂ b o₁ m.slots m.state m.known m.stand)
      (A₂ []).outcome e refl meet
