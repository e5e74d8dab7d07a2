-- The rules of slots make a runner: its laws, for any way to serve a slot and any bound.
use Rattle.std.specs.Prelude.{◌≡◌, ℕ, ◌<◌, ◌≤◌, true, false, cond, List, [], ◌∷◌, ◌++◌, length, ◌≢◌, Ok, Err}
use Rattle.std.proofs.Math.Path.{refl, ap}
use Rattle.std.proofs.Common.{sym, subst, ◌∙◌, ⊎_elim, arith}
use Rattle.std.proofs.lemmas.Bool.{cases_Bool}
use Rattle.states.specs.declared.state.State.{State}
use Rattle.states.specs.States.{created}
use Rattle.walks.specs.declared.outcome.Ending.{Ending}
use Rattle.walks.specs.declared.outcome.Ending.TheVariants as ending
use Rattle.walks.specs.declared.outcome.Outcome.{Outcome}
use Rattle.walks.specs.declared.outcome.Outcome.TheVariants.{Open, Ended}
use Rattle.walks.specs.Outcomes.{IsOpen}
use Rattle.walks.specs.Runs.{Lawful}
use Rattle.reports.specs.Stops.{End}
use Rattle.reports.specs.declared.stop.Stop.TheVariants.{Failed, Cut}
use Rattle.threads.specs.Plays.{closed, served_by, rounds_by}
use Rattle.threads.specs.Slots.{Ran}

-- two endings, or an ending and an open run, are never the same
apart : {X : Type 0} (e : Ending) (b : ℕ) → Ended e ≡ Open b → X
apart e b q = absurd (let z : ◌≡◌ {A = ℕ} 0 1 = cc in omega arith)

module _ (way : ℕ → State → ℕ → Ran) (top : State → ℕ → ℕ) where
  abbrev pub out : List ℕ → State → List ℕ → Outcome
  out sl s l = (rounds_by way top sl s l).outcome

  -- a slot of a thread that is created with its number: `more` is what follows
  abbrev after_slot : List ℕ → List ℕ → Ran → End → Outcome
  after_slot rest l r e = (closed r (λ s. rounds_by way top rest s l) e).outcome

  out_over : (s : State) (l : List ℕ) → out [] s l ≡ Ended ending.Full
  unfolding rounds_by
  out_over s l = refl

  out_skip : (i : ℕ) (rest : List ℕ) (s : State) (l : List ℕ) → created s i ≡ false → out (i ∷ rest) s l ≡ out rest s l
  unfolding rounds_by
  out_skip i rest s l e = ap (λ b. (cond b (served_by way top i s (rounds_by way top rest) l) (rounds_by way top rest s l)).outcome) e

  pub out_ask : (i : ℕ) (rest : List ℕ) (s : State) → created s i ≡ true → out (i ∷ rest) s [] ≡ Open (top s i)
  unfolding rounds_by
  out_ask i rest s e = ap (λ b. (cond b (served_by way top i s (rounds_by way top rest) []) (rounds_by way top rest s [])).outcome) e

  out_number : (i : ℕ) (rest : List ℕ) (s : State) (n : ℕ) (l : List ℕ) → created s i ≡ true → out (i ∷ rest) s (n ∷ l) ≡ after_slot rest l (way i s n) (way i s n).slot.end
  unfolding rounds_by
  out_number i rest s n l e = ap (λ b. (cond b (served_by way top i s (rounds_by way top rest) (n ∷ l)) (rounds_by way top rest s (n ∷ l))).outcome) e

  -- A fact of each run: behind the last slot, at one that does not exist, at one that has no number, and at one that has.
  module _ (P : List ℕ → State → List ℕ → Type 0)
      (none : (s : State) (l : List ℕ) → P [] s l)
      (skip : (i : ℕ) (rest : List ℕ) (s : State) (l : List ℕ) → created s i ≡ false → P rest s l → P (i ∷ rest) s l)
      (ask : (i : ℕ) (rest : List ℕ) (s : State) → created s i ≡ true → P (i ∷ rest) s [])
      (number : (i : ℕ) (rest : List ℕ) (s : State) (n : ℕ) (l : List ℕ) → created s i ≡ true → P rest (way i s n).state l → P (i ∷ rest) s (n ∷ l)) where
    along : (sl : List ℕ) (s : State) (l : List ℕ) → P sl s l
    along [] s l = none s l
    along (i ∷ rest) s l =
        ⊎_elim (λ (e : created s i ≡ true). at e l (λ s' m. along rest s' m)) (λ (e : created s i ≡ false). skip i rest s l e (along rest s l)) (cases_Bool (created s i))
      where
        at : created s i ≡ true → (l : List ℕ) → ((s' : State) (m : List ℕ) → P rest s' m) → P (i ∷ rest) s l
        at e [] more = ask i rest s e
        at e (n ∷ l) more = number i rest s n l e (more (way i s n).state l)

  not_open : (o : Outcome) (b : ℕ) → o ≡ Open b → (IsOpen o → ⊥) → ⊥
  not_open o b e h = h (subst IsOpen (sym e) tt)

  keeps_slot : (rest l m : List ℕ) (r : Ran) (e : End) → (IsOpen (after_slot rest l r e) → ⊥) → ((IsOpen (out rest r.state l) → ⊥) → out rest r.state (l ++ m) ≡ out rest r.state l) → after_slot rest (l ++ m) r e ≡ after_slot rest l r e
  keeps_slot rest l m r (Ok tt) h more = more h
  keeps_slot rest l m r (Err Failed) h more = refl
  keeps_slot rest l m r (Err Cut) h more = refl

  -- a list that ended keeps its outcome
  keeps : (m sl : List ℕ) (s : State) (l : List ℕ) → (IsOpen (out sl s l) → ⊥) → out sl s (l ++ m) ≡ out sl s l
  keeps m =
      along (λ sl s l. (IsOpen (out sl s l) → ⊥) → out sl s (l ++ m) ≡ out sl s l)
      (λ s l h. out_over s (l ++ m) ∙ sym (out_over s l))
      (λ i rest s l e more h. out_skip i rest s (l ++ m) e ∙ more (λ x. h (subst IsOpen (sym (out_skip i rest s l e)) x)) ∙ sym (out_skip i rest s l e))
      (λ i rest s e h. absurd (not_open (out (i ∷ rest) s []) (top s i) (out_ask i rest s e) h))
      (λ i rest s n l e more h. out_number i rest s n (l ++ m) e ∙ keeps_slot rest l m (way i s n) (way i s n).slot.end (λ x. h (subst IsOpen (sym (out_number i rest s n l e)) x)) more ∙ sym (out_number i rest s n l e))

  -- an open list: the slot that it waits at, and that what follows it is what follows there
  record At (sl : List ℕ) (s : State) (l : List ℕ) (b : ℕ) : Type 0 where
    thread : ℕ
    rest : List ℕ
    state : State
    exists : created state thread ≡ true
    bound : top state thread ≡ b
    on : (m : List ℕ) → out sl s (l ++ m) ≡ out (thread ∷ rest) state m

  number_at : (i : ℕ) (rest : List ℕ) (s : State) (n : ℕ) (l : List ℕ) (b : ℕ) → (out rest (way i s n).state l ≡ Open b → At rest (way i s n).state l b) → (e : End) → ((m : List ℕ) → out (i ∷ rest) s (n ∷ m) ≡ after_slot rest m (way i s n) e) → out (i ∷ rest) s (n ∷ l) ≡ Open b → At (i ∷ rest) s (n ∷ l) b
  number_at i rest s n l b more (Ok tt) on o =
      let a = more (sym (on l) ∙ o) in
      record { thread = a.thread; rest = a.rest; state = a.state; exists = a.exists; bound = a.bound; on = λ m. on (l ++ m) ∙ a.on m }
  number_at i rest s n l b more (Err Failed) on o = apart ending.Failed b (sym (on l) ∙ o)
  number_at i rest s n l b more (Err Cut) on o = apart ending.Cut b (sym (on l) ∙ o)

  opened : (b : ℕ) (sl : List ℕ) (s : State) (l : List ℕ) → out sl s l ≡ Open b → At sl s l b
  opened b =
      along (λ sl s l. out sl s l ≡ Open b → At sl s l b)
      (λ s l o. apart ending.Full b (sym (out_over s l) ∙ o))
      (λ i rest s l e more o.
      let a = more (sym (out_skip i rest s l e) ∙ o) in
      record { thread = a.thread; rest = a.rest; state = a.state; exists = a.exists; bound = a.bound; on = λ m. out_skip i rest s (l ++ m) e ∙ a.on m })
      (λ i rest s e o.
      let x : Open (top s i) ≡ Open b = sym (out_ask i rest s e) ∙ o in
      record { thread = i; rest = rest; state = s; exists = e; bound = cc; on = λ m. refl })
      (λ i rest s n l e more. number_at i rest s n l b more (way i s n).slot.end (λ m. out_number i rest s n m e))

  -- with no number left a run is open or full
  never_fails : (sl : List ℕ) (s : State) → out sl s [] ≢ Ended ending.Failed
  never_fails [] s o = let x : Ended ending.Full ≡ Ended ending.Failed = sym (out_over s []) ∙ o in (let z : ◌≡◌ {A = ℕ} 0 1 = cc in omega arith)
  never_fails (i ∷ rest) s o =
      ⊎_elim (λ (e : created s i ≡ true). apart ending.Failed (top s i) (sym o ∙ out_ask i rest s e)) (λ (e : created s i ≡ false). never_fails rest s (sym (out_skip i rest s [] e) ∙ o)) (cases_Bool (created s i))

  failed_end : (rest : List ℕ) (r : Ran) (e : End) → after_slot rest [] r e ≡ Ended ending.Failed → e ≡ (Err Failed)
  failed_end rest r (Ok tt) o = absurd (never_fails rest r.state o)
  failed_end rest r (Err Failed) o = refl
  failed_end rest r (Err Cut) o = absurd (let z : ◌≡◌ {A = ℕ} 0 1 = cc in omega arith)

  short_slot : (rest l : List ℕ) (r : Ran) (e : End) → (IsOpen (out rest r.state l) → ⊥) → IsOpen (after_slot rest l r e) → ⊥
  short_slot rest l r (Ok tt) h o = h o
  short_slot rest l r (Err Failed) h o = o
  short_slot rest l r (Err Cut) h o = o

  short : (sl : List ℕ) (s : State) (l : List ℕ) → length sl ≤ length l → IsOpen (out sl s l) → ⊥
  short =
      along (λ sl s l. length sl ≤ length l → IsOpen (out sl s l) → ⊥)
      (λ s l le o. subst IsOpen (out_over s l) o)
      (λ i rest s l e more le o. more (omega arith) (subst IsOpen (out_skip i rest s l e) o))
      (λ i rest s e le o. omega arith)
      (λ i rest s n l e more le o. short_slot rest l (way i s n) (way i s n).slot.end (more (omega arith)) (subst IsOpen (out_number i rest s n l e) o))

  module _ (small : (s : State) (i : ℕ) → top s i ≤ 255)
      (over : (i : ℕ) (s : State) (n : ℕ) → top s i < n → (way i s n).slot.end ≡ (Err Cut))
      (up : (i : ℕ) (s : State) (n m : ℕ) → n ≤ m → m ≤ top s i → (way i s n).slot.end ≡ (Err Failed) → (way i s m).slot.end ≡ (Err Failed))
      (sl : List ℕ) (s : State) (few : length sl ≤ 64) (start : IsOpen (out sl s [])) where
    last_number : (l : List ℕ) (b n : ℕ) (a : At sl s l b) → out sl s (l ++ n ∷ []) ≡ after_slot a.rest [] (way a.thread a.state n) (way a.thread a.state n).slot.end
    last_number l b n a = a.on (n ∷ []) ∙ out_number a.thread a.rest a.state n [] a.exists

    cuts : (l : List ℕ) (b n : ℕ) → out sl s l ≡ Open b → b < n → out sl s (l ++ n ∷ []) ≡ Ended ending.Cut
    cuts l b n o h =
        let a = opened b sl s l o in
        last_number l b n a ∙ ap (after_slot a.rest [] (way a.thread a.state n)) (over a.thread a.state n (omega (arith, a.bound)))

    fails_on : (l : List ℕ) (b n m : ℕ) → out sl s l ≡ Open b → out sl s (l ++ n ∷ []) ≡ Ended ending.Failed → n ≤ m → m ≤ b → out sl s (l ++ m ∷ []) ≡ Ended ending.Failed
    fails_on l b n m o f le lb =
        let a = opened b sl s l o in
        let e = failed_end a.rest (way a.thread a.state n) (way a.thread a.state n).slot.end (sym (last_number l b n a) ∙ f) in
        last_number l b m a ∙ ap (after_slot a.rest [] (way a.thread a.state m)) (up a.thread a.state n m le (omega (arith, a.bound)) e)

    pub lawful_by : Lawful (out sl s)
    lawful_by = record {
      ended = λ l m h. keeps m sl s l h;
      bounded = λ l b o. (let a = opened b sl s l o in omega (arith, a.bound, small a.state a.thread));
      above = cuts;
      fails = fails_on;
      start = start;
      short = λ l e. short sl s l (omega arith);
    }
