-- Counts agree: behind any list of calls, what Walk and Survey count is what there is.
use Rattle.std.proofs.Common.{◌≡◌, ℕ, ◌<◌, ◌≤◌, true, cond, List, [], take, Some, None, Option, sym, refl, ap, ◌∙◌, subst, inl, inr, ⊎_elim, arith}
use Rattle.std.specs.List.{ContainsAt as Has}
use Rattle.std.proofs.ByRecursion.{All-get_or}
use Rattle.std.proofs.lemmas.Bool.{cases_lt, false≢true, lt-ltb}
use Rattle.agreement.specs.Agreement.{LeafOf, NotAfter, OneToOne, Agrees, scheduled, guessed, schedule}
use Rattle.agreement.proofs.Agreeing.{machines_agree}
use Rattle.agreement.proofs.Orders.{ascending_cases, never, one_way}
use Rattle.guesses.specs.Runners.{drive_lawful}
use Rattle.kinds.specs.Meaning.{Meaning}
use Rattle.tables.specs.Program.{Program}
use Rattle.tables.specs.WellFormed.{WellFormed}
use Rattle.threads.specs.Runners.{play_lawful}
use Rattle.walks.specs.declared.outcome.Ending.{Ending}
use Rattle.walks.specs.declared.outcome.Ending.TheVariants.{Failed, Cut, Full}
use Rattle.walks.specs.declared.walk.Answer.TheVariants.{Done, Spent}
use Rattle.walks.specs.Leaves.{Leaf, Before, Complete, leaves}
use Rattle.walks.specs.Tallies.{Failing, fails, fills}
use Rattle.walks.specs.Walks.{answer_at}
use Rattle.walks.proofs.Rows.{complete}
use Rattle.reports.specs.Counts.{total, counts_at}
use Rattle.jobs.specs.Models.{Model, empty, loaded, translated, after, latest_found}
use Rattle.jobs.specs.Promises.{Number, FoundSoFar, Finished, Promised, Good, CountsAgree}
use Rattle.jobs.proofs.Enumerating.{number_same, number_mapped, number_first, number_all, ends_as}
use Rattle.jobs.proofs.Latest.{Last, latest_last, none_failed, up_to_latest, among_first}
use Rattle.jobs.proofs.Sounding.{Sound, after_sound}

only_fails : (x : Ending) → fails x ≡ true → x ≡ Failed
only_fails Failed h = refl
only_fails Cut h = absurd (false≢true h)
only_fails Full h = absurd (false≢true h)

only_fills : (x : Ending) → fills x ≡ true → x ≡ Full
only_fills Failed h = absurd (false≢true h)
only_fills Cut h = absurd (false≢true h)
only_fills Full h = refl

-- a walk that answers Done has visited all leaves
done_all : (v n : ℕ) → answer_at v n ≡ Done → n ≤ v
done_all v n e =
    ⊎_elim (λ (lt : v < n). absurd (let z : Spent ≡ Done = sym (ap (λ b. cond b Spent Done) (lt-ltb v n lt)) ∙ e in (let w : ◌≡◌ {A = ℕ} 0 1 = cc in omega arith)))
    (λ (le : n ≤ v). le)
    (cases_lt v n)

module _ (k : Meaning) (p : Program) (r : ℕ) (w : WellFormed k p) (some : 1 ≤ r) (most : r ≤ 8) where
  agree : Agrees k p r
  agree = machines_agree k p r w some most

  abbrev f : List ℕ → List ℕ
  f = schedule k p r

  all_guessed : Complete (guessed k p r) (leaves (guessed k p r))
  all_guessed = complete (guessed k p r) (drive_lawful k p w r some most)

  all_scheduled : Complete (scheduled k p r) (leaves (scheduled k p r))
  all_scheduled = complete (scheduled k p r) (play_lawful k p w r some most)

  survey_done : (u : ℕ) → total (scheduled k p r) ≤ u → Finished k p r (counts_at (scheduled k p r) u)
  survey_done u le = record {
    failed = number_all (scheduled k p r) Failed fails refl only_fails all_scheduled u le;
    full = number_all (scheduled k p r) Full fills refl only_fills all_scheduled u le;
  }

  -- all leaves that end so, carried from the guess lists to the schedules
  carried : (e : Ending) → OneToOne k p r e → ((g h : List ℕ) → LeafOf e (guessed k p r) g → LeafOf e (guessed k p r) h → Before g h → Before (f g) (f h))
      → (n : ℕ) → Number (LeafOf e (guessed k p r)) n → Number (LeafOf e (scheduled k p r)) n
  carried e o order n h = number_mapped (LeafOf e (guessed k p r)) (LeafOf e (scheduled k p r)) f o.made o.every order n h

  walk_done : (v : ℕ) → total (guessed k p r) ≤ v → Finished k p r (counts_at (guessed k p r) v)
  walk_done v le = record {
    failed = carried Failed agree.failing (λ g h a b. agree.order g h (inl a) (inl b)) (counts_at (guessed k p r) v).failed (number_all (guessed k p r) Failed fails refl only_fails all_guessed v le);
    full = carried Full agree.full (λ g h a b. agree.order g h (inr a) (inr b)) (counts_at (guessed k p r) v).full (number_all (guessed k p r) Full fills refl only_fills all_guessed v le);
  }

  abbrev Guesses : List ℕ → Type 0
  Guesses = LeafOf Failed (guessed k p r)

  abbrev Schedules : List ℕ → Type 0
  Schedules = LeafOf Failed (scheduled k p r)

  -- one that does not come after g has a schedule that does not come after that of g
  not_after : (g x : List ℕ) → Guesses g → Guesses x → NotAfter x g → NotAfter (f x) (f g)
  not_after g x a b later o =
      ⊎_elim (λ (e : x ≡ g). never (f g) (subst (λ y. Before (f g) (f y)) e o))
      (⊎_elim
      (λ (lt : Before x g). one_way (f x) (f g) (agree.order x g (inl b) (inl a) lt) o)
      (λ (gt : Before g x). later gt))
      (ascending_cases (leaves (guessed k p r)) x g all_guessed.order (all_guessed.every x b.0) (all_guessed.every g a.0))

  -- those that do not come after a failing list, carried so
  carried_up_to : (g : List ℕ) → Guesses g → (n : ℕ) → Number (λ x. Guesses x × NotAfter x g) n → Number (λ s. Schedules s × NotAfter s (f g)) n
  carried_up_to g a n h =
      number_mapped (λ x. Guesses x × NotAfter x g) (λ s. Schedules s × NotAfter s (f g)) f
      (λ x b. (agree.failing.made x b.0, not_after g x a b.0 b.1))
      (λ y b.
      let x = agree.failing.every y b.0 in
      (x.0, (x.1, λ o. b.1 (subst (Before (f g)) x.2 (agree.order g x.0 (inl a) (inl x.1) o))), x.2))
      (λ x y b c. agree.order x y (inl b.0) (inl c.0))
      n h

  -- the latest failing list is a failing leaf
  last_leaf : (v : ℕ) → v ≤ total (guessed k p r) → (g : List ℕ) → Last (guessed k p r) (leaves (guessed k p r)) v g → Guesses g
  last_leaf v le g last =
      let out = guessed k p r in
      (subst (Leaf out) last.is (All-get_or (Leaf out) (leaves out) last.place [] (omega (arith, last.before)) all_guessed.only), ends_as out Failed fails refl only_fails (out g) last.fails)

  -- the failures among the first v leaves
  so_far : (v : ℕ) → v ≤ total (guessed k p r) → (o : Option Failing) → latest_found k p r v ≡ o → FoundSoFar k p r (counts_at (guessed k p r) v).failed o
  so_far v le None e = none_failed (guessed k p r) v e
  so_far v le (Some x) e =
      let out = guessed k p r in
      let g = x.numbers in
      let last = latest_last out (leaves out) v x e in
      carried_up_to g (last_leaf v le g last) (counts_at out v).failed
      (number_same (λ s. Guesses s × Has (take v (leaves out)) s) (λ s. Guesses s × NotAfter s g) (counts_at out v).failed
      (up_to_latest out v all_guessed le g last) (among_first out v all_guessed le g last)
      (number_first out Failed fails refl only_fails all_guessed v))

  promised : (v u : ℕ) → v ≤ total (guessed k p r) → Promised k p r v u
  promised v u le = record {
    found_so_far = so_far v le (latest_found k p r v) refl;
    walk_finished = λ e. walk_done v (done_all v (total (guessed k p r)) e);
    survey_finished = λ e. survey_done u (done_all u (total (scheduled k p r)) e);
    failing = agree.failing;
    full = agree.full;
  }

good : (k : Meaning) (m : Model) → Sound k m → Good k m
good k empty h = tt
good k (loaded p) h = tt
good k (translated p r v u) h = promised k p r h.exists h.some h.few v u h.walked

pub counts_agree : CountsAgree
counts_agree k law cs g = good k (after k empty cs) (after_sound k empty cs g tt)
