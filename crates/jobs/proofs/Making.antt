-- What Load and Translate make of a session, and of a job.
use Rattle.std.proofs.Common.{◌≡◌, ℕ, ◌≤◌, Bool, true, false, cond, leb, List, Some, None, Ok, Err, Result, sym, refl, ap, ◌∙◌, subst, inl, inr, arith}
use Rattle.kinds.specs.declared.kind.Kind.{Ghosts}
use native.Mathlib.Bridge.{le_prop}
use Rattle.std.proofs.lemmas.Bool.{leb-true, and_parts}
use Rattle.kinds.specs.Meaning.{Meaning}
use Rattle.questions.specs.Question.{question}
use Rattle.records.specs.declared.refusal.LoadError.{LoadError}
use Rattle.records.specs.declared.refusal.Refusal.{Refusal}
use Rattle.records.specs.declared.refusal.Refusal.TheVariants.{Rounds}
use Rattle.tables.specs.declared.table.Table.{Table}
use Rattle.tables.specs.Program.{Program}
use Rattle.tables.specs.Tables.{view}
use Rattle.tables.specs.WellFormed.{WellFormed}
use Rattle.threads.specs.declared.machine.Machine.{Machine}
use Rattle.threads.specs.declared.point.Point.{Point}
use Rattle.threads.specs.Machines.{program, rounds_asked, rounds_after}
use Rattle.threads.specs.Points as threads
use Rattle.walks.specs.declared.walk.Walk.{Walk}
use Rattle.walks.specs.Tallies.{visited}
use Rattle.walks.specs.Walks.{Tied}
use Rattle.jobs.specs.declared.job.Job.{Job}
use Rattle.jobs.specs.declared.job.Stage.{Stage}
use Rattle.jobs.specs.declared.job.Stage.TheVariants.{Empty, Loaded, Translated}
use Rattle.jobs.specs.declared.session.Session.{Session}
use Rattle.reports.specs.Counts.{yes_or}
use Rattle.jobs.specs.Keeps.{Keeps, KeepsSession, HasSchedules, HasTranslation, threads_outcome}
use Rattle.jobs.specs.Models.{Model, empty, loaded, translated, few, rounds_no, load_next, translate_answer, translate_next}
use Rattle.jobs.specs.Sessions.{rounds_answer}
use Rattle.jobs.proofs.Standing.{apart, session_keeps, keeps_with}

few_false : (r : ℕ) (e : Refusal) → Err e ≡ rounds_asked r → (few r ≡ false) × (e ≡ Rounds)
few_false r e = decide (few r)
  where
    decide : (b : Bool) → Err e ≡ cond {A = Result (Unit {0}) Refusal} b (Ok tt) (Err Rounds) → (b ≡ false) × (e ≡ Rounds)
    decide true q = absurd (let z : ◌≡◌ {A = ℕ} 0 1 = cc in omega arith)
    decide false q = (refl, cc)

few_true : (r : ℕ) → Ok tt ≡ rounds_asked r → few r ≡ true
few_true r = decide (few r)
  where
    decide : (b : Bool) → Ok tt ≡ cond {A = Result (Unit {0}) Refusal} b (Ok tt) (Err Rounds) → b ≡ true
    decide true q = refl
    decide false q = absurd (let z : ◌≡◌ {A = ℕ} 0 1 = cc in omega arith)

module _ {V : Type 0} {G : Ghosts V} (k : Meaning) (s : Session V G) where
  abbrev with_machine : Machine V G → Session V G
  with_machine t = record { stage = s.stage; machine = t; survey = s.survey }

  abbrev with_table : Table → s.machine.rounds ≤ 8 → Machine V G
  with_table t few = record { table = t; rounds = s.machine.rounds; kind = s.machine.kind; few = few }

  pub load_refused : (t : Table) (le : s.machine.rounds ≤ 8) (f : List ℕ) (e : LoadError) → t ≡ s.machine.table → Err e ≡ question k f → (m : Model) → KeepsSession k s m → KeepsSession k (with_machine (with_table t le)) (load_next (question k f) f m)
  load_refused t le f e et q m h =
      subst (λ a. KeepsSession k (with_machine (with_table t le)) (load_next a f m)) q
      (subst (λ x. KeepsSession k (with_machine (with_table x le)) m) (sym et) (subst (λ x. KeepsSession k (with_machine (with_table s.machine.table x)) m) (le_prop s.machine.few le) h))

  pub session_refused : (t : Machine V G) (r : ℕ) (e : Refusal) → t ≡ s.machine → Err e ≡ rounds_asked r → (m : Model) → KeepsSession k s m → KeepsSession k (with_machine t) (translate_next m r)
  session_refused t r e et q empty h = h
  session_refused t r e et q (loaded p) h =
      let f = few_false r e q in
      subst (λ b. KeepsSession k (with_machine t) (cond b (translated p r 0 0) (loaded p))) (sym f.0) (subst (λ x. KeepsSession k (with_machine x) (loaded p)) (sym et) h)
  session_refused t r e et q (translated p n v u) h =
      let f = few_false r e q in
      subst (λ b. KeepsSession k (with_machine t) (cond b (translated p r 0 0) (translated p n v u))) (sym f.0) (subst (λ x. KeepsSession k (with_machine x) (translated p n v u)) (sym et) h)

  -- the session over r rounds, at the beginning of its walk
  abbrev begun : Machine V G → Walk Point → Session V G
  begun t w = record { stage = Translated; machine = t; survey = w }

  module _ (t : Machine V G) (r : ℕ) (w : Walk Point) (et : t.table ≡ s.machine.table) (er : t.rounds ≡ rounds_after r s.machine.rounds) (q : Ok tt ≡ rounds_asked r)
      (tied : Tied (threads_outcome k (begun t w)) (threads.Follows k t) w) (none : visited w.tally ≡ 0) where
    made : (p : Program) → program s.machine ≡ p → WellFormed k p → HasSchedules k (begun t w) p r 0
    made p ep x =
        let good = few_true r q in
        let parts = and_parts (leb 1 r) (leb r 8) good in
        record {
          stage = refl;
          program = ap view et ∙ ep;
          exists = x;
          rounds = er ∙ ap (λ b. cond b r s.machine.rounds) good;
          some = leb-true 1 r parts.0;
          few = leb-true r 8 parts.1;
          survey = tied;
          surveyed = none;
        }

    pub session_made : (s.stage ≡ Empty → ⊥) → (m : Model) → KeepsSession k s m → KeepsSession k (begun t w) (translate_next m r)
    session_made some empty h = absurd (some h)
    session_made some (loaded p) h = subst (λ b. KeepsSession k (begun t w) (cond b (translated p r 0 0) (loaded p))) (sym (few_true r q)) (made p h.program h.exists)
    session_made some (translated p n v u) h = subst (λ b. KeepsSession k (begun t w) (cond b (translated p r 0 0) (translated p n v u))) (sym (few_true r q)) (made p h.program h.exists)

-- what a session answers to Translate, by its stage and by its model
module _ {V : Type 0} {G : Ghosts V} (k : Meaning) (s : Session V G) where
  asks : (b : Bool) → cond {A = Result (Unit {0}) Refusal} b (Ok tt) (Err Rounds) ≡ yes_or (cond b None (Some Rounds))
  asks true = refl
  asks false = refl

  by_rounds : (st : Stage) (r : ℕ) → (st ≡ Empty → ⊥) → rounds_answer st r ≡ yes_or (rounds_no r)
  by_rounds Empty r some = absurd (some refl)
  by_rounds Loaded r some = asks (few r)
  by_rounds Translated r some = asks (few r)

  pub rounds_answered : (r : ℕ) (m : Model) → KeepsSession k s m → rounds_answer s.stage r ≡ translate_answer m r
  rounds_answered r empty h = ap (λ st. rounds_answer st r) h
  rounds_answered r (loaded p) h = by_rounds s.stage r (λ e. apart s.stage Loaded (inl (e, refl)) h.stage)
  rounds_answered r (translated p n v u) h = by_rounds s.stage r (λ e. apart s.stage Translated (inr (inl (e, refl))) h.stage)

module _ {V : Type 0} {G : Ghosts V} (k : Meaning) (j : Job V G) where
  stays : (e : Refusal) (b : Bool) (m m' : Model) → Err e ≡ yes_or (cond b None (Some Rounds)) → cond b m' m ≡ m
  stays e true m m' q = absurd (let z : ◌≡◌ {A = ℕ} 0 1 = cc in omega arith)
  stays e false m m' q = refl

  -- Translate is refused: the model stays
  refused_same : (e : Refusal) (m : Model) (r : ℕ) → Err e ≡ translate_answer m r → translate_next m r ≡ m
  refused_same e empty r = λ q. refl
  refused_same e (loaded p) r = stays e (few r) (loaded p) (translated p r 0 0)
  refused_same e (translated p n v u) r = stays e (few r) (translated p n v u) (translated p r 0 0)

  pub job_refused : (x : Session V G) (e : Refusal) (m : Model) (r : ℕ) → Err e ≡ translate_answer m r → Keeps k j m → KeepsSession k x (translate_next m r) → Keeps k (record { session = x; sequential = j.sequential; walk = j.walk }) (translate_next m r)
  job_refused x e m r q h g =
      let same = refused_same e m r q in
      subst (Keeps k (record { session = x; sequential = j.sequential; walk = j.walk })) (sym same) (keeps_with k j x m h (subst (KeepsSession k x) same g))

-- Translate is answered: whatever session is translated so, the job is
module _ {V : Type 0} {G : Ghosts V} (k : Meaning) (x : Session V G) (j : Job V G) (make : (p : Program) (r u : ℕ) → HasSchedules k x p r u → HasTranslation k j p r 0 u) where
  goes : (p : Program) (r : ℕ) (b : Bool) (m : Model) → Ok tt ≡ yes_or (cond b None (Some Rounds)) → KeepsSession k x (cond b (translated p r 0 0) m) → Keeps k j (cond b (translated p r 0 0) m)
  goes p r true m q h = make p r 0 h
  goes p r false m q h = absurd (let z : ◌≡◌ {A = ℕ} 0 1 = cc in omega arith)

  pub job_made : (m : Model) (r : ℕ) → Ok tt ≡ translate_answer m r → KeepsSession k x (translate_next m r) → Keeps k j (translate_next m r)
  job_made empty r = λ q h. absurd (let z : ◌≡◌ {A = ℕ} 0 1 = cc in omega arith)
  job_made (loaded p) r = goes p r (few r) (loaded p)
  job_made (translated p n v u) r = goes p r (few r) (translated p n v u)

-- Translate on a job, from its machine alone: refused, which leaves what the model says, or answered, and then any job x that
-- has the translation is as the next model says. `Job::translate` has both by its session, from `job_refused` and `job_made`.
module _ {V : Type 0} {G : Ghosts V} (k : Meaning) (j : Job V G) where
  abbrev with_threads : Machine V G → Job V G
  with_threads t = record { session = with_machine k j.session t; sequential = j.sequential; walk = j.walk }

  -- behind a stage that has a program, the answer is that to the rounds
  past_empty : (st : Stage) (r : ℕ) → (st ≡ Empty → ⊥) → rounds_asked r ≡ rounds_answer st r
  past_empty Empty r some = absurd (some refl)
  past_empty Loaded r some = refl
  past_empty Translated r some = refl

  answered_so : (a : Result (Unit {0}) Refusal) (r : ℕ) → a ≡ rounds_asked r → (j.session.stage ≡ Empty → ⊥) → (m : Model) → Keeps k j m → a ≡ translate_answer m r
  answered_so a r q some m h = q ∙ past_empty j.session.stage r some ∙ rounds_answered k j.session r m (session_keeps k j m h)

  pub translate_refused : (t : Machine V G) (r : ℕ) (e : Refusal) → t ≡ j.session.machine → Err e ≡ rounds_asked r → (j.session.stage ≡ Empty → ⊥) → (m : Model) → Keeps k j m → (Err e ≡ translate_answer m r) × Keeps k (with_threads t) (translate_next m r)
  translate_refused t r e et q some m h =
      let answer = answered_so (Err e) r q some m h in
      (answer, job_refused k j (with_machine k j.session t) e m r answer h (session_refused k j.session t r e et q m (session_keeps k j m h)))

  -- the translation of the program that there is, over r rounds
  made_of : (t : Machine V G) (r : ℕ) (x : Job V G) → t.table ≡ j.session.machine.table → t.rounds ≡ rounds_after r j.session.machine.rounds → few r ≡ true → (WellFormed k (program t) → 1 ≤ t.rounds → HasTranslation k x (program t) t.rounds 0 0)
      → (p : Program) → program j.session.machine ≡ p → WellFormed k p → HasTranslation k x p r 0 0
  made_of t r x et er good make p ep w =
      let same : program t ≡ p = ap view et ∙ ep in
      let rounds : t.rounds ≡ r = er ∙ ap (λ b. cond b r j.session.machine.rounds) good in
      let some : 1 ≤ r = leb-true 1 r (and_parts (leb 1 r) (leb r 8) good).0 in
      subst (λ q. HasTranslation k x q r 0 0) same (subst (λ n. HasTranslation k x (program t) n 0 0) rounds (make (subst (WellFormed k) (sym same) w) (omega arith)))

  keeps_made : (t : Machine V G) (r : ℕ) (x : Job V G) → (t.table ≡ j.session.machine.table) × (t.rounds ≡ rounds_after r j.session.machine.rounds) → few r ≡ true → (j.session.stage ≡ Empty → ⊥)
      → (WellFormed k (program t) → 1 ≤ t.rounds → HasTranslation k x (program t) t.rounds 0 0) → (m : Model) → Keeps k j m → Keeps k x (translate_next m r)
  keeps_made t r x e good some make empty h = absurd (some h)
  keeps_made t r x e good some make (loaded p) h = subst (λ b. Keeps k x (cond b (translated p r 0 0) (loaded p))) (sym good) (made_of t r x e.0 e.1 good make p h.program h.exists)
  keeps_made t r x e good some make (translated p n v u) h = subst (λ b. Keeps k x (cond b (translated p r 0 0) (translated p n v u))) (sym good) (made_of t r x e.0 e.1 good make p h.session.program h.session.exists)

  pub translate_made : (t : Machine V G) (r : ℕ) (x : Job V G) → (t.table ≡ j.session.machine.table) × (t.rounds ≡ rounds_after r j.session.machine.rounds) → Ok tt ≡ rounds_asked r → (j.session.stage ≡ Empty → ⊥)
      → (WellFormed k (program t) → 1 ≤ t.rounds → HasTranslation k x (program t) t.rounds 0 0) → (m : Model) → Keeps k j m → (Ok tt ≡ translate_answer m r) × Keeps k x (translate_next m r)
  translate_made t r x e q some make m h = (answered_so (Ok tt) r q some m h, keeps_made t r x e (few_true r q) some make m h)
