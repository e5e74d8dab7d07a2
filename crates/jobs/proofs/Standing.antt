-- What a translated session's and job's machines come to, and how Walk and Survey go on.
use Rattle.std.proofs.Common.{◌≡◌, ℕ, ◌⊎◌, Ok, Err, Result, sym, refl, ap, ◌∙◌, subst, ap₂, inl, inr, arith}
use Rattle.kinds.specs.declared.kind.Kind.{Ghosts}
use mathlib.Core.Path.{fun_ext}
use Rattle.agreement.specs.Agreement.{scheduled, guessed}
use Rattle.kinds.specs.Meaning.{Meaning}
use Rattle.records.specs.declared.refusal.Refusal.{Refusal}
use Rattle.guesses.specs.Points as guesses
use Rattle.sequences.specs.declared.point.SeqPoint.{SeqPoint}
use Rattle.sequences.specs.Drives.{Driven}
use Rattle.sequences.proofs.Translated.{drives_translated}
use Rattle.tables.specs.Program.{Program}
use Rattle.tables.specs.WellFormed.{WellFormed}
use Rattle.threads.specs.declared.point.Point.{Point}
use Rattle.threads.specs.Points as threads
use Rattle.walks.specs.declared.walk.Walk.{Walk}
use Rattle.walks.specs.Walks.{Tied}
use Rattle.walks.specs.declared.counts.Counts.{Counts}
use Rattle.jobs.specs.declared.job.Job.{Job}
use Rattle.jobs.specs.declared.job.Stage.{Stage}
use Rattle.jobs.specs.declared.job.Stage.TheVariants.{Empty, Loaded, Translated}
use Rattle.jobs.specs.declared.session.Session.{Session}
use Rattle.reports.specs.Counts.{over, limit_no, walk_answer, walk_next, Walked, Went}
use Rattle.walks.specs.Tallies.{visited}
use Rattle.jobs.specs.Keeps.{Keeps, KeepsSession, HasSchedules, HasTranslation, threads_outcome, sequential_outcome}
use Rattle.jobs.specs.Models.{Model, empty, loaded, translated, first_no, surveyed}
use Rattle.jobs.specs.Sessions.{stage_translated, Surveyed}

-- two stages are never the same
pub apart : {X : Type 0} (s t : Stage) → ((s ≡ Empty) × (t ≡ Loaded)) ⊎ (((s ≡ Empty) × (t ≡ Translated)) ⊎ ((s ≡ Loaded) × (t ≡ Translated))) → s ≡ t → X
apart s t (inl h) e = absurd (let z : Empty ≡ Loaded = sym h.0 ∙ e ∙ h.1 in (let w : ◌≡◌ {A = ℕ} 0 1 = cc in omega arith))
apart s t (inr (inl h)) e = absurd (let z : Empty ≡ Translated = sym h.0 ∙ e ∙ h.1 in (let w : ◌≡◌ {A = ℕ} 0 1 = cc in omega arith))
apart s t (inr (inr h)) e = absurd (let z : Loaded ≡ Translated = sym h.0 ∙ e ∙ h.1 in (let w : ◌≡◌ {A = ℕ} 0 1 = cc in omega arith))

module _ {V : Type 0} {G : Ghosts V} (k : Meaning) (s : Session V G) where
  -- of a session whose stage is Translated: the model has a translation
  module _ (P : Model → Type 0) (stage : s.stage ≡ Translated) (has : (p : Program) (r v u : ℕ) → HasSchedules k s p r u → P (translated p r v u)) where
    pub with_schedules : (m : Model) → KeepsSession k s m → P m
    with_schedules empty h = apart s.stage Translated (inr (inl (h, refl))) stage
    with_schedules (loaded p) h = apart s.stage Translated (inr (inr (h.stage, refl))) stage
    with_schedules (translated p r v u) h = has p r v u h

  module _ (p : Program) (r u : ℕ) (h : HasSchedules k s p r u) where
    pub scheduled_is : threads_outcome k s ≡ scheduled k p r
    scheduled_is = ap₂ (λ p r. scheduled k p r) h.program h.rounds

    pub threads_ready : threads.Ready k s.machine
    threads_ready = (subst (WellFormed k) (sym h.program) h.exists, omega (arith, h.rounds, h.some))

  abbrev with_survey : Walk Point → Session V G
  with_survey x = record { stage = s.stage; machine = s.machine; survey = x }

  pub survey_goes : (b : ℕ) (x : Walk Point) (a : Result Counts Refusal)
      → (threads.Ready k s.machine → Tied (threads_outcome k s) (threads.Follows k s.machine) s.survey → Walked (threads_outcome k s) (threads.Follows k s.machine) s.survey b x a)
      → (p : Program) (r v u : ℕ) → HasSchedules k s p r u → (a ≡ walk_answer (scheduled k p r) u b) × HasSchedules k (with_survey x) p r (walk_next (scheduled k p r) u b)
  survey_goes b x a go p r v u h =
      let g = go (threads_ready p r u h) h.survey in
      let is = scheduled_is p r u h in (
        g.answer ∙ ap₂ (λ out n. walk_answer out n b) is h.surveyed,
        record {
          stage = h.stage;
          program = h.program;
          exists = h.exists;
          rounds = h.rounds;
          some = h.some;
          few = h.few;
          survey = g.tied;
          surveyed = g.visited ∙ ap₂ (λ out n. walk_next out n b) is h.surveyed;
        },
      )

  -- what a walk that goes on says of the session
  pub surveyed_so : (b : ℕ) (x : Walk Point) (a : Result Counts Refusal) → s.stage ≡ Translated → Went (threads.Ready k s.machine) (threads_outcome k s) (threads.Follows k s.machine) s.survey b x a → Surveyed k s (with_survey x) b a
  surveyed_so b x (Ok c) stage w = (ap (λ st. first_no (stage_translated st) (limit_no (over s.survey) (visited s.survey.tally) b)) stage ∙ w.0, w.1, w.2)
  surveyed_so b x (Err e) stage w = (ap (λ st. first_no (stage_translated st) (limit_no (over s.survey) (visited s.survey.tally) b)) stage ∙ w.0, ap with_survey w.1)

module _ {V : Type 0} {G : Ghosts V} (k : Meaning) (j : Job V G) where
  -- the same of a job
  module _ (P : Model → Type 0) (stage : j.session.stage ≡ Translated) (has : (p : Program) (r v u : ℕ) → HasTranslation k j p r v u → P (translated p r v u)) where
    pub with_translation : (m : Model) → Keeps k j m → P m
    with_translation empty h = apart j.session.stage Translated (inr (inl (h, refl))) stage
    with_translation (loaded p) h = apart j.session.stage Translated (inr (inr (h.stage, refl))) stage
    with_translation (translated p r v u) h = has p r v u h

  -- a job's session is as the job's model says
  pub session_keeps : (m : Model) → Keeps k j m → KeepsSession k j.session m
  session_keeps empty h = h
  session_keeps (loaded p) h = h
  session_keeps (translated p r v u) h = h.session

  abbrev with_session : Session V G → Job V G
  with_session x = record { session = x; sequential = j.sequential; walk = j.walk }

  -- and the job is, with another session that is so
  pub keeps_with : (x : Session V G) (m : Model) → Keeps k j m → KeepsSession k x m → Keeps k (with_session x) m
  keeps_with x empty h e = e
  keeps_with x (loaded p) h e = e
  keeps_with x (translated p r v u) h e = record { session = e; holds = h.holds; walk = h.walk; walked = h.walked }

  pub surveyed_with : (x : Session V G) (b : ℕ) (m : Model) → Keeps k j m → KeepsSession k x (surveyed k m b) → Keeps k (with_session x) (surveyed k m b)
  surveyed_with x b empty h e = e
  surveyed_with x b (loaded p) h e = e
  surveyed_with x b (translated p r v u) h e = record { session = e; holds = h.holds; walk = h.walk; walked = h.walked }

  module _ (p : Program) (r v u : ℕ) (h : HasTranslation k j p r v u) where
    pub guessed_is : sequential_outcome k j ≡ guessed k p r
    guessed_is = fun_ext (λ l. ap (λ (d : Driven). d.outcome) (drives_translated k j.sequential.sequence p r l h.holds))

    pub sequential_ready : guesses.Ready k j.sequential.sequence
    sequential_ready = record { program = p; rounds = r; exists = h.session.exists; some = h.session.some; few = h.session.few; holds = h.holds }

  abbrev with_walk : Walk SeqPoint → Job V G
  with_walk x = record { session = j.session; sequential = j.sequential; walk = x }

  pub walk_goes : (b : ℕ) (x : Walk SeqPoint) (a : Result Counts Refusal)
      → (guesses.Ready k j.sequential.sequence → Tied (sequential_outcome k j) (guesses.Follows k j.sequential.sequence) j.walk → Walked (sequential_outcome k j) (guesses.Follows k j.sequential.sequence) j.walk b x a)
      → (p : Program) (r v u : ℕ) → HasTranslation k j p r v u → (a ≡ walk_answer (guessed k p r) v b) × HasTranslation k (with_walk x) p r (walk_next (guessed k p r) v b) u
  walk_goes b x a go p r v u h =
      let g = go (sequential_ready p r v u h) h.walk in
      let is = guessed_is p r v u h in (
        g.answer ∙ ap₂ (λ out n. walk_answer out n b) is h.walked,
        record {
          session = h.session;
          holds = h.holds;
          walk = g.tied;
          walked = g.visited ∙ ap₂ (λ out n. walk_next out n b) is h.walked;
        },
      )
