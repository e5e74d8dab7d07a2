-- What a session holds, and what its calls answer and leave.
use Rattle.std.specs.Prelude.{◌≡◌, ℕ, List, Some, None, Ok, Err, Option, Result}
use Rattle.kinds.specs.declared.kind.Kind.{Ghosts}
use Rattle.kinds.specs.Meaning.{Meaning}
use Rattle.records.specs.declared.refusal.Refusal.{Refusal}
use Rattle.records.specs.declared.refusal.Refusal.TheVariants.{NotLoaded, NotTranslated}
use Rattle.tables.specs.Program.{Program, bare}
use Rattle.threads.specs.Machines.{program, plays, rounds_asked}
use Rattle.threads.specs.Points.{Ready, Follows}
use Rattle.reports.specs.Counts.{over, limit_no, visits}
use Rattle.walks.specs.declared.counts.Counts.{Counts}
use Rattle.walks.specs.declared.outcome.Outcome.{Outcome}
use Rattle.walks.specs.Counts.{tally_counts}
use Rattle.walks.specs.Tallies.{visited}
use Rattle.walks.specs.Walks.{Tied, Advanced}
use Rattle.jobs.specs.Models.{first_no}
use Rattle.jobs.specs.declared.job.Stage.{Stage}
use Rattle.jobs.specs.declared.job.Stage.TheVariants.{Empty, Loaded, Translated}
use Rattle.jobs.specs.declared.session.Session.{Session}

pub record Held : Type 0 where
  pub stage : Stage
  pub program : Program
  pub rounds : ℕ

abbrev pub holds : Stage → Program → ℕ → Held
holds s p k = record { stage = s; program = p; rounds = k }

abbrev pub held : {V : Type 0} {G : Ghosts V} → Session V G → Held
held s = holds s.stage (program s.machine) s.machine.rounds

-- what a schedule comes to
abbrev pub outcomes : {V : Type 0} {G : Ghosts V} → Meaning → Session V G → List ℕ → Outcome
outcomes k s l = (plays k s.machine l).outcome

-- a new session
abbrev pub unused : Held
unused = holds Empty (bare 0) 0

-- what is left by a call that is answered so: the new, or the old where it is refused
abbrev pub settled : {X E : Type 0} → Result X E → Held → Held → Held
settled (Ok x) new old = new
settled (Err e) new old = old

-- the first no of a call that wants a program, and of one that wants a translated one
abbrev pub stage_loaded : Stage → Option Refusal
stage_loaded Empty = Some NotLoaded
stage_loaded Loaded = None
stage_loaded Translated = None

abbrev pub stage_translated : Stage → Option Refusal
stage_translated Empty = Some NotTranslated
stage_translated Loaded = Some NotTranslated
stage_translated Translated = None

-- a first no, or else the answer behind it
abbrev pub else : {X : Type 0} → Option Refusal → Result X Refusal → Result X Refusal
else None r = r
else (Some e) r = Err e

abbrev pub rounds_answer : Stage → ℕ → Result (Unit {0}) Refusal
rounds_answer s k = else (stage_loaded s) (rounds_asked k)

-- the first no of a survey for b more leaves
abbrev pub survey_no : {V : Type 0} {G : Ghosts V} → Session V G → ℕ → Option Refusal
survey_no s b = first_no (stage_translated s.stage) (limit_no (over s.survey) (visited s.survey.tally) b)

-- A survey that is answered so, and the session before and after it: refused, which leaves the session as it was, or the
-- counts of the walk's tally. So much holds of any session; of one whose walk is tied to its leaves, where it has gone.
abbrev pub Surveyed : {V : Type 0} {G : Ghosts V} → Meaning → Session V G → Session V G → ℕ → Result Counts Refusal → Type 0
Surveyed k s t b (Err e) = (survey_no s b ≡ Some e) × (t ≡ s)
Surveyed k s t b (Ok c) =
    (survey_no s b ≡ None) × (c ≡ tally_counts c.answer t.survey.tally)
    × (Ready k s.machine → Tied (outcomes k s) (Follows k s.machine) s.survey → Advanced (outcomes k s) (Follows k s.machine) s.survey t.survey (visits (over s.survey) b) c.answer)
