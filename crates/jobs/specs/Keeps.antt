-- What ties a session, and a job, to its model.
use Rattle.std.specs.Prelude.{◌≡◌, ℕ, ◌≤◌, List}
use Rattle.kinds.specs.declared.kind.Kind.{Ghosts}
use Rattle.kinds.specs.Meaning.{Meaning}
use Rattle.guesses.specs.Points as guesses
use Rattle.sequences.specs.Sequences.{Holds, drives_so}
use Rattle.tables.specs.Program.{Program}
use Rattle.tables.specs.WellFormed.{WellFormed}
use Rattle.threads.specs.Machines.{program, plays}
use Rattle.threads.specs.Points as threads
use Rattle.walks.specs.declared.outcome.Outcome.{Outcome}
use Rattle.walks.specs.Tallies.{visited}
use Rattle.walks.specs.Walks.{Tied}
use Rattle.jobs.specs.declared.job.Job.{Job}
use Rattle.jobs.specs.declared.job.Stage.TheVariants.{Empty, Loaded, Translated}
use Rattle.jobs.specs.declared.session.Session.{Session}
use Rattle.jobs.specs.Models.{Model, empty, loaded, translated}

module _ {V : Type 0} {G : Ghosts V} (k : Meaning) (s : Session V G) where
  pub record HasProgram (p : Program) : Type 0 where
    pub stage : s.stage ≡ Loaded
    pub program : program s.machine ≡ p
    pub exists : WellFormed k p

  -- what the thread machine comes to, as it stands in the session
  abbrev pub threads_outcome : List ℕ → Outcome
  threads_outcome l = (plays k s.machine l).outcome

  -- translated over r rounds, Survey having visited u leaves
  pub record HasSchedules (p : Program) (r u : ℕ) : Type 0 where
    pub stage : s.stage ≡ Translated
    pub program : program s.machine ≡ p
    pub exists : WellFormed k p
    pub rounds : s.machine.rounds ≡ r
    pub some : 1 ≤ r
    pub few : r ≤ 8
    pub survey : Tied threads_outcome (threads.Follows k s.machine) s.survey
    pub surveyed : visited s.survey.tally ≡ u

  -- the session is as its model says, which speaks of Walk's leaves besides
  abbrev pub KeepsSession : Model → Type 0
  KeepsSession empty = s.stage ≡ Empty
  KeepsSession (loaded p) = HasProgram p
  KeepsSession (translated p r v u) = HasSchedules p r u

module _ {V : Type 0} {G : Ghosts V} (k : Meaning) (j : Job V G) where
  -- what the sequential machine comes to, as it stands in the job
  abbrev pub sequential_outcome : List ℕ → Outcome
  sequential_outcome l = (drives_so k j.sequential.sequence l).outcome

  -- translated over r rounds, Walk having visited v leaves and Survey u
  pub record HasTranslation (p : Program) (r v u : ℕ) : Type 0 where
    pub session : HasSchedules k j.session p r u
    pub holds : Holds j.sequential.sequence p r
    pub walk : Tied sequential_outcome (guesses.Follows k j.sequential.sequence) j.walk
    pub walked : visited j.walk.tally ≡ v

  -- the job is as its model says
  abbrev pub Keeps : Model → Type 0
  Keeps empty = j.session.stage ≡ Empty
  Keeps (loaded p) = HasProgram k j.session p
  Keeps (translated p r v u) = HasTranslation p r v u
