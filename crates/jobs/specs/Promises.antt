-- Counts agree: what is promised of a job behind any list of calls.
use Rattle.std.specs.Prelude.{◌≡◌, ℕ, List, length, Some, None, Option}
use Rattle.std.specs.List.{AllByRecursion}
use Rattle.kinds.specs.Meaning.{Meaning, Lawful}
use Rattle.agreement.specs.Agreement.{LeafOf, NotAfter, Enumerates, OneToOne, scheduled, guessed, schedule}
use Rattle.records.specs.Lines.{Bytes}
use Rattle.tables.specs.Program.{Program}
use Rattle.walks.specs.declared.outcome.Ending.TheVariants.{Failed, Full}
use Rattle.walks.specs.declared.walk.Answer.TheVariants.{Done}
use Rattle.walks.specs.Tallies.{Failing}
use Rattle.walks.specs.declared.counts.Counts.{Counts}
use Rattle.reports.specs.Counts.{counts_at}
use Rattle.jobs.specs.Models.{Model, empty, loaded, translated, Call, load, translate, walk, survey, play, drive, found, save, emit, after, latest_found}

-- n lists have the property: so long is the list of all of them in dictionary order, and any such list
pub record Number (P : List ℕ → Type 0) (n : ℕ) : Type 0 where
  pub some : (rows : List (List ℕ)) × Enumerates P rows × (n ≡ length rows)
  pub any : (rows : List (List ℕ)) → Enumerates P rows → n ≡ length rows

module _ (k : Meaning) (p : Program) (rounds : ℕ) where
  -- the failures so far are the failing schedules that do not come after that of the latest one, and none where none was found
  abbrev pub FoundSoFar : ℕ → Option Failing → Type 0
  FoundSoFar n None = n ≡ 0
  FoundSoFar n (Some f) = Number (λ s. LeafOf Failed (scheduled k p rounds) s × NotAfter s (schedule k p rounds f.numbers)) n

  -- the failures and the full runs are all failing and all full schedules
  pub record Finished (c : Counts) : Type 0 where
    pub failed : Number (LeafOf Failed (scheduled k p rounds)) c.failed
    pub full : Number (LeafOf Full (scheduled k p rounds)) c.full

  -- of a job that is translated, Walk having visited v leaves and Survey u
  pub record Promised (v u : ℕ) : Type 0 where
    pub found_so_far : FoundSoFar (counts_at (guessed k p rounds) v).failed (latest_found k p rounds v)
    pub walk_finished : (counts_at (guessed k p rounds) v).answer ≡ Done → Finished (counts_at (guessed k p rounds) v)
    pub survey_finished : (counts_at (scheduled k p rounds) u).answer ≡ Done → Finished (counts_at (scheduled k p rounds) u)
    pub failing : OneToOne k p rounds Failed
    pub full : OneToOne k p rounds Full

abbrev pub Good : Meaning → Model → Type 0
Good k empty = Unit {0}
Good k (loaded p) = Unit {0}
Good k (translated p r v u) = Promised k p r v u

-- a call that can be made: a file consists of bytes
abbrev pub Given : Call → Type 0
Given (load f) = Bytes f
Given (translate r) = Unit {0}
Given (walk b) = Unit {0}
Given (survey b) = Unit {0}
Given (play numbers counts cells) = Unit {0}
Given (drive numbers counts cells) = Unit {0}
Given (found guesses schedule) = Unit {0}
Given (save out) = Unit {0}
Given (emit out) = Unit {0}

-- For every kind that keeps its law, and every list of calls on a new job.
abbrev pub CountsAgree : Type 0
CountsAgree = (k : Meaning) → Lawful k → (cs : List Call) → AllByRecursion Given cs → Good k (after k empty cs)
