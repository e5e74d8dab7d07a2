-- A job as its calls see it, and what each call makes of it.
use Rattle.std.specs.Prelude.{ℕ, Bool, cond, ◌&&◌, List, [], ◌∷◌, length, Some, None, Ok, Err, Option, Result, nat_le}
use Rattle.agreement.specs.Agreement.{Told, play_told, drive_told, scheduled, guessed, schedule as schedule_of}
use Rattle.kinds.specs.Meaning.{Meaning}
use Rattle.questions.specs.Answer as questions
use Rattle.questions.specs.Question.{question}
use Rattle.records.specs.declared.refusal.Refusal.{Refusal}
use Rattle.records.specs.declared.refusal.Refusal.TheVariants.{NotLoaded, Rounds, NotTranslated, BufferShort, NothingFound}
use Rattle.records.specs.Wrote.{counted, filled}
use Rattle.reports.specs.declared.report.Report.{Report}
use Rattle.reports.specs.Reports.{refusal, front, answered, unless}
use Rattle.sections.specs.Emitted.{emitted}
use Rattle.states.specs.Codes.{LawfulCodes}
use Rattle.tables.specs.Encoded.{encoded}
use Rattle.tables.specs.Program.{Program, decoded}
use Rattle.walks.specs.Leaves.{leaves}
use Rattle.walks.specs.Tallies.{Failing, latest}
use Rattle.walks.specs.declared.counts.Counts.{Counts}
use Rattle.reports.specs.Counts.{yes_or, walk_answer, walk_next}

-- Empty; loaded, with its program; or translated, with its rounds too, and how many leaves Walk and Survey have visited.
pub data Model : Type 0 where
  empty : Model
  loaded : Program → Model
  translated : Program → (rounds walked surveyed : ℕ) → Model

-- a call with what it is given: a file, a number, a list of numbers, and the buffers that are lent
pub data Call : Type 0 where
  load : List ℕ → Call
  translate : ℕ → Call
  walk : ℕ → Call
  survey : ℕ → Call
  play : (numbers counts cells : List ℕ) → Call
  drive : (numbers counts cells : List ℕ) → Call
  found : (guesses schedule : List ℕ) → Call
  save : List ℕ → Call
  emit : List ℕ → Call

-- a number of rounds from 1 to 8
abbrev pub few : ℕ → Bool
few r = nat_le 1 r && nat_le r 8

-- the first no of a call that wants a program, and of one that wants its translation
abbrev pub wants_program : Model → Option Refusal
wants_program empty = Some NotLoaded
wants_program (loaded p) = None
wants_program (translated p r v u) = None

abbrev pub wants_translation : Model → Option Refusal
wants_translation empty = Some NotTranslated
wants_translation (loaded p) = Some NotTranslated
wants_translation (translated p r v u) = None

-- the first of two noes
abbrev pub first_no : Option Refusal → Option Refusal → Option Refusal
first_no None b = b
first_no (Some e) b = Some e

-- Load: an accepted file's program takes the place of all there was
abbrev pub load_next : questions.Answer → List ℕ → Model → Model
load_next (Ok u) f m = loaded (decoded f)
load_next (Err e) f m = m

-- Translate: both walks are at their beginnings
abbrev pub rounds_no : ℕ → Option Refusal
rounds_no r = cond (few r) None (Some Rounds)

abbrev pub translate_answer : Model → ℕ → Result (Unit {0}) Refusal
translate_answer m r = yes_or (first_no (wants_program m) (rounds_no r))

abbrev pub translate_next : Model → ℕ → Model
translate_next empty r = empty
translate_next (loaded p) r = cond (few r) (translated p r 0 0) (loaded p)
translate_next (translated p k v u) r = cond (few r) (translated p r 0 0) (translated p k v u)

-- Walk, over the guess lists, and Survey, over the schedules
abbrev pub walk_reply : Meaning → Model → ℕ → Result Counts Refusal
walk_reply k empty b = Err NotTranslated
walk_reply k (loaded p) b = Err NotTranslated
walk_reply k (translated p r v u) b = walk_answer (guessed k p r) v b

abbrev pub survey_reply : Meaning → Model → ℕ → Result Counts Refusal
survey_reply k empty b = Err NotTranslated
survey_reply k (loaded p) b = Err NotTranslated
survey_reply k (translated p r v u) b = walk_answer (scheduled k p r) u b

abbrev pub walked : Meaning → Model → ℕ → Model
walked k empty b = empty
walked k (loaded p) b = loaded p
walked k (translated p r v u) b = translated p r (walk_next (guessed k p r) v b) u

abbrev pub surveyed : Meaning → Model → ℕ → Model
surveyed k empty b = empty
surveyed k (loaded p) b = loaded p
surveyed k (translated p r v u) b = translated p r v (walk_next (scheduled k p r) u b)

-- the job behind a call
abbrev pub next : Meaning → Model → Call → Model
next k m (load f) = load_next (question k f) f m
next k m (translate r) = translate_next m r
next k m (walk b) = walked k m b
next k m (survey b) = surveyed k m b
next k m (play numbers counts cells) = m
next k m (drive numbers counts cells) = m
next k m (found guesses schedule) = m
next k m (save out) = m
next k m (emit out) = m

-- and behind a list of calls, from the first on
abbrev pub after : Meaning → Model → List Call → Model
after k m [] = m
after k m (c ∷ cs) = after k (next k m c) cs

-- Play and Drive: the answer, and what the two buffers then hold
pub record Lent : Type 0 where
  pub answer : Result Report Refusal
  pub counts : List ℕ
  pub cells : List ℕ

abbrev pub lent_as : Result Report Refusal → (counts cells : List ℕ) → Lent
lent_as a counts cells = record { answer = a; counts = counts; cells = cells }

-- refused, or run
abbrev pub lent : Option Refusal → Told → (counts cells : List ℕ) → Lent
lent o t counts cells = lent_as (answered o t.report) (unless o (front t.counts counts) counts) (unless o (front t.cells cells) cells)

-- a call that is refused leaves the buffers
abbrev pub refused : Refusal → (counts cells : List ℕ) → Lent
refused e counts cells = lent_as (Err e) counts cells

abbrev pub play_reply : Meaning → Model → (numbers counts cells : List ℕ) → Lent
play_reply k empty numbers counts cells = refused NotTranslated counts cells
play_reply k (loaded p) numbers counts cells = refused NotTranslated counts cells
play_reply k (translated p r v u) numbers counts cells = lent (refusal numbers counts cells (length p.cells)) (play_told k p r numbers) counts cells

abbrev pub drive_reply : Meaning → Model → (numbers counts cells : List ℕ) → Lent
drive_reply k empty numbers counts cells = refused NotTranslated counts cells
drive_reply k (loaded p) numbers counts cells = refused NotTranslated counts cells
drive_reply k (translated p r v u) numbers counts cells = lent (refusal numbers counts cells (length p.cells)) (drive_told k p r numbers) counts cells

-- how many cells the program has
abbrev pub cell_count : Model → ℕ
cell_count empty = 0
cell_count (loaded p) = length p.cells
cell_count (translated p r v u) = length p.cells

-- the codes that a run leaves in the cells are lawful
abbrev pub LawfulPlay : Meaning → Model → List ℕ → Type 0
LawfulPlay k empty numbers = Unit {0}
LawfulPlay k (loaded p) numbers = Unit {0}
LawfulPlay k (translated p r v u) numbers = LawfulCodes k (play_told k p r numbers).cells

abbrev pub LawfulDrive : Meaning → Model → List ℕ → Type 0
LawfulDrive k empty numbers = Unit {0}
LawfulDrive k (loaded p) numbers = Unit {0}
LawfulDrive k (translated p r v u) numbers = LawfulCodes k (drive_told k p r numbers).cells

-- Found: the latest failing guess list that Walk has visited
abbrev pub latest_found : Meaning → Program → (rounds walked : ℕ) → Option Failing
latest_found k p r v = latest (guessed k p r) (leaves (guessed k p r)) v

-- its length, and the two buffers
pub record Shown : Type 0 where
  pub answer : Result ℕ Refusal
  pub guesses : List ℕ
  pub schedule : List ℕ

abbrev pub shown_as : Result ℕ Refusal → (guesses schedule : List ℕ) → Shown
shown_as a guesses schedule = record { answer = a; guesses = guesses; schedule = schedule }

abbrev pub unshown : Refusal → (guesses schedule : List ℕ) → Shown
unshown e guesses schedule = shown_as (Err e) guesses schedule

abbrev pub shown : (g s guesses schedule : List ℕ) → Shown
shown g s guesses schedule =
    cond (nat_le (length g) (length guesses) && nat_le (length g) (length schedule))
    (shown_as (Ok (length g)) (front g guesses) (front s schedule))
    (unshown BufferShort guesses schedule)

abbrev pub found_so : Meaning → Program → ℕ → Option Failing → (guesses schedule : List ℕ) → Shown
found_so k p r None guesses schedule = unshown NothingFound guesses schedule
found_so k p r (Some f) guesses schedule = shown f.numbers (schedule_of k p r f.numbers) guesses schedule

abbrev pub found_reply : Meaning → Model → (guesses schedule : List ℕ) → Shown
found_reply k empty guesses schedule = unshown NotTranslated guesses schedule
found_reply k (loaded p) guesses schedule = unshown NotTranslated guesses schedule
found_reply k (translated p r v u) guesses schedule = found_so k p r (latest_found k p r v) guesses schedule

-- Save and Emit: a length, and the buffer
pub record Written : Type 0 where
  pub answer : Result ℕ Refusal
  pub out : List ℕ

abbrev pub written_as : Result ℕ Refusal → List ℕ → Written
written_as a out = record { answer = a; out = out }

abbrev pub written : (bytes out : List ℕ) → Written
written bytes out = written_as (counted out bytes) (filled out bytes)

abbrev pub unwritten : Refusal → List ℕ → Written
unwritten e out = written_as (Err e) out

abbrev pub save_reply : Meaning → Model → List ℕ → Written
save_reply k empty out = unwritten NotLoaded out
save_reply k (loaded p) out = written (encoded k.byte p) out
save_reply k (translated p r v u) out = written (encoded k.byte p) out

abbrev pub emit_reply : Meaning → Model → List ℕ → Written
emit_reply k empty out = unwritten NotTranslated out
emit_reply k (loaded p) out = unwritten NotTranslated out
emit_reply k (translated p r v u) out = written (emitted k.byte p r) out
