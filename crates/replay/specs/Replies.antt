-- What a session answers to a call, from its model, and from what it holds.
use Rattle.std.specs.Prelude.{◌≡◌, ℕ, List, length, replicate, Some, None, Ok, Err, vec_items, Option, Result}
use Rattle.kinds.specs.Meaning.{Meaning}
use Rattle.agreement.specs.Agreement.{Told, play_told}
use Rattle.walks.specs.declared.counts.Counts.{Counts}
use Rattle.jobs.specs.Models as jobs
use Rattle.jobs.specs.Models.{Model, first_no, translate_answer, survey_reply}
use Rattle.jobs.specs.Sessions.{Held, holds, settled, stage_loaded, stage_translated, else, rounds_answer}
use Rattle.jobs.specs.declared.job.Stage.TheVariants as stage
use Rattle.tables.specs.Program.{decoded}
use Rattle.questions.specs.Question.{question}
use Rattle.records.specs.Wrote.{counted}
use Rattle.records.specs.declared.refusal.LoadError.{LoadError}
use Rattle.records.specs.declared.refusal.Refusal.{Refusal}
use Rattle.records.specs.declared.refusal.Refusal.TheVariants.{NotLoaded, NotTranslated}
use Rattle.tables.specs.Encoded.{encoded}
use Rattle.reports.specs.declared.report.Report.{Report}
use Rattle.reports.specs.Reports.{refusal}
use Rattle.replay.specs.declared.answer.Answer.{Answer}
use Rattle.replay.specs.declared.answer.Answer.TheVariants as answer
use Rattle.replay.specs.declared.call.Call.{Call}
use Rattle.replay.specs.declared.call.Call.TheVariants.{Load, Translate, Survey, Play, Save}

-- an answer, with lists in the place of buffers
pub data Said : Type 0 where
  new : Said
  loaded : Said
  translated : Said
  played : Report → List ℕ → List ℕ → Said
  saved : List ℕ → Said
  surveyed : Counts → Said
  refused : Refusal → Said
  refused_file : LoadError → Said
  unreadable : Said

abbrev pub said : Answer → Said
said answer.New = new
said answer.Loaded = loaded
said answer.Translated = translated
said (answer.Played r counts cells) = played r (vec_items counts) (vec_items cells)
said (answer.Saved file) = saved (vec_items file)
said (answer.Surveyed c) = surveyed c
said (answer.Refused e) = refused e
said (answer.RefusedFile e) = refused_file e
said answer.Unreadable = unreadable

abbrev pub load_said : Result (Unit {0}) LoadError → Said
load_said (Ok u) = loaded
load_said (Err e) = refused_file e

abbrev pub translate_said : Result (Unit {0}) Refusal → Said
translate_said (Ok u) = translated
translate_said (Err e) = refused e

abbrev pub survey_said : Result Counts Refusal → Said
survey_said (Ok c) = surveyed c
survey_said (Err e) = refused e

abbrev pub play_said : Option Refusal → Told → Said
play_said None t = played t.report t.counts t.cells
play_said (Some e) t = refused e

abbrev pub save_said : List ℕ → Result ℕ Refusal → Said
save_said bs (Ok n) = saved bs
save_said bs (Err e) = refused e

-- a play with buffers of these lengths
abbrev pub played_by : Meaning → Model → List ℕ → ℕ → ℕ → Said
played_by k jobs.empty ns counts cells = refused NotTranslated
played_by k (jobs.loaded p) ns counts cells = refused NotTranslated
played_by k (jobs.translated p r v u) ns counts cells = play_said (refusal ns (replicate counts 0) (replicate cells 0) (length p.cells)) (play_told k p r ns)

-- a save of some bytes, with a buffer of this length
abbrev pub bytes_saved : List ℕ → ℕ → Said
bytes_saved bs room = save_said bs (counted (replicate room 0) bs)

abbrev pub saved_by : Meaning → Model → ℕ → Said
saved_by k jobs.empty room = refused NotLoaded
saved_by k (jobs.loaded p) room = bytes_saved (encoded k.byte p) room
saved_by k (jobs.translated p r v u) room = bytes_saved (encoded k.byte p) room

abbrev pub reply : Meaning → Model → Call → Said
reply k m (Load file) = load_said (question k (vec_items file))
reply k m (Translate rounds) = translate_said (translate_answer m rounds)
reply k m (Survey b) = survey_said (survey_reply k m b)
reply k m (Play ns counts cells) = played_by k m (vec_items ns) counts cells
reply k m (Save room) = saved_by k m room

-- the session behind a call
abbrev pub next : Meaning → Model → Call → Model
next k m (Load file) = jobs.next k m (jobs.load (vec_items file))
next k m (Translate rounds) = jobs.next k m (jobs.translate rounds)
next k m (Survey b) = jobs.next k m (jobs.survey b)
next k m (Play ns counts cells) = m
next k m (Save room) = m

-- The same of any session, from the stage, the program and the rounds that it holds.
abbrev pub held_play : Meaning → Held → List ℕ → ℕ → ℕ → Said
held_play k h ns counts cells =
    play_said (first_no (stage_translated h.stage) (refusal ns (replicate counts 0) (replicate cells 0) (length h.program.cells))) (play_told k h.program h.rounds ns)

abbrev pub held_save : Meaning → Held → ℕ → Said
held_save k h room = save_said (encoded k.byte h.program) (else (stage_loaded h.stage) (counted (replicate room 0) (encoded k.byte h.program)))

-- what is said to a call; how far the walk has come, and so what a survey says, is not to be seen from what is held
abbrev pub Answers : Meaning → Held → Call → Said → Type 0
Answers k h (Load file) a = a ≡ load_said (question k (vec_items file))
Answers k h (Translate rounds) a = a ≡ translate_said (rounds_answer h.stage rounds)
Answers k h (Survey b) a = Unit {0}
Answers k h (Play ns counts cells) a = a ≡ held_play k h (vec_items ns) counts cells
Answers k h (Save room) a = a ≡ held_save k h room

-- what is held behind a call
abbrev pub held_next : Meaning → Held → Call → Held
held_next k h (Load file) = settled (question k (vec_items file)) (holds stage.Loaded (decoded (vec_items file)) h.rounds) h
held_next k h (Translate rounds) = settled (rounds_answer h.stage rounds) (holds stage.Translated h.program rounds) h
held_next k h (Survey b) = h
held_next k h (Play ns counts cells) = h
held_next k h (Save room) = h
