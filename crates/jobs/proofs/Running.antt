-- What Play and Save tell of a session, and Drive and Found of a translated job.
use Rattle.std.proofs.Common.{◌≡◌, ℕ, List, length, Some, None, Option, Result, sym, refl, ap, ◌∙◌, subst, ap₂}
use Rattle.std.proofs.lemmas.Option.{none-some}
use Rattle.kinds.specs.declared.kind.Kind.{Ghosts}
use Rattle.agreement.specs.Agreement.{play_told}
use Rattle.kinds.specs.Meaning.{Meaning, Lawful}
use Rattle.records.specs.declared.refusal.Refusal.{Refusal}
use Rattle.records.specs.declared.refusal.Refusal.TheVariants.{NothingFound}
use Rattle.records.specs.Wrote.{counted, filled}
use Rattle.tables.specs.Encoded.{encoded}
use Rattle.reports.specs.declared.report.Report.{Report}
use Rattle.reports.specs.Reports.{refusal, front, answered, unless}
use Rattle.guesses.proofs.Codes.{drive_codes}
use Rattle.sequences.specs.declared.sequence.Sequence.{Sequence}
use Rattle.sequences.specs.Drives as drives
use Rattle.sequences.specs.Drives.{Driven, drive, own_cells}
use Rattle.sequences.specs.Sequences as sequences
use Rattle.sequences.specs.Sequences.{drives_so, codes_of}
use Rattle.sequences.proofs.Translated.{drives_translated}
use Rattle.states.specs.Codes.{LawfulCodes}
use Rattle.tables.specs.Program.{Program}
use Rattle.tables.specs.WellFormed.{WellFormed}
use Rattle.threads.specs.Machines as machines
use Rattle.threads.specs.Machines.{program, plays}
use Rattle.threads.specs.Plays.{play, cells_of}
use Rattle.threads.specs.Reports as threads
use Rattle.walks.specs.declared.found.Found.{Found}
use Rattle.walks.specs.declared.tally.Latest.{Latest}
use Rattle.walks.specs.declared.tally.Tally.{Tally}
use Rattle.walks.specs.Leaves.{leaves}
use Rattle.walks.specs.Tallies.{latest, latest_list, list_found, place, as_failing}
use Rattle.jobs.specs.declared.job.Job.{Job}
use Rattle.jobs.specs.declared.job.Stage.{Stage}
use Rattle.jobs.specs.declared.session.Session.{Session}
use Rattle.jobs.specs.Keeps.{KeepsSession, HasSchedules, HasTranslation}
use Rattle.jobs.specs.Models.{Model, empty, loaded, translated, first_no, Lent, lent_as, lent, play_reply, latest_found, Shown, shown, unshown, found_so, Written, written_as, save_reply}
use Rattle.jobs.specs.Sessions.{stage_loaded, stage_translated, else}
use Rattle.jobs.proofs.Standing.{guessed_is}

lent_same : (a b : Result Report Refusal) (c d e f : List ℕ) → a ≡ b → c ≡ d → e ≡ f → lent_as a c e ≡ lent_as b d f
lent_same a b c d e f p q r = ap₂ (λ a c. lent_as a c e) p q ∙ ap (lent_as b d) r

module _ {V : Type 0} {G : Ghosts V} (k : Meaning) (s : Session V G) (ns counts cells : List ℕ) where
  -- Play on the program and the rounds that the machine has
  abbrev plays_so : Program → ℕ → Lent
  plays_so p r = lent (refusal ns counts cells (length p.cells)) (play_told k p r ns) counts cells

  abbrev no_play : Stage → Option Refusal
  no_play st = first_no (stage_translated st) (refusal ns counts cells (length (program s.machine).cells))

  abbrev plays_at : Stage → Lent
  plays_at st = lent (no_play st) (play_told k (program s.machine) s.machine.rounds ns) counts cells

  pub plays_told : (a : Result Report Refusal) (out left : List ℕ) → a ≡ answered (no_play s.stage) (threads.reported (plays k s.machine ns)) → out ≡ unless (no_play s.stage) (front (plays k s.machine ns).counts counts) counts → left ≡ unless (no_play s.stage) (front (machines.cells_left k s.machine ns) cells) cells
      → (m : Model) → KeepsSession k s m → lent_as a out left ≡ play_reply k m ns counts cells
  plays_told a out left ea eo el empty h = lent_same _ _ _ _ _ _ ea eo el ∙ ap plays_at h
  plays_told a out left ea eo el (loaded p) h = lent_same _ _ _ _ _ _ ea eo el ∙ ap plays_at h.stage
  plays_told a out left ea eo el (translated p r v u) h = lent_same _ _ _ _ _ _ ea eo el ∙ ap plays_at h.stage ∙ ap₂ plays_so h.program h.rounds

  pub play_lawful : (WellFormed k (program s.machine) → LawfulCodes k (machines.cells_left k s.machine ns)) → (p : Program) (r v u : ℕ) → HasSchedules k s p r u → LawfulCodes k (cells_of p (play k p r ns).state)
  play_lawful laws p r v u h =
      subst (LawfulCodes k) (ap₂ (λ p r. cells_of p (play k p r ns).state) h.program h.rounds) (laws (subst (WellFormed k) (sym h.program) h.exists))

-- Save, by the stage and by the model
module _ {V : Type 0} {G : Ghosts V} (k : Meaning) (s : Session V G) (old : List ℕ) where
  abbrev saves_at : Stage → Program → Written
  saves_at st p = written_as (else (stage_loaded st) (counted old (encoded k.byte p))) (unless (stage_loaded st) (filled old (encoded k.byte p)) old)

  pub saved_so : (a : Result ℕ Refusal) (out : List ℕ) → a ≡ else (stage_loaded s.stage) (counted old (encoded k.byte (program s.machine))) → out ≡ unless (stage_loaded s.stage) (filled old (encoded k.byte (program s.machine))) old
      → (m : Model) → KeepsSession k s m → written_as a out ≡ save_reply k m old
  saved_so a out ea eo empty h = ap₂ written_as ea eo ∙ ap (λ st. saves_at st (program s.machine)) h
  saved_so a out ea eo (loaded p) h = ap₂ written_as ea eo ∙ ap₂ saves_at h.stage h.program
  saved_so a out ea eo (translated p r v u) h = ap₂ written_as ea eo ∙ ap₂ saves_at h.stage h.program

module _ {V : Type 0} {G : Ghosts V} (k : Meaning) (j : Job V G) (ns counts cells : List ℕ) where
  -- Drive on the codes that the sequential program has, and what it comes to
  abbrev drives_as : List ℕ → Driven → Lent
  drives_as codes d = lent (refusal ns counts cells (length codes)) (record { report = sequences.reported d; counts = d.counts; cells = own_cells codes d.state }) counts cells

  abbrev seq : Sequence V
  seq = j.sequential.sequence

  abbrev no_drive : Option Refusal
  no_drive = refusal ns counts cells (length (codes_of seq))

  pub drives_told : (a : Result Report Refusal) (out left : List ℕ) → a ≡ answered no_drive (sequences.reported (drives_so k seq ns)) → out ≡ unless no_drive (front (drives_so k seq ns).counts counts) counts → left ≡ unless no_drive (front (sequences.cells_left k seq ns) cells) cells
      → (p : Program) (r v u : ℕ) → HasTranslation k j p r v u → lent_as a out left ≡ drives_as p.cells (drive k p r ns)
  drives_told a out left ea eo el p r v u h = lent_same _ _ _ _ _ _ ea eo el ∙ ap₂ drives_as h.holds.codes (drives_translated k seq p r ns h.holds)

  pub drive_lawful : Lawful k → (p : Program) (r v u : ℕ) → HasTranslation k j p r v u → LawfulCodes k (drives.cells_of p (drive k p r ns).state)
  drive_lawful laws p r v u h = drive_codes k laws p h.session.exists r ns

-- what was found last, by where it was found
nowhere : (o : Option Latest) → place o ≡ None → as_failing o ≡ None
nowhere None e = refl
nowhere (Some l) e = absurd (none-some _ (sym e))

somewhere : (o : Option Latest) (f : Found) → place o ≡ Some f → as_failing o ≡ Some (record { position = f.position; numbers = list_found o })
somewhere None f e = absurd (none-some f e)
somewhere (Some l) f e = let same : l.position ≡ f.position = (let z = e in cc) in ap (λ n. Some (record { position = n; numbers = list_found (Some l) })) same

module _ {V : Type 0} {G : Ghosts V} (k : Meaning) (j : Job V G) (guesses schedule : List ℕ) where
  abbrev tally : Tally
  tally = j.walk.tally

  -- what Walk found last, as the leaves have it
  found_is : (p : Program) (r v u : ℕ) → HasTranslation k j p r v u → as_failing tally.latest ≡ latest_found k p r v
  found_is p r v u h = h.walk.counted.latest ∙ ap₂ (λ out n. latest out (leaves out) n) (guessed_is k j p r v u h) h.walked

  pub found_none : place tally.latest ≡ None → (p : Program) (r v u : ℕ) → HasTranslation k j p r v u → unshown NothingFound guesses schedule ≡ found_so k p r (latest_found k p r v) guesses schedule
  found_none e p r v u h = ap (λ f. found_so k p r f guesses schedule) (sym (nowhere tally.latest e) ∙ found_is p r v u h)

  pub found_some : (f : Found) (t : Shown) → place tally.latest ≡ Some f → t ≡ shown (latest_list tally) (drives_so k j.sequential.sequence (latest_list tally)).counts guesses schedule
      → (p : Program) (r v u : ℕ) → HasTranslation k j p r v u → t ≡ found_so k p r (latest_found k p r v) guesses schedule
  found_some f t e et p r v u h =
      et
      ∙ ap (λ (d : Driven). shown (latest_list tally) d.counts guesses schedule) (drives_translated k j.sequential.sequence p r (latest_list tally) h.holds)
      ∙ ap (λ f. found_so k p r f guesses schedule) (sym (somewhere tally.latest f e) ∙ found_is p r v u h)
