-- From the buffers that a call leaves to the answer.
use Rattle.std.proofs.Common.{◌≡◌, ℕ, Bool, true, false, cond, ◌&&◌, leb, List, ◌++◌, length, take, drop, replicate, Some, None, Ok, Err, Option, Result, sym, refl, ap, ◌∙◌, ap₂, arith}
use Rattle.std.proofs.lemmas.List.{take_at, length-replicate}
use Rattle.kinds.specs.Meaning.{Meaning}
use Rattle.kinds.specs.declared.kind.Kind.{Ghosts}
use Rattle.agreement.specs.Agreement.{Told, play_told}
use Rattle.jobs.specs.declared.job.Stage.{Stage}
use Rattle.jobs.specs.declared.job.Stage.TheVariants.{Translated}
use Rattle.jobs.specs.declared.session.Session.{Session}
use Rattle.jobs.specs.Keeps.{KeepsSession}
use Rattle.jobs.specs.Models.{Model, empty, loaded, translated, first_no}
use Rattle.jobs.specs.Sessions.{held, stage_loaded, stage_translated, else}
use Rattle.records.specs.Wrote.{counted, filled}
use Rattle.tables.specs.Encoded.{encoded}
use Rattle.tables.specs.Program.{Program}
use Rattle.threads.specs.Machines.{program}
use Rattle.records.specs.declared.refusal.Refusal.{Refusal}
use Rattle.records.specs.declared.refusal.Refusal.TheVariants.{BufferShort, ListLength}
use Rattle.reports.specs.declared.report.Report.{Report}
use Rattle.reports.specs.Reports.{front, refusal, answered, unless}
use Rattle.replay.specs.Replies.{Said, played, saved, play_said, save_said, played_by, saved_by, held_play, held_save}
use Rattle.replay.proofs.Cells.{front_cut}

-- a buffer of m items that was lent, cut off behind n
pub lent_cut : {X : Type 0} (n m : ℕ) (out items v : List X) → length out ≡ m → v ≡ take n (take m (out ++ drop (length out) items)) → v ≡ take n out
lent_cut n m out items v e h = h ∙ ap (take n) (take_at out (drop (length out) items) m e)

never : {X Y : Type 0} (x : X) (y : Y) → ◌≡◌ {A = Result X Y} (Ok x) (Err y) → ⊥
never x y e = let z : ◌≡◌ {A = ℕ} 0 1 = cc in omega arith

refusal_same : (ns : List ℕ) (own : ℕ) (counts cells : List ℕ) (i j : ℕ) → length counts ≡ i → length cells ≡ j →
    refusal ns counts cells own ≡ refusal ns (replicate i 0) (replicate j 0) own
refusal_same ns own counts cells i j e f =
    let asked : ℕ → ℕ → Option Refusal = λ m n. cond (leb (length ns) 64) (cond (leb (length ns) m && leb own n) None (Some BufferShort)) (Some ListLength) in
    ap (λ m. asked m (length cells)) (e ∙ sym (length-replicate i 0)) ∙ ap (asked (length {A = ℕ} (replicate i 0))) (f ∙ sym (length-replicate j 0))

ran_so : (q : Option Refusal) (t : Told) (own : ℕ) (report : Report) (counts cells counts' cells' v w : List ℕ) →
    length t.counts ≡ t.report.read → length t.cells ≡ own → Ok report ≡ answered q t.report →
    counts' ≡ unless q (front t.counts counts) counts → cells' ≡ unless q (front t.cells cells) cells →
    v ≡ take report.read counts' → w ≡ take own cells' → played report v w ≡ play_said q t
ran_so None t own report counts cells counts' cells' v w d l a hc hs tv tw =
    let e : report ≡ t.report = cc in
    let n : length t.counts ≡ report.read = d ∙ ap (λ (x : Report). x.read) (sym e) in
    let x : v ≡ t.counts = tv ∙ ap (take report.read) hc ∙ front_cut t.counts counts report.read n in
    let y : w ≡ t.cells = tw ∙ ap (take own) hs ∙ front_cut t.cells cells own l in
    ap (λ z. played z v w) e ∙ ap (λ z. played t.report z w) x ∙ ap (λ z. played t.report t.counts z) y
ran_so (Some e) t own report counts cells counts' cells' v w d l a hc hs tv tw = absurd (never report e a)

pub played_so : (o : Option Refusal) (t : Told) (own : ℕ) (report : Report) (ns counts cells counts' cells' v w : List ℕ) (i j : ℕ) →
    length t.counts ≡ t.report.read → length t.cells ≡ own → length counts ≡ i → length cells ≡ j →
    Ok report ≡ answered (first_no o (refusal ns counts cells own)) t.report →
    counts' ≡ unless (first_no o (refusal ns counts cells own)) (front t.counts counts) counts →
    cells' ≡ unless (first_no o (refusal ns counts cells own)) (front t.cells cells) cells →
    v ≡ take report.read counts' → w ≡ take own cells' →
    played report v w ≡ play_said (first_no o (refusal ns (replicate i 0) (replicate j 0) own)) t
played_so o t own report ns counts cells counts' cells' v w i j d l ci cj a hc hs tv tw =
    ran_so (first_no o (refusal ns counts cells own)) t own report counts cells counts' cells' v w d l a hc hs tv tw
    ∙ ap (λ q. play_said (first_no o q) t) (refusal_same ns own counts cells i j ci cj)

-- only the length of the buffer matters
counted_same : (a bs : List ℕ) (room : ℕ) → length a ≡ room → counted a bs ≡ counted (replicate room 0) bs
counted_same a bs room e =
    ap (λ n. cond (leb (length bs) n) (Ok (length bs)) (Err BufferShort)) (e ∙ sym (length-replicate room 0))

written : (o : Option Refusal) (fits : Bool) (n : ℕ) (bs rest old out v : List ℕ) →
    Ok n ≡ else o (cond fits (Ok (length bs)) (Err BufferShort)) → out ≡ unless o (cond fits (bs ++ rest) old) old → v ≡ take n out →
    saved v ≡ save_said bs (else o (cond fits (Ok (length bs)) (Err BufferShort)))
written None true n bs rest old out v a h t =
    let e : length bs ≡ n = cc in
    ap saved (t ∙ ap (take n) h ∙ take_at bs rest n e)
written None false n bs rest old out v a h t = absurd (never n BufferShort a)
written (Some x) fits n bs rest old out v a h t = absurd (never n x a)

pub saved_so : (o : Option Refusal) (n room : ℕ) (bs old out v : List ℕ) → length old ≡ room →
    Ok n ≡ else o (counted old bs) → out ≡ unless o (filled old bs) old → v ≡ take n out →
    saved v ≡ save_said bs (else o (counted (replicate room 0) bs))
saved_so o n room bs old out v l a h t =
    written o (leb (length bs) (length old)) n bs (drop (length bs) old) old out v a h t
    ∙ ap (λ r. save_said bs (else o r)) (counted_same old bs room l)

-- of a session that keeps a model, what it holds tells the same as the model
module _ {V : Type 0} {G : Ghosts V} (k : Meaning) (s : Session V G) where
  pub play_model : (ns : List ℕ) (i j : ℕ) (m : Model) → KeepsSession k s m → held_play k (held s) ns i j ≡ played_by k m ns i j
  play_model ns i j = by_model
    where
      at : Stage → Program → ℕ → Said
      at st p r = play_said (first_no (stage_translated st) (refusal ns (replicate i 0) (replicate j 0) (length p.cells))) (play_told k p r ns)

      by_model : (m : Model) → KeepsSession k s m → held_play k (held s) ns i j ≡ played_by k m ns i j
      by_model empty h = ap (λ st. at st (program s.machine) s.machine.rounds) h
      by_model (loaded p) h = ap (λ st. at st (program s.machine) s.machine.rounds) h.stage
      by_model (translated p r v u) h = ap (λ st. at st (program s.machine) s.machine.rounds) h.stage ∙ ap₂ (at Translated) h.program h.rounds

  pub save_model : (room : ℕ) (m : Model) → KeepsSession k s m → held_save k (held s) room ≡ saved_by k m room
  save_model room = by_model
    where
      at : Stage → Program → Said
      at st p = save_said (encoded k.byte p) (else (stage_loaded st) (counted (replicate room 0) (encoded k.byte p)))

      by_model : (m : Model) → KeepsSession k s m → held_save k (held s) room ≡ saved_by k m room
      by_model empty h = ap (λ st. at st (program s.machine)) h
      by_model (loaded p) h = ap₂ at h.stage h.program
      by_model (translated p r v u) h = ap₂ at h.stage h.program
