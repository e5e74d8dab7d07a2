-- What lasts in a model from call to call: its program exists, its rounds are few, and no walk is past its leaves.
use Rattle.std.proofs.Common.{◌≡◌, ℕ, ◌≤◌, Bool, true, false, cond, leb, List, [], ◌∷◌, Some, None, Ok, Err, Option, refl, arith}
use Rattle.std.specs.List.{AllByRecursion}
use Rattle.std.proofs.lemmas.Bool.{and_parts, leb-true}
use Rattle.agreement.specs.Agreement.{scheduled, guessed}
use Rattle.kinds.specs.Meaning.{Meaning}
use Rattle.questions.specs.Answer as questions
use Rattle.questions.specs.Question.{question}
use Rattle.records.specs.declared.refusal.Refusal.{Refusal}
use Rattle.records.specs.Lines.{Bytes}
use Rattle.reports.specs.Reports.{unless}
use Rattle.tables.specs.Program.{Program}
use Rattle.tables.specs.WellFormed.{WellFormed}
use Rattle.tables.proofs.Wells.{well}
use Rattle.walks.specs.declared.outcome.Outcome.{Outcome}
use Rattle.reports.specs.Counts.{total, onward, walk_no, walk_next}
use Rattle.jobs.specs.Models.{Model, empty, loaded, translated, Call, load, translate, walk, survey, play, drive, found, save, emit, few, load_next, next, after}
use Rattle.jobs.specs.Promises.{Given}

module _ (k : Meaning) where
  pub record SoundTranslation (p : Program) (r v u : ℕ) : Type 0 where
    pub exists : WellFormed k p
    pub some : 1 ≤ r
    pub few : r ≤ 8
    pub walked : v ≤ total (guessed k p r)
    pub surveyed : u ≤ total (scheduled k p r)

  abbrev pub Sound : Model → Type 0
  Sound empty = Unit {0}
  Sound (loaded p) = WellFormed k p
  Sound (translated p r v u) = SoundTranslation p r v u

  load_sound : (f : List ℕ) → Bytes f → (a : questions.Answer) → question k f ≡ a → (m : Model) → Sound m → Sound (load_next a f m)
  load_sound f b (Ok u) e m h = well k f b e
  load_sound f b (Err x) e m h = h

  translate_sound : (p : Program) (r : ℕ) (m : Model) → WellFormed k p → Sound m → (b : Bool) → few r ≡ b → Sound (cond b (translated p r 0 0) m)
  translate_sound p r m w h true e =
      let both = and_parts (leb 1 r) (leb r 8) e in
      record { exists = w; some = leb-true 1 r both.0; few = leb-true r 8 both.1; walked = omega arith; surveyed = omega arith }
  translate_sound p r m w h false e = h

  within : (out : List ℕ → Outcome) (v b : ℕ) → v ≤ total out → walk_next out v b ≤ total out
  within out v b le = either (walk_no out v b)
    where
      either : (o : Option Refusal) → unless o (onward out v b) v ≤ total out
      either None = omega arith
      either (Some e) = le

  -- one call
  next_sound : (m : Model) (c : Call) → Given c → Sound m → Sound (next k m c)
  next_sound m (load f) g h = load_sound f g (question k f) refl m h
  next_sound empty (translate r) g h = tt
  next_sound (loaded p) (translate r) g h = translate_sound p r (loaded p) h h (few r) refl
  next_sound (translated p q v u) (translate r) g h = translate_sound p r (translated p q v u) h.exists h (few r) refl
  next_sound empty (walk b) g h = tt
  next_sound (loaded p) (walk b) g h = h
  next_sound (translated p r v u) (walk b) g h =
      record { exists = h.exists; some = h.some; few = h.few; walked = within (guessed k p r) v b h.walked; surveyed = h.surveyed }
  next_sound empty (survey b) g h = tt
  next_sound (loaded p) (survey b) g h = h
  next_sound (translated p r v u) (survey b) g h =
      record { exists = h.exists; some = h.some; few = h.few; walked = h.walked; surveyed = within (scheduled k p r) u b h.surveyed }
  next_sound m (play numbers counts cells) g h = h
  next_sound m (drive numbers counts cells) g h = h
  next_sound m (found guesses schedule) g h = h
  next_sound m (save out) g h = h
  next_sound m (emit out) g h = h

  -- and any list of them
  pub after_sound : (m : Model) (cs : List Call) → AllByRecursion Given cs → Sound m → Sound (after k m cs)
  after_sound m [] g h = h
  after_sound m (c ∷ cs) g h = after_sound (next k m c) cs g.1 (next_sound m c g.0 h)
