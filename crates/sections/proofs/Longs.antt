-- The file of a translation: what it is, and how long.
use Rattle.std.proofs.Common.{◌≡◌, ℕ, ◌+◌, ◌*◌, ◌<◌, ◌≤◌, List, [], ◌∷◌, ◌++◌, length, refl, ap, ◌∙◌, arith, length-append, length-take}
use native.Mathlib.Nat.{min-le_left}
use Rattle.kinds.specs.Meaning.{Meaning}
use Rattle.tables.specs.declared.text.ThreadText.{ThreadText}
use Rattle.tables.specs.Encoded.{cell_bytes}
use Rattle.tables.specs.Program.{Program}
use Rattle.tables.specs.WellFormed.{WellFormed}
use Rattle.sequences.specs.declared.instruction.Instruction.{Instruction}
use Rattle.sequences.specs.declared.sequence.Sequence.{Sequence}
use Rattle.sequences.specs.Code.{section, driver}
use Rattle.sequences.specs.Sequences.{Holds, guide_of, sections_of}
use Rattle.sequences.proofs.Drivers.{driver_fits}
use Rattle.sequences.proofs.Joined.{section_few}
use Rattle.sequences.proofs.Smalls.{well_translatable}
use Rattle.sections.specs.Emitted.{owner, sections_from, emitted_of, emitted}
use Rattle.sections.specs.declared.owner.Owner.TheVariants as of
use Rattle.sections.specs.Rows.{program_row, section_bytes}
use Rattle.sections.proofs.Emits.{length_emitted}
use Rattle.sections.proofs.Sections.{length_section}

sections_same : (S R : ℕ → List Instruction) (i n : ℕ) (ts : List ThreadText) → i + length ts ≡ n → ((j : ℕ) → j < n → S j ≡ R j) → sections_from S i ts ≡ sections_from R i ts
sections_same S R i n [] e h = refl
sections_same S R i n (t ∷ ts) e h =
    ap (λ xs. section_bytes (owner i t) xs ++ sections_from S (i + 1) ts) (h i (omega arith))
    ∙ ap (λ bs. section_bytes (owner i t) (R i) ++ bs) (sections_same S R (i + 1) n ts (omega arith) h)

-- what holds the translation is written as the translation
pub emitted_translated : {V : Type 0} (byte : ℕ) (s : Sequence V) (p : Program) (rounds : ℕ) → Holds s p rounds → emitted_of byte p rounds (guide_of s) (sections_of s) ≡ emitted byte p rounds
emitted_translated byte s p rounds h =
    ap (λ g. emitted_of byte p rounds g (sections_of s)) h.guide
    ∙ ap (λ bs. program_row byte p rounds ++ (cell_bytes 0 p.cells ++ (section_bytes of.Driver (driver p rounds) ++ bs))) (sections_same (sections_of s) (section p) 0 (length p.texts) p.texts (omega arith) h.sections)

sections_few : (S : ℕ → List Instruction) → ((j : ℕ) → length (S j) ≤ 241) → (i : ℕ) (ts : List ThreadText) → length (sections_from S i ts) ≤ 2420 * length ts
sections_few S h i [] = omega arith
sections_few S h i (t ∷ ts) =
    omega (arith, length-append (section_bytes (owner i t) (S i)) (sections_from S (i + 1) ts), length_section (owner i t) (S i), h i, sections_few S h (i + 1) ts)

pub emitted_few : (k : Meaning) (p : Program) (rounds : ℕ) → WellFormed k p → rounds ≤ 8 → length (emitted k.byte p rounds) ≤ 22110
emitted_few k p rounds w r =
    let d = driver_fits p rounds r w.threads_few in
    let l = length-take 257 (driver p rounds) in
    let m = min-le_left 257 (length (driver p rounds)) in
    omega (arith, length_emitted k.byte p rounds (driver p rounds) (section p), sections_few (section p) (section_few p (well_translatable k p w)) 0 p.texts, ap length d, w.cells_few, w.threads_few)
