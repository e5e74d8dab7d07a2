-- The file of a sequential program as it is written, part by part.
use Rattle.std.proofs.Common.{◌≡◌, ℕ, ◌+◌, ◌*◌, ◌<◌, ◌≤◌, List, ◌++◌, length, get_or, drop, refl, ap, ◌∙◌, arith, length-append}
use Rattle.std.proofs.lemmas.List.{drop_more}
use Rattle.records.specs.Wrote.{wrote}
use Rattle.records.proofs.Writes.{advance}
use Rattle.tables.specs.declared.text.ThreadText.{ThreadText}
use Rattle.tables.specs.Encoded.{cell_bytes}
use Rattle.tables.specs.Program.{Program, no_text}
use Rattle.tables.proofs.Saves.{length_cells}
use Rattle.sequences.specs.declared.instruction.Instruction.{Instruction}
use Rattle.sequences.specs.Code.{thread}
use Rattle.sections.specs.declared.owner.Owner.TheVariants as of
use Rattle.sections.specs.Emitted.{sections_from, emitted_of, emitted_length}
use Rattle.sections.specs.Rows.{program_row, section_bytes}
use Rattle.sections.proofs.Sections.{length_section}

-- the sections from thread i on
module _ (S : ℕ → List Instruction) (ts : List ThreadText) (i : ℕ) where
  pub sections_more : (t : ThreadText) (code : List Instruction) → i < length ts → t ≡ get_or ts i no_text → code ≡ S i → sections_from S i (drop i ts) ≡ section_bytes (of.Thread (thread i) t.locals) code ++ sections_from S (i + 1) (drop (i + 1) ts)
  sections_more t code h et ec = let d = drop_more ts i no_text h in cc

  -- how many bytes they have
  pub length_more : i < length ts → length (sections_from S i (drop i ts)) ≡ 10 + 10 * length (S i) + length (sections_from S (i + 1) (drop (i + 1) ts))
  length_more h =
      let t = get_or ts i no_text in
      let own = of.Thread (thread i) t.locals in
      omega (arith, ap length (sections_more t (S i) h refl refl), length-append (section_bytes own (S i)) (sections_from S (i + 1) (drop (i + 1) ts)), length_section own (S i))

pub length_emitted : (byte : ℕ) (p : Program) (rounds : ℕ) (guide : List Instruction) (S : ℕ → List Instruction) → length (emitted_of byte p rounds guide S) ≡ emitted_length p guide S
length_emitted byte p rounds guide S =
    let h = program_row byte p rounds in
    let cs = cell_bytes 0 p.cells in
    let d = section_bytes of.Driver guide in
    let ss = sections_from S 0 p.texts in
    omega (arith, length-append h (cs ++ (d ++ ss)), length-append cs (d ++ ss), length-append d ss, length_cells 0 p.cells, length_section of.Driver guide)

-- four writes, one behind the other
module _ (b₁ b₂ b₃ b₄ out o₁ o₂ o₃ o₄ : List ℕ) (a₁ a₂ a₃ : ℕ) (fits : length (b₁ ++ (b₂ ++ (b₃ ++ b₄))) ≤ length out)
    (l₁ : length o₁ ≡ length out) (l₂ : length o₂ ≡ length out) (l₃ : length o₃ ≡ length out) where
  pub four_writes : o₁ ≡ wrote out 0 b₁ → a₁ ≡ 0 + length b₁ → o₂ ≡ wrote o₁ a₁ b₂ → a₂ ≡ a₁ + length b₂ → o₃ ≡ wrote o₂ a₂ b₃ → a₃ ≡ a₂ + length b₃ → o₄ ≡ wrote o₃ a₃ b₄ → o₄ ≡ wrote out 0 (b₁ ++ (b₂ ++ (b₃ ++ b₄)))
  four_writes u₁ v₁ u₂ v₂ u₃ v₃ u₄ =
      let all = b₁ ++ (b₂ ++ (b₃ ++ b₄)) in
      let W = wrote out 0 all in
      let n = 0 + length all in
      let p = advance out o₁ 0 a₁ b₁ (b₂ ++ (b₃ ++ b₄)) all W n refl refl (omega arith) u₁ v₁ refl in
      let q = advance o₁ o₂ a₁ a₂ b₂ (b₃ ++ b₄) (b₂ ++ (b₃ ++ b₄)) W n refl p.1 (omega arith) u₂ v₂ p.0 in
      let r = advance o₂ o₃ a₂ a₃ b₃ b₄ (b₃ ++ b₄) W n refl q.1 (omega arith) u₃ v₃ q.0 in
      u₄ ∙ r.0
