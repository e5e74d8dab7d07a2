-- A section as it is written: begun, filled and closed.
use Rattle.std.proofs.Common.{◌≡◌, ℕ, ◌+◌, ◌*◌, ◌<◌, ◌≤◌, true, List, [], ◌∷◌, ◌++◌, length, get_or, drop, sym, refl, ap, ◌∙◌, append_assoc, arith, length-append, length-drop, rules, lt-ltb, le-leb}
use Rattle.std.proofs.lemmas.List.{same_lists, places, drop_more, drop_all}
use Rattle.std.proofs.lemmas.Bool.{cond-true, and_from}
use Rattle.records.specs.Rows.{four}
use Rattle.records.specs.Wrote.{wrote}
use Rattle.records.proofs.Writes.{wrote_more, wrote_none, advance}
use Rattle.sequences.specs.declared.instruction.Instruction.{Instruction}
use Rattle.sequences.specs.declared.instruction.Instruction.TheVariants as op
use Rattle.sections.specs.declared.owed.OwedCount.{OwedCount}
use Rattle.sections.specs.declared.owner.Owner.{Owner}
use Rattle.sections.specs.declared.owner.Owner.TheVariants as of
use Rattle.sections.specs.Owed.{end_of, within, open_to, begun_in, added_to, added_in, closed_in}
use Rattle.sections.specs.Rows.{instruction_row, section_row, code_bytes, section_bytes}

length_row : (x : Instruction) → length (instruction_row x) ≡ 10
length_row (op.Set d c) = refl
length_row (op.Copy d a) = refl
length_row (op.Sum d a b) = refl
length_row (op.Difference d a b) = refl
length_row (op.Less d a b) = refl
length_row (op.Same d a b) = refl
length_row (op.Jump to) = refl
length_row (op.Branch a to) = refl
length_row (op.Assume a) = refl
length_row (op.Assert a) = refl
length_row (op.Hop i t to) = refl
length_row (op.Guard t) = refl
length_row op.Return = refl
length_row (op.Must w v) = refl
length_row (op.MustNot w v) = refl
length_row (op.Need w v) = refl
length_row (op.Put w v) = refl
length_row (op.Slot i to) = refl
length_row (op.Guess i n) = refl
length_row (op.Call i) = refl
length_row (op.Save i) = refl
length_row op.End = refl

pub length_code : (xs : List Instruction) → length (code_bytes xs) ≡ 10 * length xs
length_code [] = refl
length_code (x ∷ xs) = omega (arith, length-append (instruction_row x) (code_bytes xs), length_row x, length_code xs)

-- what stands before the count in a section's record
head : Owner → List ℕ
head of.Driver = 83 ∷ 69 ∷ 255 ∷ 0 ∷ 0 ∷ 0 ∷ []
head (of.Thread i l) = 83 ∷ 69 ∷ i.0 ∷ l ∷ 0 ∷ 0 ∷ []

length_head : (o : Owner) → length (head o) ≡ 6
unfolding head
length_head of.Driver = refl
length_head (of.Thread i l) = refl

row_parts : (o : Owner) (n : ℕ) → section_row o n ≡ head o ++ four n
unfolding head
row_parts of.Driver n = refl
row_parts (of.Thread i l) n = refl

length_section_row : (o : Owner) (n : ℕ) → length (section_row o n) ≡ 10
length_section_row of.Driver n = refl
length_section_row (of.Thread i l) n = refl

pub length_section : (o : Owner) (xs : List Instruction) → length (section_bytes o xs) ≡ 10 + 10 * length xs
length_section o xs =
    omega (arith, length-append (section_row o (length xs)) (code_bytes xs), length_section_row o (length xs), length_code xs)

-- a write over the middle of another
wrote_within : (out h c d j : List ℕ) (a b : ℕ) → b ≡ a + length h → length c ≡ length d → a + length (h ++ (c ++ j)) ≤ length out → wrote (wrote out a (h ++ (c ++ j))) b d ≡ wrote out a (h ++ (d ++ j))
wrote_within out h c d j a b e l le = same_lists _ _ (search (rules, places)) (λ k d h. grind (arith, places))

-- one instruction more
module _ (s s' : OwedCount) (o o' : List ℕ) (at i : ℕ) (xs : List Instruction) (d : Instruction) (W : List ℕ)
    (starts : s.at ≡ at) (counts : s.count ≡ i) (more : i < length xs) (few : length xs ≤ 257) (room : at + (10 + 10 * length xs) ≤ length o) where
  free : open_to s (length o) ≡ true
  free = and_from _ _ (lt-ltb s.count 4294967295 (omega arith)) (le-leb (end_of s + 10) (length o) (omega arith))

  pub one_more : s' ≡ added_to s (length o) → o' ≡ added_in s (get_or xs i d) o → wrote o (at + 10 + 10 * i) (code_bytes (drop i xs)) ≡ W → (s'.at ≡ at) × (s'.count ≡ i + 1) × (wrote o' (at + 10 + 10 * (i + 1)) (code_bytes (drop (i + 1) xs)) ≡ W)
  one_more et ey w =
      let x = get_or xs i d in
      let t = et ∙ cond-true _ _ _ free in
      let e : end_of s ≡ at + 10 + 10 * i = omega arith in
      let y : o' ≡ wrote o (at + 10 + 10 * i) (instruction_row x) = ey ∙ cond-true _ _ _ free ∙ ap (λ n. wrote o n (instruction_row x)) e in
      let e' = drop_more xs i d more in
      let parts : code_bytes (drop i xs) ≡ instruction_row x ++ code_bytes (drop (i + 1) xs) = cc in
      let l = length_code (drop i xs) in
      let m = length-drop i xs in
      let r = length_row x in
      (ap (λ (z : OwedCount). z.at) t ∙ starts, ap (λ (z : OwedCount). z.count) t ∙ ap (λ (n : ℕ). n + 1) counts, (advance o o' (at + 10 + 10 * i) (at + 10 + 10 * (i + 1)) (instruction_row x) (code_bytes (drop (i + 1) xs)) (code_bytes (drop i xs)) W _ parts refl (omega arith) y (omega arith) w).0)

-- the count in its place
module _ (s : OwedCount) (out o₀ o o' : List ℕ) (at : ℕ) (own : Owner) (xs : List Instruction)
    (starts : s.at ≡ at) (counts : s.count ≡ length xs) (room : at + (10 + 10 * length xs) ≤ length out) (long : length o ≡ length out) where
  shut : within s (length o) 0 ≡ true
  shut = le-leb (end_of s + 0) (length o) (omega arith)

  pub ended : o₀ ≡ begun_in out at own → wrote o (at + 10 + 10 * length xs) (code_bytes (drop (length xs) xs)) ≡ wrote o₀ (at + 10) (code_bytes xs) → o' ≡ closed_in s o → o' ≡ wrote out at (section_bytes own xs)
  ended e₀ w ey =
      let n = length xs in
      let b = e₀ ∙ cond-true _ _ _ (le-leb (at + 10) (length out) (omega arith)) in
      let c = code_bytes xs in
      let l = length_code xs in
      let none : code_bytes (drop n xs) ≡ [] = ap code_bytes (drop_all n xs (omega arith)) in
      let z = wrote_none o (at + 10 + 10 * n) in
      let lr = length_section_row own 0 in
      let la = length-append (section_row own 0) c in
      let p = wrote_more out at (section_row own 0) c (omega arith) in
      let q : at + length (section_row own 0) ≡ at + 10 = omega arith in
      let h = head own in
      let lh = length_head own in
      let f : section_row own 0 ++ c ≡ h ++ (four 0 ++ c) = ap (λ r. r ++ c) (row_parts own 0) ∙ append_assoc h (four 0) c in
      let g : section_row own n ++ c ≡ h ++ (four n ++ c) = ap (λ r. r ++ c) (row_parts own n) ∙ append_assoc h (four n) c in
      let v = wrote_within out h (four 0) (four n) c at (at + 6) (omega arith) refl (omega (arith, ap length f)) in
      let was : o ≡ wrote out at (h ++ (four 0 ++ c)) = cc in
      let y : o' ≡ wrote o (at + 6) (four n) = ey ∙ cond-true _ _ _ shut ∙ ap (λ a. wrote o (a + 6) (four s.count)) starts ∙ ap (λ k. wrote o (at + 6) (four k)) counts in
      y ∙ ap (λ u. wrote u (at + 6) (four n)) was ∙ v ∙ ap (λ u. wrote out at u) (sym g)
