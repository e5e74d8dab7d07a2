-- One more piece of a section, and of the driver.
use Rattle.std.proofs.Common.{◌≡◌, ℕ, suc, ◌+◌, ◌-◌, ◌*◌, ◌%◌, ◌<◌, ◌≤◌, min, List, [], ◌∷◌, ◌++◌, map, length, get_or, take, drop, sym, ap, ◌∙◌, subst, append_assoc, arith}
use native.Mathlib.Nat.{min-eq_left}
use Rattle.std.specs.List.{AllByRecursion, range_with_len}
use Rattle.std.proofs.ByRecursion.{All-get_or}
use Rattle.std.proofs.lemmas.List.{drop_more}
use Rattle.records.specs.declared.statement.Statement.{Statement}
use Rattle.tables.specs.Program.{Program}
use Rattle.sequences.specs.declared.instruction.Instruction.{Instruction}
use Rattle.sequences.specs.declared.instruction.Instruction.TheVariants as op
use Rattle.sequences.specs.declared.instruction.Word.{Word}
use Rattle.sequences.specs.Code.{at, thread, label, word, inner, guarded, guards, past, behind, driver_from}
use Rattle.sequences.specs.Writes.{Low, beyond, label_code, slot_code}
use Rattle.records.proofs.Rooms.{room_left}
use Rattle.sequences.proofs.Ways.{past_guards}

module _ (p : Program) (i : ℕ) (text : List Statement) (A : ℕ → ℕ) where
  abbrev rest : List Statement → ℕ → List Instruction
  rest = behind p i (guarded text) A

  label_behind : (l : ℕ) (z : Statement) → l < length text → rest (drop l text) l ≡ label_code p i text A l (get_or text l z) ++ rest (drop (l + 1) text) (l + 1)
  label_behind l z b =
      let x = get_or text l z in
      let g = guarded text in
      let m : suc l ≡ l + 1 = omega arith in
      ap (λ xs. rest xs l) (drop_more text l z b)
      ∙ ap (λ s. op.Hop (thread i) (label l) (at (past (guards (g s) s) (A s))) ∷ (inner p i A x ++ (guards (g s) s ++ rest (drop (l + 1) text) s))) m
      ∙ ap (λ h. op.Hop (thread i) (label l) (at h) ∷ (inner p i A x ++ (guards (g (l + 1)) (l + 1) ++ rest (drop (l + 1) text) (l + 1)))) (past_guards (g (l + 1)) (l + 1) (A (l + 1)))
      ∙ ap (λ xs. op.Hop (thread i) (label l) (at (beyond (g (l + 1)) (A (l + 1)))) ∷ xs) (sym (append_assoc (inner p i A x) (guards (g (l + 1)) (l + 1)) (rest (drop (l + 1) text) (l + 1))))

  section_more : (n l : ℕ) (z : Statement) (old new : List Instruction) → l < length text → new ≡ take n (old ++ label_code p i text A l (get_or text l z)) → take n (new ++ rest (drop (l + 1) text) (l + 1)) ≡ take n (old ++ rest (drop l text) l)
  section_more n l z old new b e =
      room_left n old new (label_code p i text A l (get_or text l z)) (rest (drop (l + 1) text) (l + 1)) e ∙ ap (λ xs. take n (old ++ xs)) (sym (label_behind l z b))

  -- the statements as they are read
  pub section_next : (n l : ℕ) (z : Statement) (own : List Statement) (old new : List Instruction) → own ≡ text → l < length own → AllByRecursion Low text → (Low (get_or own l z) → new ≡ take n (old ++ label_code p i text A l (get_or own l z))) → take n (new ++ rest (drop (l + 1) text) (l + 1)) ≡ take n (old ++ rest (drop l text) l)
  section_next n l z own old new e b low w =
      let h : l < length text = subst (λ (xs : List Statement). l < length xs) e b in
      let there = subst (λ (xs : List Statement). Low (get_or xs l z)) (sym e) (All-get_or Low text l z h low) in
      section_more n l z old new h (subst (λ (xs : List Statement). new ≡ take n (old ++ label_code p i text A l (get_or xs l z))) e (w there))

module _ (p : Program) (t : ℕ) where
  abbrev pub driver_left : ℕ → ℕ → List Instruction
  driver_left n q = driver_from p (map (λ q. q % t) (range_with_len q (n - q))) (4 * q)

  pub driver_more : (n room q i : ℕ) (old new : List Instruction) → q < n → i ≡ q % t → new ≡ take room (old ++ slot_code p i (4 * q)) → take room (new ++ driver_left n (q + 1)) ≡ take room (old ++ driver_left n q)
  driver_more n room q i old new b ei e =
      let m : n - q ≡ suc (n - (q + 1)) = omega arith in
      let h : 4 * (q + 1) ≡ 4 + 4 * q = omega arith in
      room_left room old new (slot_code p i (4 * q)) (driver_left n (q + 1)) e
      ∙ ap (λ j. take room (old ++ (slot_code p j (4 * q) ++ driver_left n (q + 1)))) ei
      ∙ ap (λ a. take room (old ++ (slot_code p (q % t) (4 * q) ++ driver_from p (map (λ q. q % t) (range_with_len (q + 1) (n - (q + 1)))) a))) h
      ∙ ap (λ y. take room (old ++ driver_from p (map (λ q. q % t) (range_with_len q y)) (4 * q))) (sym m)

  pub driver_ends : (n q : ℕ) → n ≤ q → driver_left n q ≡ op.End ∷ []
  driver_ends n q b =
      let m : n - q ≡ 0 = omega arith in
      ap (λ y. driver_from p (map (λ q. q % t) (range_with_len q y)) (4 * q)) m

-- a word whose number is low enough is the one that has it
pub word_low : (w : Word) (n : ℕ) → w.0 ≡ min n 255 → n ≤ 255 → w ≡ word n
word_low w n e h = ap word (e ∙ min-eq_left h)
