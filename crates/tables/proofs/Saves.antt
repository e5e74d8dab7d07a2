-- The records of a program, one after another.
use Rattle.std.proofs.Common.{◌≡◌, ℕ, suc, ◌+◌, ◌*◌, ◌<◌, ◌≤◌, List, [], ◌∷◌, ◌++◌, map, length, get_or, take, drop, sym, refl, ap, ◌∙◌, append_assoc, arith, length-append}
use lib.ListN.{length-map}
use Rattle.std.specs.List.{AllByRecursion}
use Rattle.std.proofs.lemmas.List.{drop_more, drop_all}
use Rattle.records.specs.declared.statement.Statement.{Statement}
use Rattle.records.specs.declared.statement.Statement.TheVariants.{Set, Copy, Sum, Difference, Less, Same, Jump, Branch, Assume, Assert, Init, Destroy, Lock, Unlock, Create, Join}
use Rattle.tables.specs.declared.text.ThreadText.{ThreadText}
use Rattle.records.specs.Rows.{statement_row}
use Rattle.tables.specs.Encoded.{cell_row, cell_rows, thread_row, thread_rows, flat, cell_bytes, own_bytes, own_thread_bytes, thread_bytes, header_row, encoded}
use Rattle.tables.specs.Program.{Program}
use Rattle.records.specs.Wrote.{wrote}
use Rattle.records.proofs.Writes.{wrote_more, both}

pub cells_more : (ns : List ℕ) (i n : ℕ) (r : List ℕ) → i < length ns → r ≡ cell_row i (get_or ns i n) → cell_bytes i ns ≡ r ++ cell_bytes (i + 1) ns
cells_more ns i n r h q = let d = drop_more ns i n h in cc

pub cells_all : (ns : List ℕ) (i : ℕ) → length ns ≤ i → cell_bytes i ns ≡ []
cells_all ns i h = ap (λ xs. flat (cell_rows i xs)) (drop_all i ns h)

-- those behind the first j
pub statements_more : (ss : List Statement) (j : ℕ) (s : Statement) (r : List ℕ) → j < length ss → r ≡ statement_row (get_or ss j s) → own_bytes (drop j ss) ≡ r ++ own_bytes (drop (j + 1) ss)
statements_more ss j s r h q = let d = drop_more ss j s h in cc

pub statements_all : (ss : List Statement) (j : ℕ) → length ss ≤ j → own_bytes (drop j ss) ≡ []
statements_all ss j h = ap own_bytes (drop_all j ss h)

flat_append : (xs ys : List (List ℕ)) → flat (xs ++ ys) ≡ flat xs ++ flat ys
flat_append [] ys = refl
flat_append (x ∷ xs) ys = ap (λ zs. x ++ zs) (flat_append xs ys) ∙ sym (append_assoc x (flat xs) (flat ys))

-- the threads from i on, with the statements that are left
pub threads_more : (ts : List ThreadText) (ss own left : List Statement) (i : ℕ) (u : ThreadText) → i < length ts → own ≡ take (get_or ts i u).size ss → left ≡ drop (get_or ts i u).size ss → thread_bytes i ts ss ≡ own_thread_bytes i (get_or ts i u) own ++ thread_bytes (i + 1) ts left
threads_more ts ss own left i u h p q =
    let d = drop_more ts i u h in
    let rest = thread_rows (i + 1) (drop (i + 1) ts) left in
    let x = flat_append (map statement_row own) rest in
    let y = append_assoc (thread_row i (get_or ts i u)) (flat (map statement_row own)) (flat rest) in
    cc

pub threads_all : (ts : List ThreadText) (ss : List Statement) (i : ℕ) → length ts ≤ i → thread_bytes i ts ss ≡ []
threads_all ts ss i h = ap (λ xs. flat (thread_rows i xs ss)) (drop_all i ts h)

-- a record has ten bytes
abbrev pub Ten : List ℕ → Type 0
Ten r = length r ≡ 10

pub length_flat : (rs : List (List ℕ)) → AllByRecursion Ten rs → length (flat rs) ≡ 10 * length rs
length_flat [] h = refl
length_flat (r ∷ rs) h = omega (arith, length-append r (flat rs), length_flat rs h.1)

length_statement_row : (s : Statement) → length (statement_row s) ≡ 10
length_statement_row (Set p q) = refl
length_statement_row (Copy p q) = refl
length_statement_row (Sum p q r) = refl
length_statement_row (Difference p q r) = refl
length_statement_row (Less p q r) = refl
length_statement_row (Same p q r) = refl
length_statement_row (Jump p) = refl
length_statement_row (Branch p q) = refl
length_statement_row (Assume p) = refl
length_statement_row (Assert p) = refl
length_statement_row (Init p) = refl
length_statement_row (Destroy p) = refl
length_statement_row (Lock p) = refl
length_statement_row (Unlock p) = refl
length_statement_row (Create p) = refl
length_statement_row (Join p) = refl

pub ten_statements : (ss : List Statement) → AllByRecursion Ten (map statement_row ss)
ten_statements [] = tt
ten_statements (s ∷ ss) = (length_statement_row s, ten_statements ss)

length_rows : (ss : List Statement) → length (flat (map statement_row ss)) ≡ 10 * length ss
length_rows ss = omega (arith, length_flat (map statement_row ss) (ten_statements ss), length-map ss statement_row)

-- the bytes of a text
pub length_text : (i : ℕ) (t : ThreadText) (ss : List Statement) → length (own_thread_bytes i t ss) ≡ 10 + 10 * length ss
length_text i t ss = omega (arith, length_rows ss, length-append (thread_row i t) (flat (map statement_row ss)))

pub ten_cells : (i : ℕ) (ns : List ℕ) → AllByRecursion Ten (cell_rows i ns)
ten_cells i [] = tt
ten_cells i (n ∷ ns) = (refl, ten_cells (i + 1) ns)

pub count_cells : (i : ℕ) (ns : List ℕ) → length (cell_rows i ns) ≡ length ns
count_cells i [] = refl
count_cells i (n ∷ ns) = ap suc (count_cells (i + 1) ns)

pub length_cells : (i : ℕ) (ns : List ℕ) → length (flat (cell_rows i ns)) ≡ 10 * length ns
length_cells i ns = omega (arith, length_flat (cell_rows i ns) (ten_cells i ns), count_cells i ns)

pub encoded_parts : (byte : ℕ) (p : Program) → encoded byte p ≡ header_row byte p ++ (cell_bytes 0 p.cells ++ thread_bytes 0 p.texts p.statements)
encoded_parts byte p = ap (λ bs. header_row byte p ++ bs) (flat_append (cell_rows 0 p.cells) (thread_rows 0 p.texts p.statements))

pub length_encoded : (byte : ℕ) (p : Program) (n : ℕ) → n ≡ length (thread_bytes 0 p.texts p.statements) → 10 + 10 * length p.cells + n ≡ length (encoded byte p)
length_encoded byte p n e =
    let h = header_row byte p in
    let cs = cell_bytes 0 p.cells in
    let ts = thread_bytes 0 p.texts p.statements in
    omega (arith, ap length (encoded_parts byte p), length-append h (cs ++ ts), length-append cs ts, length_cells 0 p.cells)

-- the header, the cells and the threads, one write behind the other
module _ (byte : ℕ) (p : Program) (out out₁ out₂ out₃ : List ℕ) (at next : ℕ) (r : List ℕ) (fits : length (encoded byte p) ≤ length out) where
  pub all_written : r ≡ header_row byte p → out₁ ≡ wrote out 0 r → at ≡ 0 + 10 → out₂ ≡ wrote out₁ at (cell_bytes 0 p.cells) → next ≡ at + length (cell_bytes 0 p.cells) → out₃ ≡ wrote out₂ next (thread_bytes 0 p.texts p.statements) → out₃ ≡ wrote out 0 (encoded byte p)
  all_written e u v w x y =
      let cs = cell_bytes 0 p.cells in
      let ts = thread_bytes 0 p.texts p.statements in
      let hd = header_row byte p in
      let l = length-append hd cs in
      let q = encoded_parts byte p ∙ sym (append_assoc hd cs ts) in
      let f : 0 + length ((hd ++ cs) ++ ts) ≤ length out = omega (arith, ap length q) in
      let g : 0 + length (hd ++ cs) ≤ length out = omega (arith, length-append (hd ++ cs) ts) in
      let b = both out out₁ out₂ 0 at r hd cs e refl u v w g in
      let m = wrote_more out 0 (hd ++ cs) ts f in
      let z : next ≡ 0 + length (hd ++ cs) = omega arith in
      cc
