-- A record whose questions all have a yes is the record of what it says.
use Rattle.std.proofs.Common.{◌≡◌, ℕ, zero, suc, ◌+◌, ◌-◌, ◌*◌, ◌/◌, ◌%◌, ◌^◌, ◌<◌, ◌≤◌, true, false, ◌&&◌, ◌||◌, eqb, ltb, leb, List, [], ◌∷◌, length, get_or, refl, ◌∙◌, arith}
use Rattle.kinds.specs.Meaning.{Meaning}
use Rattle.std.proofs.lemmas.Bool.{and_parts, cond_both, eqb-true, leb-true, ltb-false}
use Rattle.records.specs.declared.body.Used.{Used}
use Rattle.questions.specs.declared.context.Context.{Context}
use Rattle.records.specs.declared.statement.Place.TheVariants.{Shared, Local}
use Rattle.records.specs.declared.statement.Statement.{Statement}
use Rattle.records.specs.declared.statement.Statement.TheVariants.{Set, Copy, Sum, Difference, Less, Same, Jump, Branch, Assume, Assert, Init, Destroy, Lock, Unlock, Create, Join}
use Rattle.records.specs.Verdict.{fine}
use Rattle.records.specs.Bodies.{d, a, b, c, unused, uses, within, fields, place_at, statement}
use Rattle.records.specs.Lines.{pg, sc, th, st, body}
use Rattle.questions.specs.Asks.{exists, target, ask_header, ask_cell, ask_thread, ask_fields, ask_known, ask_statement}
use Rattle.tables.specs.Program.{code, told, text}
use Rattle.records.specs.Rows.{four, row, place_byte, statement_row}
use Rattle.tables.specs.Encoded.{cell_row, thread_row}
use Rattle.questions.proofs.Verdicts.{from_asked, from_then}
use Rattle.records.specs.declared.refusal.Refusal.TheVariants as no

-- a record of a file: ten bytes
pub record Whole (r : List ℕ) : Type 0 where
  pub ten : length r ≡ 10
  pub small : (j : ℕ) → get_or r j 0 < 256

short : {X : Type 0} (m : ℕ) → m ≡ 10 → m < 10 → X
short m e h = absurd (omega arith)

-- what holds of any ten numbers holds of a list of ten
by_ten : (P : List ℕ → Type 0) → ((r0 r1 r2 r3 r4 r5 r6 r7 r8 r9 : ℕ) → P (r0 ∷ r1 ∷ r2 ∷ r3 ∷ r4 ∷ r5 ∷ r6 ∷ r7 ∷ r8 ∷ r9 ∷ [])) → (r : List ℕ) → length r ≡ 10 → P r
by_ten P h ([]) e = short 0 e (omega arith)
by_ten P h (r0 ∷ []) e = short 1 e (omega arith)
by_ten P h (r0 ∷ r1 ∷ []) e = short 2 e (omega arith)
by_ten P h (r0 ∷ r1 ∷ r2 ∷ []) e = short 3 e (omega arith)
by_ten P h (r0 ∷ r1 ∷ r2 ∷ r3 ∷ []) e = short 4 e (omega arith)
by_ten P h (r0 ∷ r1 ∷ r2 ∷ r3 ∷ r4 ∷ []) e = short 5 e (omega arith)
by_ten P h (r0 ∷ r1 ∷ r2 ∷ r3 ∷ r4 ∷ r5 ∷ []) e = short 6 e (omega arith)
by_ten P h (r0 ∷ r1 ∷ r2 ∷ r3 ∷ r4 ∷ r5 ∷ r6 ∷ []) e = short 7 e (omega arith)
by_ten P h (r0 ∷ r1 ∷ r2 ∷ r3 ∷ r4 ∷ r5 ∷ r6 ∷ r7 ∷ []) e = short 8 e (omega arith)
by_ten P h (r0 ∷ r1 ∷ r2 ∷ r3 ∷ r4 ∷ r5 ∷ r6 ∷ r7 ∷ r8 ∷ []) e = short 9 e (omega arith)
by_ten P h (r0 ∷ r1 ∷ r2 ∷ r3 ∷ r4 ∷ r5 ∷ r6 ∷ r7 ∷ r8 ∷ r9 ∷ []) e = h r0 r1 r2 r3 r4 r5 r6 r7 r8 r9
by_ten P h (r0 ∷ r1 ∷ r2 ∷ r3 ∷ r4 ∷ r5 ∷ r6 ∷ r7 ∷ r8 ∷ r9 ∷ r10 ∷ rs) e = absurd (let z : length rs + 11 ≡ 10 = omega (arith, e) in omega arith)

-- the seven unused bytes
pub record Blank (u : Used) (s : List ℕ) : Type 0 where
  pub of_d : (u.d || eqb (d s) 0) ≡ true
  pub of_a : (u.a || eqb (a s) 0) ≡ true
  pub of_b : (u.b || eqb (b s) 0) ≡ true
  pub of_c4 : (u.c || eqb (get_or s 4 0) 0) ≡ true
  pub of_c5 : (u.c || eqb (get_or s 5 0) 0) ≡ true
  pub of_c6 : (u.c || eqb (get_or s 6 0) 0) ≡ true
  pub of_c7 : (u.c || eqb (get_or s 7 0) 0) ≡ true

pub blanks : (u : Used) (s : List ℕ) → unused u s ≡ fine → Blank u s
blanks u s e =
    let p = from_asked (u.d || eqb (d s) 0) no.Unused 3 _ e in
    let q = from_asked (u.a || eqb (a s) 0) no.Unused 4 _ p.1 in
    let r = from_asked (u.b || eqb (b s) 0) no.Unused 5 _ q.1 in
    let v = from_asked (u.c || eqb (get_or s 4 0) 0) no.Unused 6 _ r.1 in
    let w = from_asked (u.c || eqb (get_or s 5 0) 0) no.Unused 7 _ v.1 in
    let y = from_asked (u.c || eqb (get_or s 6 0) 0) no.Unused 8 _ w.1 in
    let z = from_asked (u.c || eqb (get_or s 7 0) 0) no.Unused 9 _ y.1 in
    record { of_d = p.0; of_a = q.0; of_b = r.0; of_c4 = v.0; of_c5 = w.0; of_c6 = y.0; of_c7 = z.0 }

pub four_back : (p q r s : ℕ) → p < 256 → q < 256 → r < 256 → s < 256 → four (p * 16777216 + q * 65536 + r * 256 + s) ≡ p ∷ q ∷ r ∷ s ∷ []
four_back p q r s hp hq hr hs =
    let n = p * 16777216 + q * 65536 + r * 256 + s in
    let e0 : n / 16777216 % 256 ≡ p = omega arith in
    let e1 : n / 65536 % 256 ≡ q = omega arith in
    let e2 : n / 256 % 256 ≡ r = omega arith in
    let e3 : n % 256 ≡ s = omega arith in
    cc

-- the byte of the place that a byte means
place_back : (n : ℕ) → n < 256 → place_byte (place_at n) ≡ n
place_back n h =
    cond_both (ltb n 16) (Shared n) (Local (n - 16)) (λ p. place_byte p ≡ n) (λ _. refl) (λ e. let l = ltb-false n 16 e in omega arith)

abbrev pub CellBack : Meaning → ℕ → List ℕ → Type 0
CellBack k n r = Whole r → sc r ≡ true → ask_cell k n (body r) ≡ fine → cell_row n (code r) ≡ r

cell_ten : (k : Meaning) (n : ℕ) (r0 r1 r2 r3 r4 r5 r6 r7 r8 r9 : ℕ) → CellBack k n (r0 ∷ r1 ∷ r2 ∷ r3 ∷ r4 ∷ r5 ∷ r6 ∷ r7 ∷ r8 ∷ r9 ∷ [])
cell_ten k n r0 r1 r2 r3 r4 r5 r6 r7 r8 r9 w m e =
    let s = r2 ∷ r3 ∷ r4 ∷ r5 ∷ r6 ∷ r7 ∷ r8 ∷ r9 ∷ [] in
    let p = and_parts (eqb r0 83) (eqb r1 67) m in
    let q = from_asked (eqb r2 n) no.Index 2 _ e in
    let t = blanks (uses false false false true) s (from_then _ _ q.1).0 in
    let f = four_back r6 r7 r8 r9 (w.small 6) (w.small 7) (w.small 8) (w.small 9) in
    let e0 = eqb-true r0 83 p.0 in
    let e1 = eqb-true r1 67 p.1 in
    let e2 = eqb-true r2 n q.0 in
    let e3 = eqb-true r3 0 t.of_d in
    let e4 = eqb-true r4 0 t.of_a in
    let e5 = eqb-true r5 0 t.of_b in
    cc

pub cell_back : (k : Meaning) (n : ℕ) (r : List ℕ) → CellBack k n r
cell_back k n r w = by_ten (CellBack k n) (cell_ten k n) r w.ten w

abbrev pub TextBack : ℕ → ℕ → List ℕ → Type 0
TextBack n at r = th r ≡ true → ask_thread n (body r) ≡ fine → (thread_row n (text at r) ≡ r) × (a (body r) ≤ 48) × (d (body r) ≤ 8) × (1 ≤ a (body r))

text_ten : (n at : ℕ) (r0 r1 r2 r3 r4 r5 r6 r7 r8 r9 : ℕ) → TextBack n at (r0 ∷ r1 ∷ r2 ∷ r3 ∷ r4 ∷ r5 ∷ r6 ∷ r7 ∷ r8 ∷ r9 ∷ [])
text_ten n at r0 r1 r2 r3 r4 r5 r6 r7 r8 r9 m e =
    let s = r2 ∷ r3 ∷ r4 ∷ r5 ∷ r6 ∷ r7 ∷ r8 ∷ r9 ∷ [] in
    let p = and_parts (eqb r0 84) (eqb r1 72) m in
    let q = from_asked (eqb r2 n) no.Index 2 _ e in
    let u = from_asked (leb r3 8) no.ThreadSize 3 _ q.1 in
    let v = from_asked (within 1 48 r4) no.ThreadSize 4 _ u.1 in
    let t = blanks (uses true true false false) s v.1 in
    let e0 = eqb-true r0 84 p.0 in
    let e1 = eqb-true r1 72 p.1 in
    let e2 = eqb-true r2 n q.0 in
    let e5 = eqb-true r5 0 t.of_b in
    let e6 = eqb-true r6 0 t.of_c4 in
    let e7 = eqb-true r7 0 t.of_c5 in
    let e8 = eqb-true r8 0 t.of_c6 in
    let e9 = eqb-true r9 0 t.of_c7 in
    let y = and_parts (leb 1 r4) (leb r4 48) v.0 in
    (cc, leb-true r4 48 y.1, leb-true r3 8 u.0, leb-true 1 r4 y.0)

pub text_back : (n at : ℕ) (r : List ℕ) → length r ≡ 10 → TextBack n at r
text_back n at r w = by_ten (TextBack n at) (text_ten n at) r w

-- what a header says
abbrev pub HeaderBack : Meaning → List ℕ → Type 0
HeaderBack k r =
    pg r ≡ true → ask_header k (body r) ≡ fine → (row 80 71 k.byte (d (body r)) (a (body r)) (b (body r)) 0 ≡ r) × (d (body r) ≤ 16) × (b (body r) ≤ 8) × (a (body r) ≤ 8) × (1 ≤ b (body r))

header_ten : (k : Meaning) (r0 r1 r2 r3 r4 r5 r6 r7 r8 r9 : ℕ) → HeaderBack k (r0 ∷ r1 ∷ r2 ∷ r3 ∷ r4 ∷ r5 ∷ r6 ∷ r7 ∷ r8 ∷ r9 ∷ [])
header_ten k r0 r1 r2 r3 r4 r5 r6 r7 r8 r9 m e =
    let s = r2 ∷ r3 ∷ r4 ∷ r5 ∷ r6 ∷ r7 ∷ r8 ∷ r9 ∷ [] in
    let p = and_parts (eqb r0 80) (eqb r1 71) m in
    let q = from_asked (eqb r2 k.byte) no.KindByte 2 _ e in
    let u = from_asked (leb r3 16) no.Counts 3 _ q.1 in
    let v = from_asked (leb r4 8) no.Counts 4 _ u.1 in
    let z = from_asked (within 1 8 r5) no.Counts 5 _ v.1 in
    let t = blanks (uses true true true false) s z.1 in
    let e0 = eqb-true r0 80 p.0 in
    let e1 = eqb-true r1 71 p.1 in
    let e2 = eqb-true r2 k.byte q.0 in
    let e6 = eqb-true r6 0 t.of_c4 in
    let e7 = eqb-true r7 0 t.of_c5 in
    let e8 = eqb-true r8 0 t.of_c6 in
    let e9 = eqb-true r9 0 t.of_c7 in
    let y = and_parts (leb 1 r5) (leb r5 8) z.0 in
    (cc, leb-true r3 16 u.0, leb-true r5 8 y.1, leb-true r4 8 v.0, leb-true 1 r5 y.0)

pub header_back : (k : Meaning) (r : List ℕ) → length r ≡ 10 → HeaderBack k r
header_back k r w = by_ten (HeaderBack k) (header_ten k) r w

-- a label is a byte, and a code has 32 bits
abbrev pub Low : Statement → Type 0
Low (Set p v) = v < 2 ^ 32
Low (Copy p q) = Unit {0}
Low (Sum p q r) = Unit {0}
Low (Difference p q r) = Unit {0}
Low (Less p q r) = Unit {0}
Low (Same p q r) = Unit {0}
Low (Jump t) = t.0 < 256
Low (Branch p t) = t.0 < 256
Low (Assume p) = Unit {0}
Low (Assert p) = Unit {0}
Low (Init m) = Unit {0}
Low (Destroy m) = Unit {0}
Low (Lock m) = Unit {0}
Low (Unlock m) = Unit {0}
Low (Create j) = Unit {0}
Low (Join j) = Unit {0}

-- the bytes behind op of a statement whose op is o
module _ (k : Meaning) (x : Context) (n r3 r4 r5 r6 r7 r8 r9 : ℕ) (size : x.size < 256) (h3 : r3 < 256) (h4 : r4 < 256) (h5 : r5 < 256) (h6 : r6 < 256) (h7 : r7 < 256) (h8 : r8 < 256) (h9 : r9 < 256) where
  abbrev OpBack : ℕ → Type 0
  OpBack o =
      Blank (fields o) (o ∷ r3 ∷ r4 ∷ r5 ∷ r6 ∷ r7 ∷ r8 ∷ r9 ∷ []) → ask_fields k x n (o ∷ r3 ∷ r4 ∷ r5 ∷ r6 ∷ r7 ∷ r8 ∷ r9 ∷ []) (statement (o ∷ r3 ∷ r4 ∷ r5 ∷ r6 ∷ r7 ∷ r8 ∷ r9 ∷ [])) ≡ fine → (statement_row (statement (o ∷ r3 ∷ r4 ∷ r5 ∷ r6 ∷ r7 ∷ r8 ∷ r9 ∷ [])) ≡ 83 ∷ 84 ∷ o ∷ r3 ∷ r4 ∷ r5 ∷ r6 ∷ r7 ∷ r8 ∷ r9 ∷ []) × Low (statement (o ∷ r3 ∷ r4 ∷ r5 ∷ r6 ∷ r7 ∷ r8 ∷ r9 ∷ []))

  label_back : (c (0 ∷ 0 ∷ 0 ∷ 0 ∷ r6 ∷ r7 ∷ r8 ∷ r9 ∷ []) ≤ x.size) → four r9 ≡ r6 ∷ r7 ∷ r8 ∷ r9 ∷ []
  label_back h =
      let e0 : r9 / 16777216 % 256 ≡ r6 = omega arith in
      let e1 : r9 / 65536 % 256 ≡ r7 = omega arith in
      let e2 : r9 / 256 % 256 ≡ r8 = omega arith in
      let e3 : r9 % 256 ≡ r9 = omega arith in
      cc

  targeted : (ltb n (c (0 ∷ 0 ∷ 0 ∷ 0 ∷ r6 ∷ r7 ∷ r8 ∷ r9 ∷ [])) && leb (c (0 ∷ 0 ∷ 0 ∷ 0 ∷ r6 ∷ r7 ∷ r8 ∷ r9 ∷ [])) x.size) ≡ true → four r9 ≡ r6 ∷ r7 ∷ r8 ∷ r9 ∷ []
  targeted e =
      let m = c (0 ∷ 0 ∷ 0 ∷ 0 ∷ r6 ∷ r7 ∷ r8 ∷ r9 ∷ []) in
      label_back (leb-true m x.size (and_parts (ltb n m) (leb m x.size) e).1)

  op_1 : OpBack 1
  op_1 t v =
      let p3 = place_back r3 h3 in
      let e4 = eqb-true r4 0 t.of_a in
      let e5 = eqb-true r5 0 t.of_b in
      let f = four_back r6 r7 r8 r9 h6 h7 h8 h9 in
      ((cc), omega arith)

  op_2 : OpBack 2
  op_2 t v =
      let p3 = place_back r3 h3 in
      let p4 = place_back r4 h4 in
      let e5 = eqb-true r5 0 t.of_b in
      let e6 = eqb-true r6 0 t.of_c4 in
      let e7 = eqb-true r7 0 t.of_c5 in
      let e8 = eqb-true r8 0 t.of_c6 in
      let e9 = eqb-true r9 0 t.of_c7 in
      ((cc), tt)

  op_3 : OpBack 3
  op_3 t v =
      let p3 = place_back r3 h3 in
      let p4 = place_back r4 h4 in
      let p5 = place_back r5 h5 in
      let e6 = eqb-true r6 0 t.of_c4 in
      let e7 = eqb-true r7 0 t.of_c5 in
      let e8 = eqb-true r8 0 t.of_c6 in
      let e9 = eqb-true r9 0 t.of_c7 in
      ((cc), tt)

  op_4 : OpBack 4
  op_4 t v =
      let p3 = place_back r3 h3 in
      let p4 = place_back r4 h4 in
      let p5 = place_back r5 h5 in
      let e6 = eqb-true r6 0 t.of_c4 in
      let e7 = eqb-true r7 0 t.of_c5 in
      let e8 = eqb-true r8 0 t.of_c6 in
      let e9 = eqb-true r9 0 t.of_c7 in
      ((cc), tt)

  op_5 : OpBack 5
  op_5 t v =
      let p3 = place_back r3 h3 in
      let p4 = place_back r4 h4 in
      let p5 = place_back r5 h5 in
      let e6 = eqb-true r6 0 t.of_c4 in
      let e7 = eqb-true r7 0 t.of_c5 in
      let e8 = eqb-true r8 0 t.of_c6 in
      let e9 = eqb-true r9 0 t.of_c7 in
      ((cc), tt)

  op_6 : OpBack 6
  op_6 t v =
      let p3 = place_back r3 h3 in
      let p4 = place_back r4 h4 in
      let p5 = place_back r5 h5 in
      let e6 = eqb-true r6 0 t.of_c4 in
      let e7 = eqb-true r7 0 t.of_c5 in
      let e8 = eqb-true r8 0 t.of_c6 in
      let e9 = eqb-true r9 0 t.of_c7 in
      ((cc), tt)

  op_7 : OpBack 7
  op_7 t v =
      let e3 = eqb-true r3 0 t.of_d in
      let e4 = eqb-true r4 0 t.of_a in
      let e5 = eqb-true r5 0 t.of_b in
      let f = targeted (from_asked _ no.Target 6 fine v).0 in
      ((cc), h9)

  op_8 : OpBack 8
  op_8 t v =
      let p4 = place_back r4 h4 in
      let e3 = eqb-true r3 0 t.of_d in
      let e5 = eqb-true r5 0 t.of_b in
      let s = 8 ∷ r3 ∷ r4 ∷ r5 ∷ r6 ∷ r7 ∷ r8 ∷ r9 ∷ [] in
      let w = (from_asked (exists x (place_at r4)) no.Place 4 (target x n (c s)) v).1 in
      let f = targeted (from_asked (ltb n (c s) && leb (c s) x.size) no.Target 6 fine w).0 in
      ((cc), h9)

  op_9 : OpBack 9
  op_9 t v =
      let p4 = place_back r4 h4 in
      let e3 = eqb-true r3 0 t.of_d in
      let e5 = eqb-true r5 0 t.of_b in
      let e6 = eqb-true r6 0 t.of_c4 in
      let e7 = eqb-true r7 0 t.of_c5 in
      let e8 = eqb-true r8 0 t.of_c6 in
      let e9 = eqb-true r9 0 t.of_c7 in
      ((cc), tt)

  op_10 : OpBack 10
  op_10 t v =
      let p4 = place_back r4 h4 in
      let e3 = eqb-true r3 0 t.of_d in
      let e5 = eqb-true r5 0 t.of_b in
      let e6 = eqb-true r6 0 t.of_c4 in
      let e7 = eqb-true r7 0 t.of_c5 in
      let e8 = eqb-true r8 0 t.of_c6 in
      let e9 = eqb-true r9 0 t.of_c7 in
      ((cc), tt)

  op_11 : OpBack 11
  op_11 t v =
      let e4 = eqb-true r4 0 t.of_a in
      let e5 = eqb-true r5 0 t.of_b in
      let e6 = eqb-true r6 0 t.of_c4 in
      let e7 = eqb-true r7 0 t.of_c5 in
      let e8 = eqb-true r8 0 t.of_c6 in
      let e9 = eqb-true r9 0 t.of_c7 in
      ((cc), tt)

  op_12 : OpBack 12
  op_12 t v =
      let e4 = eqb-true r4 0 t.of_a in
      let e5 = eqb-true r5 0 t.of_b in
      let e6 = eqb-true r6 0 t.of_c4 in
      let e7 = eqb-true r7 0 t.of_c5 in
      let e8 = eqb-true r8 0 t.of_c6 in
      let e9 = eqb-true r9 0 t.of_c7 in
      ((cc), tt)

  op_13 : OpBack 13
  op_13 t v =
      let e4 = eqb-true r4 0 t.of_a in
      let e5 = eqb-true r5 0 t.of_b in
      let e6 = eqb-true r6 0 t.of_c4 in
      let e7 = eqb-true r7 0 t.of_c5 in
      let e8 = eqb-true r8 0 t.of_c6 in
      let e9 = eqb-true r9 0 t.of_c7 in
      ((cc), tt)

  op_14 : OpBack 14
  op_14 t v =
      let e4 = eqb-true r4 0 t.of_a in
      let e5 = eqb-true r5 0 t.of_b in
      let e6 = eqb-true r6 0 t.of_c4 in
      let e7 = eqb-true r7 0 t.of_c5 in
      let e8 = eqb-true r8 0 t.of_c6 in
      let e9 = eqb-true r9 0 t.of_c7 in
      ((cc), tt)

  op_15 : OpBack 15
  op_15 t v =
      let e4 = eqb-true r4 0 t.of_a in
      let e5 = eqb-true r5 0 t.of_b in
      let e6 = eqb-true r6 0 t.of_c4 in
      let e7 = eqb-true r7 0 t.of_c5 in
      let e8 = eqb-true r8 0 t.of_c6 in
      let e9 = eqb-true r9 0 t.of_c7 in
      ((cc), tt)

  op_16 : OpBack 16
  op_16 t v =
      let e4 = eqb-true r4 0 t.of_a in
      let e5 = eqb-true r5 0 t.of_b in
      let e6 = eqb-true r6 0 t.of_c4 in
      let e7 = eqb-true r7 0 t.of_c5 in
      let e8 = eqb-true r8 0 t.of_c6 in
      let e9 = eqb-true r9 0 t.of_c7 in
      ((cc), tt)

-- a number from 1 to 16
by_op : (P : ℕ → Type 0) → P 1 → P 2 → P 3 → P 4 → P 5 → P 6 → P 7 → P 8 → P 9 → P 10 → P 11 → P 12 → P 13 → P 14 → P 15 → P 16 → (n : ℕ) → 1 ≤ n → n ≤ 16 → P n
by_op P p1 p2 p3 p4 p5 p6 p7 p8 p9 p10 p11 p12 p13 p14 p15 p16 zero h l = absurd (omega arith)
by_op P p1 p2 p3 p4 p5 p6 p7 p8 p9 p10 p11 p12 p13 p14 p15 p16 (suc zero) h l = p1
by_op P p1 p2 p3 p4 p5 p6 p7 p8 p9 p10 p11 p12 p13 p14 p15 p16 (suc (suc zero)) h l = p2
by_op P p1 p2 p3 p4 p5 p6 p7 p8 p9 p10 p11 p12 p13 p14 p15 p16 (suc (suc (suc zero))) h l = p3
by_op P p1 p2 p3 p4 p5 p6 p7 p8 p9 p10 p11 p12 p13 p14 p15 p16 (suc (suc (suc (suc zero)))) h l = p4
by_op P p1 p2 p3 p4 p5 p6 p7 p8 p9 p10 p11 p12 p13 p14 p15 p16 (suc (suc (suc (suc (suc zero))))) h l = p5
by_op P p1 p2 p3 p4 p5 p6 p7 p8 p9 p10 p11 p12 p13 p14 p15 p16 (suc (suc (suc (suc (suc (suc zero)))))) h l = p6
by_op P p1 p2 p3 p4 p5 p6 p7 p8 p9 p10 p11 p12 p13 p14 p15 p16 (suc (suc (suc (suc (suc (suc (suc zero))))))) h l = p7
by_op P p1 p2 p3 p4 p5 p6 p7 p8 p9 p10 p11 p12 p13 p14 p15 p16 (suc (suc (suc (suc (suc (suc (suc (suc zero)))))))) h l = p8
by_op P p1 p2 p3 p4 p5 p6 p7 p8 p9 p10 p11 p12 p13 p14 p15 p16 (suc (suc (suc (suc (suc (suc (suc (suc (suc zero))))))))) h l = p9
by_op P p1 p2 p3 p4 p5 p6 p7 p8 p9 p10 p11 p12 p13 p14 p15 p16 (suc (suc (suc (suc (suc (suc (suc (suc (suc (suc zero)))))))))) h l = p10
by_op P p1 p2 p3 p4 p5 p6 p7 p8 p9 p10 p11 p12 p13 p14 p15 p16 (suc (suc (suc (suc (suc (suc (suc (suc (suc (suc (suc zero))))))))))) h l = p11
by_op P p1 p2 p3 p4 p5 p6 p7 p8 p9 p10 p11 p12 p13 p14 p15 p16 (suc (suc (suc (suc (suc (suc (suc (suc (suc (suc (suc (suc zero)))))))))))) h l = p12
by_op P p1 p2 p3 p4 p5 p6 p7 p8 p9 p10 p11 p12 p13 p14 p15 p16 (suc (suc (suc (suc (suc (suc (suc (suc (suc (suc (suc (suc (suc zero))))))))))))) h l = p13
by_op P p1 p2 p3 p4 p5 p6 p7 p8 p9 p10 p11 p12 p13 p14 p15 p16 (suc (suc (suc (suc (suc (suc (suc (suc (suc (suc (suc (suc (suc (suc zero)))))))))))))) h l = p14
by_op P p1 p2 p3 p4 p5 p6 p7 p8 p9 p10 p11 p12 p13 p14 p15 p16 (suc (suc (suc (suc (suc (suc (suc (suc (suc (suc (suc (suc (suc (suc (suc zero))))))))))))))) h l = p15
by_op P p1 p2 p3 p4 p5 p6 p7 p8 p9 p10 p11 p12 p13 p14 p15 p16 (suc (suc (suc (suc (suc (suc (suc (suc (suc (suc (suc (suc (suc (suc (suc (suc zero)))))))))))))))) h l = p16
by_op P p1 p2 p3 p4 p5 p6 p7 p8 p9 p10 p11 p12 p13 p14 p15 p16 (suc (suc (suc (suc (suc (suc (suc (suc (suc (suc (suc (suc (suc (suc (suc (suc (suc m))))))))))))))))) h l = absurd (omega arith)

abbrev pub StatementBack : Meaning → Context → ℕ → List ℕ → Type 0
StatementBack k x n r = Whole r → x.size < 256 → st r ≡ true → ask_statement k x n (body r) ≡ fine → (statement_row (told r) ≡ r) × Low (told r)

statement_ten : (k : Meaning) (x : Context) (n : ℕ) (r0 r1 r2 r3 r4 r5 r6 r7 r8 r9 : ℕ) → StatementBack k x n (r0 ∷ r1 ∷ r2 ∷ r3 ∷ r4 ∷ r5 ∷ r6 ∷ r7 ∷ r8 ∷ r9 ∷ [])
statement_ten k x n r0 r1 r2 r3 r4 r5 r6 r7 r8 r9 w z m e =
    let s = r2 ∷ r3 ∷ r4 ∷ r5 ∷ r6 ∷ r7 ∷ r8 ∷ r9 ∷ [] in
    let p = and_parts (eqb r0 83) (eqb r1 84) m in
    let q = from_asked (within 1 16 r2) no.Operation 2 (ask_known k x n s) e in
    let l = and_parts (leb 1 r2) (leb r2 16) q.0 in
    let u = from_then (unused (fields r2) s) (ask_fields k x n s (statement s)) q.1 in
    let e0 = eqb-true r0 83 p.0 in
    let e1 = eqb-true r1 84 p.1 in
    let h3 = w.small 3 in
    let h4 = w.small 4 in
    let h5 = w.small 5 in
    let h6 = w.small 6 in
    let h7 = w.small 7 in
    let h8 = w.small 8 in
    let h9 = w.small 9 in
    let f =
    by_op (OpBack k x n r3 r4 r5 r6 r7 r8 r9 z h3 h4 h5 h6 h7 h8 h9)
    (op_1 k x n r3 r4 r5 r6 r7 r8 r9 z h3 h4 h5 h6 h7 h8 h9)
    (op_2 k x n r3 r4 r5 r6 r7 r8 r9 z h3 h4 h5 h6 h7 h8 h9)
    (op_3 k x n r3 r4 r5 r6 r7 r8 r9 z h3 h4 h5 h6 h7 h8 h9)
    (op_4 k x n r3 r4 r5 r6 r7 r8 r9 z h3 h4 h5 h6 h7 h8 h9)
    (op_5 k x n r3 r4 r5 r6 r7 r8 r9 z h3 h4 h5 h6 h7 h8 h9)
    (op_6 k x n r3 r4 r5 r6 r7 r8 r9 z h3 h4 h5 h6 h7 h8 h9)
    (op_7 k x n r3 r4 r5 r6 r7 r8 r9 z h3 h4 h5 h6 h7 h8 h9)
    (op_8 k x n r3 r4 r5 r6 r7 r8 r9 z h3 h4 h5 h6 h7 h8 h9)
    (op_9 k x n r3 r4 r5 r6 r7 r8 r9 z h3 h4 h5 h6 h7 h8 h9)
    (op_10 k x n r3 r4 r5 r6 r7 r8 r9 z h3 h4 h5 h6 h7 h8 h9)
    (op_11 k x n r3 r4 r5 r6 r7 r8 r9 z h3 h4 h5 h6 h7 h8 h9)
    (op_12 k x n r3 r4 r5 r6 r7 r8 r9 z h3 h4 h5 h6 h7 h8 h9)
    (op_13 k x n r3 r4 r5 r6 r7 r8 r9 z h3 h4 h5 h6 h7 h8 h9)
    (op_14 k x n r3 r4 r5 r6 r7 r8 r9 z h3 h4 h5 h6 h7 h8 h9)
    (op_15 k x n r3 r4 r5 r6 r7 r8 r9 z h3 h4 h5 h6 h7 h8 h9)
    (op_16 k x n r3 r4 r5 r6 r7 r8 r9 z h3 h4 h5 h6 h7 h8 h9)
    r2 (leb-true 1 r2 l.0) (leb-true r2 16 l.1) (blanks (fields r2) s u.0) u.1
    in
    (f.0 ∙ (cc), f.1)

pub statement_back : (k : Meaning) (x : Context) (n : ℕ) (r : List ℕ) → StatementBack k x n r
statement_back k x n r w = by_ten (StatementBack k x n) (statement_ten k x n) r w.ten w
