-- An accepted file is the file of the program that it holds.
use Rattle.std.proofs.Common.{◌≡◌, ℕ, zero, suc, ◌+◌, ◌*◌, ◌/◌, ◌%◌, ◌≤◌, Bool, true, false, cond, ◌&&◌, eqb, leb, List, ◌∷◌, map, length, take, drop, filter, sym, refl, ap, ◌∙◌, subst, inl, inr, arith, length-drop, length-take, take-add}
use lib.ListN.{length-map}
use Rattle.kinds.specs.Meaning.{Meaning}
use Rattle.std.specs.List.{range_with_len, AllByRecursion}
use Rattle.std.proofs.lemmas.Bool.{and_parts, leb-true, eqb-true, cases_lt}
use Rattle.std.proofs.lemmas.List.{get_or-take, get_or-drop, get_or_past, drop-drop, take_all}
use Rattle.questions.specs.Answer.{Answer, accepted, refused}
use Rattle.records.specs.Bodies.{a, b, d}
use Rattle.records.specs.Lines.{Bytes, line, lines, pg, sc, th, st, body}
use Rattle.questions.specs.Asks.{ask, ask_header}
use Rattle.questions.specs.Past.{past, start, begun}
use Rattle.questions.specs.Question.{follow, sized, question}
use Rattle.tables.specs.Program.{onto, bare, decoded, code, texts}
use Rattle.tables.specs.Encoded.{rows, flat, encoded}
use Rattle.questions.proofs.Verdicts.{from_asked}
use Rattle.questions.proofs.Sounds.{past_sound}
use Rattle.questions.proofs.Follows.{lines_more}
use Rattle.tables.proofs.Ontos.{length_texts}
use Rattle.tables.proofs.Rows.{Whole, header_back}
use Rattle.tables.proofs.Backs.{main, cell_form, onward_parts, only_pg, leave}
use Rattle.records.specs.declared.refusal.Refusal.TheVariants as no

-- a file that is accepted, in parts
pub record Parts (k : Meaning) (f : List ℕ) : Type 0 where
  pub least : 30 ≤ length f
  pub most : length f ≤ 4090
  pub tens : length f % 10 ≡ 0
  pub run : follow k start 0 (lines f) ≡ accepted

picked : (g : Bool) (v : Answer) → cond g v (refused no.Length 0 0) ≡ accepted → (g ≡ true) × (v ≡ accepted)
picked true v e = (refl, e)
picked false v e = absurd (let z : ◌≡◌ {A = ℕ} 0 1 = cc in omega arith)

pub parts : (k : Meaning) (f : List ℕ) → question k f ≡ accepted → Parts k f
parts k f e =
    let p = picked (sized f) (follow k start 0 (lines f)) e in
    let q = and_parts (leb 30 (length f) && leb (length f) 4090) (eqb (length f % 10) 0) p.0 in
    let r = and_parts (leb 30 (length f)) (leb (length f) 4090) q.0 in
    record { least = leb-true 30 (length f) r.0; most = leb-true (length f) 4090 r.1; tens = eqb-true (length f % 10) 0 q.1; run = p.1 }

whole_line : (f : List ℕ) (i : ℕ) → Bytes f → 10 * i + 10 ≤ length f → Whole (line f i)
whole_line f i h l =
    let e : length (line f i) ≡ 10 = simp (length-take, length-drop) (omega arith) in
    record {
      ten = e;
      small = λ j. elim (cases_lt j 10) [
        | inl m ↦ omega (arith, get_or-take 10 (drop (10 * i) f) j 0 m, get_or-drop (10 * i) f j 0, h (10 * i + j))
        | inr m ↦ omega (arith, get_or_past (line f i) j 0 (omega arith))
      ];
    }

all_whole : (f : List ℕ) (m n : ℕ) → Bytes f → 10 * (m + n) ≤ length f → AllByRecursion Whole (map (line f) (range_with_len m n))
all_whole f m zero h l = tt
all_whole f m (suc n) h l = (whole_line f m h (omega arith), all_whole f (m + 1) n h (omega arith))

flat_lines : (f : List ℕ) (m n : ℕ) → flat (map (line f) (range_with_len m n)) ≡ take (10 * n) (drop (10 * m) f)
flat_lines f m zero = refl
flat_lines f m (suc n) =
    let e : 10 * suc n ≡ 10 + 10 * n = omega arith in
    let g : 10 * m + 10 ≡ 10 * (m + 1) = omega arith in
    let p = flat_lines f (m + 1) n in
    let q = take-add 10 (10 * n) (drop (10 * m) f) in
    let r = drop-drop 10 (10 * m) f in
    cc

pub lines_flat : (f : List ℕ) → length f % 10 ≡ 0 → flat (lines f) ≡ f
lines_flat f e =
    flat_lines f 0 (length f / 10) ∙ take_all (10 * (length f / 10)) f (omega arith)

-- what accepted records hold
pub record Held (k : Meaning) (m : ℕ) (rs : List (List ℕ)) : Type 0 where
  pub back : rows k.byte (onto (bare m) 0 rs) ≡ rs
  pub wide : length (filter sc rs) ≤ 16
  pub deep : length (filter th rs) ≤ 8

pub held_rows : (k : Meaning) (r : List ℕ) (rs : List (List ℕ)) → AllByRecursion Whole (r ∷ rs) → follow k start 0 (r ∷ rs) ≡ accepted → Held k (a (body r)) (r ∷ rs)
held_rows k r rs w u =
    let v = onward_parts (ask k start r) 0 (follow k (past start r) (0 + 1) rs) u in
    let q = from_asked (pg r) no.Mark 0 (ask_header k (body r)) v.0 in
    let o = only_pg r q.0 in
    let t = header_back k r w.0.ten q.0 q.1 in
    let c = cell_form (begun (body r)) 0 rs (omega arith) (main k (past start r) (0 + 1) rs (past_sound start r tt) (omega arith) w.1 v.1) in
    let k1 = leave sc r rs o.0 in
    let k2 = leave th r rs o.1 in
    let k3 = leave st r rs o.2 in
    let n : length (map code (filter sc (r ∷ rs))) ≡ d (body r) = omega (arith, length-map (filter sc (r ∷ rs)) code, ap length k1, c.1) in
    let m : length (texts 0 (filter th (r ∷ rs))) ≡ b (body r) = omega (arith, length_texts 0 (filter th (r ∷ rs)), ap length k2, c.2) in
    let g = c.0 0 in
    let z = t.0 in
    record { back = cc; wide = omega (arith, ap length k1, c.1, t.1); deep = omega (arith, ap length k2, c.2, t.2) }

pub counted_cells : (k : Meaning) (r : List ℕ) (rs : List (List ℕ)) → AllByRecursion Whole (r ∷ rs) → follow k start 0 (r ∷ rs) ≡ accepted → length (map code (filter sc (r ∷ rs))) ≡ d (body r)
counted_cells k r rs w u =
    let v = onward_parts (ask k start r) 0 (follow k (past start r) (0 + 1) rs) u in
    let q = from_asked (pg r) no.Mark 0 (ask_header k (body r)) v.0 in
    let c = cell_form (begun (body r)) 0 rs (omega arith) (main k (past start r) (0 + 1) rs (past_sound start r tt) (omega arith) w.1 v.1) in
    omega (arith, length-map (filter sc (r ∷ rs)) code, ap length (leave sc r rs (only_pg r q.0).0), c.1)

pub counted_texts : (k : Meaning) (r : List ℕ) (rs : List (List ℕ)) → AllByRecursion Whole (r ∷ rs) → follow k start 0 (r ∷ rs) ≡ accepted → length (texts 0 (filter th (r ∷ rs))) ≡ b (body r)
counted_texts k r rs w u =
    let v = onward_parts (ask k start r) 0 (follow k (past start r) (0 + 1) rs) u in
    let q = from_asked (pg r) no.Mark 0 (ask_header k (body r)) v.0 in
    let c = cell_form (begun (body r)) 0 rs (omega arith) (main k (past start r) (0 + 1) rs (past_sound start r tt) (omega arith) w.1 v.1) in
    omega (arith, length_texts 0 (filter th (r ∷ rs)), ap length (leave th r rs (only_pg r q.0).1), c.2)

pub first_line : (k : Meaning) (f : List ℕ) → question k f ≡ accepted → lines f ≡ line f 0 ∷ drop 1 (lines f)
first_line k f e = lines_more f 0 (omega (arith, (parts k f e).least))

pub whole_lines : (f : List ℕ) → Bytes f → AllByRecursion Whole (lines f)
whole_lines f h = all_whole f 0 (length f / 10) h (omega arith)

pub held : (k : Meaning) (f : List ℕ) → Bytes f → question k f ≡ accepted → Held k (a (body (line f 0))) (lines f)
held k f h e =
    let p = parts k f e in
    let l : lines f ≡ line f 0 ∷ drop 1 (lines f) = lines_more f 0 (omega (arith, p.least)) in
    let w : AllByRecursion Whole (lines f) = all_whole f 0 (length f / 10) h (omega arith) in
    subst (λ rs. Held k (a (body (line f 0))) rs) (sym l)
    (held_rows k (line f 0) (drop 1 (lines f)) (subst (λ rs. AllByRecursion Whole rs) l w) (sym (ap (follow k start 0) l) ∙ p.run))

-- a file that Load accepts is the file of the program that it holds
pub comes_back : (k : Meaning) (f : List ℕ) → Bytes f → question k f ≡ accepted → encoded k.byte (decoded f) ≡ f
comes_back k f h e = ap flat (held k f h e).back ∙ lines_flat f (parts k f e).tens
