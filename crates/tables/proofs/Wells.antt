-- The program of an accepted file is well formed.
use Rattle.std.proofs.Common.{◌≡◌, ℕ, suc, ◌+◌, ◌-◌, ◌*◌, ◌/◌, ◌%◌, ◌^◌, ◌<◌, ◌≤◌, true, false, not, ◌&&◌, eqb, ltb, leb, List, [], ◌∷◌, map, length, take, drop, filter, sym, refl, ap, ◌∙◌, subst, suc-le-suc, arith}
use native.Mathlib.Nat.{div-div-eq-div-mul}
use Rattle.kinds.specs.Meaning.{Meaning}
use Rattle.std.specs.List.{AllByRecursion}
use Rattle.std.proofs.lemmas.List.{get_or-drop}
use Rattle.std.proofs.ByRecursion.{All-map, all_kept_by, All-weaker}
use Rattle.std.proofs.lemmas.Bool.{and_parts, cond_both, leb-true, ltb-true, ltb-false}
use Rattle.questions.specs.declared.context.Context.{Context}
use Rattle.questions.specs.declared.context.Due.{Due}
use Rattle.questions.specs.declared.context.Due.TheVariants as due
use Rattle.records.specs.declared.statement.Place.{Place}
use Rattle.records.specs.declared.statement.Place.TheVariants.{Shared, Local}
use Rattle.records.specs.declared.statement.Statement as s
use Rattle.records.specs.declared.statement.Statement.TheVariants.{Set, Copy, Sum, Difference, Less, Same, Jump, Branch, Assume, Assert, Init, Destroy, Lock, Unlock, Create, Join}
use Rattle.records.specs.Verdict.{fine, asked, then}
use Rattle.questions.specs.Answer.{accepted}
use Rattle.records.specs.Bodies.{op, a, c, d, unused, uses, within, fields}
use Rattle.records.specs.Lines.{Bytes, line, lines, pg, sc, th, st, body}
use Rattle.questions.specs.Asks.{exists, target, named, ask, asks, ask_header, ask_cell, ask_thread, ask_statement, ask_known, ask_fields}
use Rattle.questions.specs.Past.{past, passes, start, begun, from_cell, from_thread, from_statement, bounded, Sound}
use Rattle.records.specs.Rows.{statement_row}
use Rattle.tables.specs.WellFormed.{Counts, counts, There, Fit, Numbered, Threads, WellFormed, creates}
use Rattle.questions.specs.Question.{follow, ended, question}
use Rattle.tables.specs.Program.{code, told, texts, onto, bare, decoded}
use Rattle.questions.proofs.Verdicts.{from_asked, from_then}
use Rattle.questions.proofs.Sounds.{past_sound}
use Rattle.tables.proofs.Rows.{Low, Whole, text_back, statement_back, header_back}
use Rattle.tables.proofs.Backs.{onward_parts, only_pg, only_sc, only_th, only_st, keep, leave, size_past}
use Rattle.tables.proofs.Accepted.{parts, counted_cells, counted_texts, first_line, whole_lines}
use Rattle.tables.proofs.Creates.{once_rows}
use Rattle.records.specs.declared.refusal.Refusal.TheVariants as no

-- c of a record whose c is n
abbrev pub wide : ℕ → ℕ
wide n = n / 16777216 % 256 * 16777216 + n / 65536 % 256 * 65536 + n / 256 % 256 * 256 + n % 256

pub wide_back : (v : ℕ) → v < 2 ^ 32 → wide v ≡ v
wide_back v h =
    let e : v / 65536 ≡ v / 256 / 256 = sym (div-div-eq-div-mul v 256 256) in
    let f : v / 16777216 ≡ v / 65536 / 256 = sym (div-div-eq-div-mul v 65536 256) in
    let p : v / 16777216 % 256 ≡ v / 16777216 = omega arith in
    let q : v / 65536 ≡ 256 * (v / 16777216) + v / 65536 % 256 = omega arith in
    let r : v / 256 ≡ 256 * (v / 65536) + v / 256 % 256 = omega arith in
    omega arith

aimed : (x : Context) (n t : ℕ) → t < 256 → (ltb n (wide t) && leb (wide t) x.size) ≡ true → (n < t) × (t ≤ x.size)
aimed x n t l e =
    let z = wide_back t (omega arith) in
    let p = and_parts (ltb n (wide t)) (leb (wide t) x.size) e in
    (omega (arith, ltb-true n (wide t) p.0), omega (arith, leb-true (wide t) x.size p.1))

abbrev pub counts_of : Context → Counts
counts_of x = counts x.cells x.mutexes x.threads x.locals x.size

there : (x : Context) (p : Place) → exists x p ≡ true → There (counts_of x) p
there x (Shared n) e = ltb-true n x.cells e
there x (Local n) e = ltb-true n x.locals e

pub fit_row : (k : Meaning) (x : Context) (n : ℕ) (s : s.Statement) → Low s → ask_fields k x n (body (statement_row s)) s ≡ fine → Fit k (counts_of x) n s
fit_row k x n (Set p v) l e =
    let u = from_asked (exists x p) no.Place 3 (asked (k.lawful v) no.Code 6 fine) e in
    (there x p u.0, (from_asked (k.lawful v) no.Code 6 fine u.1).0, l)
fit_row k x n (Copy p q) l e =
    let u = from_asked (exists x p) no.Place 3 (asked (exists x q) no.Place 4 fine) e in
    (there x p u.0, there x q (from_asked (exists x q) no.Place 4 fine u.1).0)
fit_row k x n (Sum p q r) l e =
    let u = from_asked (exists x p) no.Place 3 (asked (exists x q) no.Place 4 (asked (exists x r) no.Place 5 fine)) e in
    let v = from_asked (exists x q) no.Place 4 (asked (exists x r) no.Place 5 fine) u.1 in
    (there x p u.0, there x q v.0, there x r (from_asked (exists x r) no.Place 5 fine v.1).0)
fit_row k x n (Difference p q r) l e =
    let u = from_asked (exists x p) no.Place 3 (asked (exists x q) no.Place 4 (asked (exists x r) no.Place 5 fine)) e in
    let v = from_asked (exists x q) no.Place 4 (asked (exists x r) no.Place 5 fine) u.1 in
    (there x p u.0, there x q v.0, there x r (from_asked (exists x r) no.Place 5 fine v.1).0)
fit_row k x n (Less p q r) l e =
    let u = from_asked (exists x p) no.Place 3 (asked (exists x q) no.Place 4 (asked (exists x r) no.Place 5 fine)) e in
    let v = from_asked (exists x q) no.Place 4 (asked (exists x r) no.Place 5 fine) u.1 in
    (there x p u.0, there x q v.0, there x r (from_asked (exists x r) no.Place 5 fine v.1).0)
fit_row k x n (Same p q r) l e =
    let u = from_asked (exists x p) no.Place 3 (asked (exists x q) no.Place 4 (asked (exists x r) no.Place 5 fine)) e in
    let v = from_asked (exists x q) no.Place 4 (asked (exists x r) no.Place 5 fine) u.1 in
    (there x p u.0, there x q v.0, there x r (from_asked (exists x r) no.Place 5 fine v.1).0)
fit_row k x n (Jump t) l e = aimed x n t.0 l (from_asked (ltb n (wide t.0) && leb (wide t.0) x.size) no.Target 6 fine e).0
fit_row k x n (Branch p t) l e =
    let u = from_asked (exists x p) no.Place 4 (target x n (wide t.0)) e in
    let v = aimed x n t.0 l (from_asked (ltb n (wide t.0) && leb (wide t.0) x.size) no.Target 6 fine u.1).0 in
    (there x p u.0, v.0, v.1)
fit_row k x n (Assume p) l e = there x p (from_asked (exists x p) no.Place 4 fine e).0
fit_row k x n (Assert p) l e = there x p (from_asked (exists x p) no.Place 4 fine e).0
fit_row k x n (Init m) l e = ltb-true m.0 x.mutexes (from_asked (ltb m.0 x.mutexes) no.Mutex 3 fine e).0
fit_row k x n (Destroy m) l e = ltb-true m.0 x.mutexes (from_asked (ltb m.0 x.mutexes) no.Mutex 3 fine e).0
fit_row k x n (Lock m) l e = ltb-true m.0 x.mutexes (from_asked (ltb m.0 x.mutexes) no.Mutex 3 fine e).0
fit_row k x n (Unlock m) l e = ltb-true m.0 x.mutexes (from_asked (ltb m.0 x.mutexes) no.Mutex 3 fine e).0
fit_row k x n (Create j) l e =
    let u = from_asked (leb 1 j.0 && ltb j.0 x.threads) no.Thread 3 (asked (not (named x j.0)) no.CreatedTwice 3 fine) e in
    let v = and_parts (leb 1 j.0) (ltb j.0 x.threads) u.0 in
    (leb-true 1 j.0 v.0, ltb-true j.0 x.threads v.1)
fit_row k x n (Join j) l e = ltb-true j.0 x.threads (from_asked (ltb j.0 x.threads) no.Thread 3 fine e).0

-- the threads that are left
abbrev Left : Meaning → Context → List (List ℕ) → List s.Statement → Type 0
Left k x hs ss = (at : ℕ) → Threads k x.cells x.mutexes x.threads at (texts at hs) ss

abbrev WCells : Meaning → Context → List (List ℕ) → Type 0
WCells k x rs = AllByRecursion (λ v. k.lawful v ≡ true) (map code (filter sc rs)) × Left k x (filter th rs) (map told (filter st rs))

abbrev WTexts : Meaning → Context → List (List ℕ) → Type 0
WTexts k x rs = (filter sc rs ≡ []) × Left k x (filter th rs) (map told (filter st rs))

abbrev Open : Meaning → Context → ℕ → ℕ → List (List ℕ) → List s.Statement → Type 0
Open k x n m hs ss = (m ≤ length ss) × Numbered k (counts_of x) n (take m ss) × Left k x hs (drop m ss)

abbrev WStatements : Meaning → Context → ℕ → List (List ℕ) → Type 0
WStatements k x n rs = (filter sc rs ≡ []) × Open k x n (x.size - n) (filter th rs) (map told (filter st rs))

abbrev WClaim : Meaning → Context → Due → List (List ℕ) → Type 0
WClaim k x due.Header rs = Unit {0}
WClaim k x (due.Cell n) rs = WCells k x rs
WClaim k x (due.Thread i) rs = WTexts k x rs
WClaim k x (due.Statement n) rs = WStatements k x n rs
WClaim k x due.End rs = rs ≡ []

w_none : (k : Meaning) (x : Context) (e : Due) (i : ℕ) → ended e i ≡ accepted → WClaim k x e []
w_none k x due.Header i h = tt
w_none k x (due.Cell n) i h = absurd (let z : ◌≡◌ {A = ℕ} 0 1 = cc in omega arith)
w_none k x (due.Thread n) i h = absurd (let z : ◌≡◌ {A = ℕ} 0 1 = cc in omega arith)
w_none k x (due.Statement n) i h = absurd (let z : ◌≡◌ {A = ℕ} 0 1 = cc in omega arith)
w_none k x due.End i h = refl

w_text : (k : Meaning) (x : Context) (i : ℕ) (rs : List (List ℕ)) → WClaim k x (from_thread x.threads i) rs → WTexts k x rs
w_text k x i rs =
    cond_both (ltb i x.threads) (due.Thread i) due.End (λ e. WClaim k x e rs → WTexts k x rs) (λ _ q. q) (λ _ e. subst (WTexts k x) (sym e) (refl, λ at. refl))

w_cell : (k : Meaning) (x : Context) (n : ℕ) (rs : List (List ℕ)) → WClaim k x (from_cell x.cells x.threads n) rs → WCells k x rs
w_cell k x n rs =
    cond_both (ltb n x.cells) (due.Cell n) (from_thread x.threads 0) (λ e. WClaim k x e rs → WCells k x rs) (λ _ q. q)
    (λ _ q. let t = w_text k x 0 rs q in (subst (λ zs. AllByRecursion (λ v. k.lawful v ≡ true) (map code zs)) (sym t.0) tt, t.1))

w_statement : (k : Meaning) (x : Context) (n : ℕ) (rs : List (List ℕ)) → WClaim k x (from_statement x.size x.threads x.thread n) rs → WStatements k x n rs
w_statement k x n rs =
    cond_both (ltb n x.size) (due.Statement n) (from_thread x.threads (x.thread + 1)) (λ e. WClaim k x e rs → WStatements k x n rs) (λ _ q. q)
    (λ l q. let t = w_text k x (x.thread + 1) rs q in let g = ltb-false n x.size l in let z : x.size - n ≡ 0 = omega arith in (t.0, subst (λ m. Open k x n m (filter th rs) (map told (filter st rs))) (sym z) (omega arith, tt, t.1)))

moved : (k : Meaning) (x : Context) (hs gs : List (List ℕ)) (us vs : List (List ℕ)) → hs ≡ gs → us ≡ vs → Left k x gs (map told vs) → Left k x hs (map told us)
moved k x hs gs us vs e q w = subst (λ ts. Left k x ts (map told us)) (sym e) (subst (λ ss. Left k x gs (map told ss)) (sym q) w)

w_front : (k : Meaning) (x : Context) (e : Due) (r : List ℕ) (rs : List (List ℕ)) → bounded x e → x.size < 256 → Whole r → asks k x e r ≡ fine → WClaim k (passes x e r) (passes x e r).due rs → WClaim k x e (r ∷ rs)
w_front k x due.Header r rs s z w q ih = tt
w_front k x (due.Cell n) r rs s z w q ih =
    let p = from_asked (sc r) no.Mark 0 (ask_cell k n (body r)) q in
    let t = w_cell k (passes x (due.Cell n) r) (n + 1) rs ih in
    let o = only_sc r p.0 in
    let u = from_asked (eqb (op (body r)) n) no.Index 2 (then (unused (uses false false false true) (body r)) (asked (k.lawful (c (body r))) no.Code 6 fine)) p.1 in
    let v = from_asked (k.lawful (c (body r))) no.Code 6 fine (from_then (unused (uses false false false true) (body r)) (asked (k.lawful (c (body r))) no.Code 6 fine) u.1).1 in
    (subst (λ zs. AllByRecursion (λ v. k.lawful v ≡ true) (map code zs)) (sym (keep sc r rs p.0)) (v.0, t.0), moved k x (filter th (r ∷ rs)) (filter th rs) (filter st (r ∷ rs)) (filter st rs) (leave th r rs o.0) (leave st r rs o.1) t.1)
w_front k x (due.Thread i) r rs s z w q ih =
    let p = from_asked (th r) no.Mark 0 (ask_thread i (body r)) q in
    let t = w_statement k (passes x (due.Thread i) r) 0 rs ih in
    let o = only_th r p.0 in
    let l = text_back i 0 r w.ten p.0 p.1 in
    let ss = map told (filter st rs) in
    let y : a (body r) - 0 ≡ a (body r) = omega arith in
    let u = subst (λ m. Open k (passes x (due.Thread i) r) 0 m (filter th rs) ss) y t.1 in
    (leave sc r rs o.0 ∙ t.0, subst (λ ts. Left k x ts (map told (filter st (r ∷ rs)))) (sym (keep th r rs p.0)) (subst (λ zs. Left k x (r ∷ filter th rs) (map told zs)) (sym (leave st r rs o.1)) (λ at. (l.2, l.3, l.1, refl, u.0, u.1, u.2 (at + a (body r))))))
w_front k x (due.Statement n) r rs s z w q ih =
    let p = from_asked (st r) no.Mark 0 (ask_statement k x n (body r)) q in
    let t = w_statement k (passes x (due.Statement n) r) (n + 1) rs ih in
    let o = only_st r p.0 in
    let g = statement_back k x n r w z p.0 p.1 in
    let ss = map told (filter st rs) in
    let u = from_asked (within 1 16 (op (body r))) no.Operation 2 (ask_known k x n (body r)) p.1 in
    let v = from_then (unused (fields (op (body r))) (body r)) (ask_fields k x n (body r) (told r)) u.1 in
    let f = fit_row k x n (told r) g.1 (ap (λ zs. ask_fields k x n (body zs) (told r)) g.0 ∙ v.1) in
    let y : suc (x.size - (n + 1)) ≡ x.size - n = omega arith in
    (leave sc r rs o.0 ∙ t.0, subst (λ ts. Open k x n (x.size - n) ts (map told (filter st (r ∷ rs)))) (sym (leave th r rs o.1)) (subst (λ zs. Open k x n (x.size - n) (filter th rs) (map told zs)) (sym (keep st r rs p.0)) (subst (λ m. Open k x n m (filter th rs) (told r ∷ ss)) y (suc-le-suc t.1.0, (f, t.1.1), t.1.2))))
w_front k x due.End r rs s z w q ih = absurd (let z : ◌≡◌ {A = ℕ} 0 1 = cc in omega arith)

w_main : (k : Meaning) (x : Context) (i : ℕ) (rs : List (List ℕ)) → Sound x → x.size < 256 → AllByRecursion Whole rs → follow k x i rs ≡ accepted → WClaim k x x.due rs
w_main k x i [] s z w h = w_none k x x.due i h
w_main k x i (r ∷ rs) s z w h =
    let p = onward_parts (ask k x r) i (follow k (past x r) (i + 1) rs) h in
    w_front k x x.due r rs s z w.0 p.0 (w_main k (past x r) (i + 1) rs (past_sound x r s) (size_past x x.due r z w.0) w.1 p.1)

low_code : (r : List ℕ) → Whole r → code r < 2 ^ 32
low_code r w =
    omega (arith, get_or-drop 2 r 4 0, get_or-drop 2 r 5 0, get_or-drop 2 r 6 0, get_or-drop 2 r 7 0, w.small 6, w.small 7, w.small 8, w.small 9)

well_rows : (k : Meaning) (r : List ℕ) (rs : List (List ℕ)) → AllByRecursion Whole (r ∷ rs) → follow k start 0 (r ∷ rs) ≡ accepted → WellFormed k (onto (bare (a (body r))) 0 (r ∷ rs))
well_rows k r rs w u =
    let v = onward_parts (ask k start r) 0 (follow k (past start r) (0 + 1) rs) u in
    let q = from_asked (pg r) no.Mark 0 (ask_header k (body r)) v.0 in
    let o = only_pg r q.0 in
    let t = header_back k r w.0.ten q.0 q.1 in
    let g = w_cell k (begun (body r)) 0 rs (w_main k (past start r) (0 + 1) rs (past_sound start r tt) (omega arith) w.1 v.1) in
    let k1 = leave sc r rs o.0 in
    let k2 = leave th r rs o.1 in
    let k3 = leave st r rs o.2 in
    let n = counted_cells k r rs w u in
    let m = counted_texts k r rs w u in
    record {
      cells_few = omega (arith, n, t.1);
      mutexes_few = t.3;
      threads_some = omega (arith, m, t.4);
      threads_few = omega (arith, m, t.2);
      lawful = subst (λ zs. AllByRecursion (λ v. k.lawful v ≡ true) (map code zs)) (sym k1) g.0;
      words = All-map (λ v. v < 2 ^ 32) code (filter sc (r ∷ rs)) (all_kept_by sc (λ z. code z < 2 ^ 32) (r ∷ rs) (All-weaker Whole (λ z. code z < 2 ^ 32) low_code (r ∷ rs) w));
      threads =
          subst (λ y. Threads k y (a (body r)) (length (texts 0 (filter th (r ∷ rs)))) 0 (texts 0 (filter th (r ∷ rs))) (map told (filter st (r ∷ rs)))) (sym n)
          (subst (λ y. Threads k (d (body r)) (a (body r)) y 0 (texts 0 (filter th (r ∷ rs))) (map told (filter st (r ∷ rs)))) (sym m)
          (moved k (begun (body r)) (filter th (r ∷ rs)) (filter th rs) (filter st (r ∷ rs)) (filter st rs) k2 k3 g.1 0));
      once = λ j. omega (arith, once_rows k r rs t.2 w.1 v.1 j, ap (λ us. creates j (map told us)) k3);
    }

pub well : (k : Meaning) (f : List ℕ) → Bytes f → question k f ≡ accepted → WellFormed k (decoded f)
well k f h e =
    let p = parts k f e in
    let l = first_line k f e in
    subst (λ rs. WellFormed k (onto (bare (a (body (line f 0)))) 0 rs)) (sym l)
    (well_rows k (line f 0) (drop 1 (lines f)) (subst (λ rs. AllByRecursion Whole rs) l (whole_lines f h)) (sym (ap (follow k start 0) l) ∙ p.run))
