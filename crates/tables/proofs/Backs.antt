-- The records of an accepted file are those of the program that it holds.
use Rattle.std.proofs.Common.{◌≡◌, ℕ, suc, ◌+◌, ◌-◌, ◌<◌, ◌≤◌, Bool, true, false, cond, ltb, List, [], ◌∷◌, ◌++◌, map, length, take, drop, Ok, Err, filter, refl, ap, ◌∙◌, arith}
use Rattle.kinds.specs.Meaning.{Meaning}
use Rattle.std.specs.List.{AllByRecursion}
use Rattle.std.proofs.lemmas.Bool.{cond_both, ltb-false}
use Rattle.std.proofs.lemmas.Bool.Decides.{nat_tests}
use Rattle.std.proofs.lemmas.List.{get_or-drop}
use Rattle.questions.specs.declared.context.Context.{Context}
use Rattle.questions.specs.declared.context.Due.{Due}
use Rattle.questions.specs.declared.context.Due.TheVariants as due
use Rattle.records.specs.Verdict.{Verdict, fine}
use Rattle.questions.specs.Answer.{Answer, accepted}
use Rattle.records.specs.Bodies.{a}
use Rattle.records.specs.Lines.{pg, sc, th, st, body}
use Rattle.questions.specs.Asks.{ask, asks, ask_cell, ask_thread, ask_statement}
use Rattle.questions.specs.Past.{past, passes, from_cell, from_thread, from_statement, bounded, Sound}
use Rattle.questions.specs.Question.{follow, onward, ended}
use Rattle.tables.specs.Program.{code, told, texts}
use Rattle.records.specs.Rows.{statement_row}
use Rattle.tables.specs.Encoded.{cell_rows, thread_rows}
use Rattle.questions.proofs.Verdicts.{from_asked}
use Rattle.questions.proofs.Sounds.{past_sound}
use Rattle.tables.proofs.Rows.{Whole, cell_back, text_back, statement_back}
use Rattle.records.specs.declared.refusal.Refusal.TheVariants as no

-- each mark alone
pub only_sc : (r : List ℕ) → sc r ≡ true → (th r ≡ false) × (st r ≡ false)
only_sc r e = (grind (arith, nat_tests), grind (arith, nat_tests))

pub only_th : (r : List ℕ) → th r ≡ true → (sc r ≡ false) × (st r ≡ false)
only_th r e = (grind (arith, nat_tests), grind (arith, nat_tests))

pub only_st : (r : List ℕ) → st r ≡ true → (sc r ≡ false) × (th r ≡ false)
only_st r e = (grind (arith, nat_tests), grind (arith, nat_tests))

pub only_pg : (r : List ℕ) → pg r ≡ true → (sc r ≡ false) × (th r ≡ false) × (st r ≡ false)
only_pg r e = (grind (arith, nat_tests), grind (arith, nat_tests), grind (arith, nat_tests))

pub keep : (t : List ℕ → Bool) (r : List ℕ) (rs : List (List ℕ)) → t r ≡ true → filter t (r ∷ rs) ≡ r ∷ filter t rs
keep t r rs e = ap (λ b. cond b (r ∷ filter t rs) (filter t rs)) e

pub leave : (t : List ℕ → Bool) (r : List ℕ) (rs : List (List ℕ)) → t r ≡ false → filter t (r ∷ rs) ≡ filter t rs
leave t r rs e = ap (λ b. cond b (r ∷ filter t rs) (filter t rs)) e

-- what the records that are left are, by what is due
abbrev pub Cells : Context → ℕ → List (List ℕ) → Type 0
Cells x n rs =
    ((at : ℕ) → cell_rows n (map code (filter sc rs)) ++ thread_rows 0 (texts at (filter th rs)) (map told (filter st rs)) ≡ rs) × (n + length (filter sc rs) ≡ x.cells) × (length (filter th rs) ≡ x.threads)

abbrev pub Texts : Context → ℕ → List (List ℕ) → Type 0
Texts x i rs =
    ((at : ℕ) → thread_rows i (texts at (filter th rs)) (map told (filter st rs)) ≡ rs) × (filter sc rs ≡ []) × (i + length (filter th rs) ≡ x.threads)

abbrev pub Statements : Context → ℕ → ℕ → List (List ℕ) → Type 0
Statements x i m rs =
    ((at : ℕ) → map statement_row (take m (map told (filter st rs))) ++ thread_rows (i + 1) (texts at (filter th rs)) (drop m (map told (filter st rs))) ≡ rs) × (filter sc rs ≡ []) × (i + 1 + length (filter th rs) ≡ x.threads)

abbrev pub Claim : Context → Due → List (List ℕ) → Type 0
Claim x due.Header rs = Unit {0}
Claim x (due.Cell n) rs = Cells x n rs
Claim x (due.Thread i) rs = Texts x i rs
Claim x (due.Statement n) rs = Statements x x.thread (x.size - n) rs
Claim x due.End rs = rs ≡ []

pub onward_parts : (v : Verdict) (i : ℕ) (rest : Answer) → onward v i rest ≡ accepted → (v ≡ fine) × (rest ≡ accepted)
onward_parts (Ok u) i rest e = (refl, e)
onward_parts (Err x) i rest e = absurd (let z : ◌≡◌ {A = ℕ} 0 1 = cc in omega arith)

none : (x : Context) (e : Due) (i : ℕ) → ended e i ≡ accepted → Claim x e []
none x due.Header i h = tt
none x (due.Cell n) i h = absurd (let z : ◌≡◌ {A = ℕ} 0 1 = cc in omega arith)
none x (due.Thread n) i h = absurd (let z : ◌≡◌ {A = ℕ} 0 1 = cc in omega arith)
none x (due.Statement n) i h = absurd (let z : ◌≡◌ {A = ℕ} 0 1 = cc in omega arith)
none x due.End i h = refl

-- the forms at a count
text_form : (x : Context) (i : ℕ) (rs : List (List ℕ)) → i ≤ x.threads → Claim x (from_thread x.threads i) rs → Texts x i rs
text_form x i rs h =
    cond_both (ltb i x.threads) (due.Thread i) due.End (λ e. Claim x e rs → Texts x i rs) (λ _ q. q)
    (λ l e. let m = ltb-false i x.threads l in let k1 = ap (filter th) e in let k2 = ap (filter st) e in let k3 = ap (filter sc) e in ((λ at. (cc)), (cc), omega (arith, ap length k1)))

pub cell_form : (x : Context) (n : ℕ) (rs : List (List ℕ)) → n ≤ x.cells → Claim x (from_cell x.cells x.threads n) rs → Cells x n rs
cell_form x n rs h =
    cond_both (ltb n x.cells) (due.Cell n) (from_thread x.threads 0) (λ e. Claim x e rs → Cells x n rs) (λ _ q. q)
    (λ l q. let m = ltb-false n x.cells l in let t = text_form x 0 rs (omega arith) q in ((λ at. let e = t.0 at in let z = t.1 in cc), omega (arith, ap length t.1), omega arith))

statement_form : (x : Context) (n : ℕ) (rs : List (List ℕ)) → n ≤ x.size → x.thread < x.threads → Claim x (from_statement x.size x.threads x.thread n) rs → Statements x x.thread (x.size - n) rs
statement_form x n rs h g =
    cond_both (ltb n x.size) (due.Statement n) (from_thread x.threads (x.thread + 1)) (λ e. Claim x e rs → Statements x x.thread (x.size - n) rs) (λ _ q. q)
    (λ l q. let m = ltb-false n x.size l in let z : x.size - n ≡ 0 = omega arith in let t = text_form x (x.thread + 1) rs (omega arith) q in ((λ at. let e = t.0 at in cc), t.1, t.2))

-- one record in front of those that are left
front : (k : Meaning) (x : Context) (e : Due) (r : List ℕ) (rs : List (List ℕ)) → bounded x e → x.size < 256 → Whole r → asks k x e r ≡ fine → Claim (passes x e r) (passes x e r).due rs → Claim x e (r ∷ rs)
front k x due.Header r rs s z w q ih = tt
front k x (due.Cell n) r rs s z w q ih =
    let p = from_asked (sc r) no.Mark 0 (ask_cell k n (body r)) q in
    let c = cell_form (passes x (due.Cell n) r) (n + 1) rs (omega arith) ih in
    let m = cell_back k n r w p.0 p.1 in
    let o = only_sc r p.0 in
    let k1 = keep sc r rs p.0 in
    let k2 = leave th r rs o.0 in
    let k3 = leave st r rs o.1 in
    ((λ at. let e = c.0 at in cc), omega (arith, ap length k1, c.1), ap length k2 ∙ c.2)
front k x (due.Thread i) r rs s z w q ih =
    let p = from_asked (th r) no.Mark 0 (ask_thread i (body r)) q in
    let c = statement_form (passes x (due.Thread i) r) 0 rs (omega arith) s ih in
    let o = only_th r p.0 in
    let k1 = leave sc r rs o.0 in
    let k2 = keep th r rs p.0 in
    let k3 = leave st r rs o.1 in
    let n : a (body r) - 0 ≡ a (body r) = omega arith in
    ((λ at. let m = (text_back i at r w.ten p.0 p.1).0 in let e = c.0 (at + a (body r)) in cc), k1 ∙ c.1, omega (arith, ap length k2, c.2))
front k x (due.Statement n) r rs s z w q ih =
    let p = from_asked (st r) no.Mark 0 (ask_statement k x n (body r)) q in
    let c = statement_form (passes x (due.Statement n) r) (n + 1) rs (omega arith) s.1 ih in
    let m = (statement_back k x n r w z p.0 p.1).0 in
    let o = only_st r p.0 in
    let k1 = leave sc r rs o.0 in
    let k2 = leave th r rs o.1 in
    let k3 = keep st r rs p.0 in
    let n : x.size - n ≡ suc (x.size - (n + 1)) = omega arith in
    ((λ at. let e = c.0 at in cc), k1 ∙ c.1, omega (arith, ap length k2, c.2))
front k x due.End r rs s z w q ih = absurd (let z : ◌≡◌ {A = ℕ} 0 1 = cc in omega arith)

pub size_past : (x : Context) (e : Due) (r : List ℕ) → x.size < 256 → Whole r → (passes x e r).size < 256
size_past x due.Header r h w = omega arith
size_past x (due.Cell n) r h w = h
size_past x (due.Thread i) r h w = omega (arith, get_or-drop 2 r 2 0, w.small 4)
size_past x (due.Statement n) r h w = h
size_past x due.End r h w = h

pub main : (k : Meaning) (x : Context) (i : ℕ) (rs : List (List ℕ)) → Sound x → x.size < 256 → AllByRecursion Whole rs → follow k x i rs ≡ accepted → Claim x x.due rs
main k x i [] s z w h = none x x.due i h
main k x i (r ∷ rs) s z w h =
    let p = onward_parts (ask k x r) i (follow k (past x r) (i + 1) rs) h in
    front k x x.due r rs s z w.0 p.0 (main k (past x r) (i + 1) rs (past_sound x r s) (size_past x x.due r z w.0) w.1 p.1)
