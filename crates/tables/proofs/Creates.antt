-- No thread is created twice: a CREATE names a thread that none before it has named.
use Rattle.std.proofs.Common.{◌≡◌, ℕ, ◌+◌, ◌<◌, ◌≤◌, Bool, true, false, cond, not, ◌&&◌, eqb, ltb, leb, List, [], ◌∷◌, map, length, get_or, set, filter, sym, refl, ap, ◌∙◌, subst, inl, inr, arith, length-set}
use Rattle.kinds.specs.Meaning.{Meaning}
use Rattle.std.specs.List.{AllByRecursion}
use Rattle.std.proofs.lemmas.List.{get_or-set_same, get_or-set_other}
use Rattle.std.proofs.lemmas.Bool.{and_parts, cases_eq, cond_both, cond-true, cond-false, eq-eqb, ne_eqb, ltb-true, not-true}
use Rattle.questions.specs.declared.context.Context.{Context}
use Rattle.questions.specs.declared.context.Due.{Due}
use Rattle.questions.specs.declared.context.Due.TheVariants as due
use Rattle.records.specs.declared.statement.Statement.{Statement}
use Rattle.records.specs.declared.statement.Statement.TheVariants.{Set, Copy, Sum, Difference, Less, Same, Jump, Branch, Assume, Assert, Init, Destroy, Lock, Unlock, Create, Join}
use Rattle.records.specs.declared.statement.Thread.{Thread}
use Rattle.records.specs.Verdict.{fine, asked}
use Rattle.questions.specs.Answer.{accepted}
use Rattle.records.specs.Bodies.{op, b, d, unused, fields, within}
use Rattle.records.specs.Lines.{sc, th, st, body}
use Rattle.questions.specs.Asks.{named, ask, asks, ask_cell, ask_thread, ask_statement, ask_known, ask_fields}
use Rattle.questions.specs.Past.{past, passes, names, begun, from_cell, from_thread, from_statement}
use Rattle.records.specs.Rows.{statement_row}
use Rattle.tables.specs.WellFormed.{creating, creates}
use Rattle.questions.specs.Question.{follow}
use Rattle.tables.specs.Program.{told}
use Rattle.questions.proofs.Verdicts.{never, from_asked, from_then}
use Rattle.tables.proofs.Rows.{Whole, statement_back}
use Rattle.tables.proofs.Backs.{onward_parts, only_sc, only_th, keep, leave, size_past}
use Rattle.records.specs.declared.refusal.Refusal.TheVariants as no

-- a CREATE, or a statement that names no thread
pub by_create : (P : Statement → Type 0) → ((i : Thread) → P (Create i)) → ((s : Statement) → ((j : ℕ) → creating j s ≡ 0) → eqb (op (body (statement_row s))) 15 ≡ false → P s) → (s : Statement) → P s
by_create P c o (Set p v) = o (Set p v) (λ j. refl) refl
by_create P c o (Copy p q) = o (Copy p q) (λ j. refl) refl
by_create P c o (Sum p q r) = o (Sum p q r) (λ j. refl) refl
by_create P c o (Difference p q r) = o (Difference p q r) (λ j. refl) refl
by_create P c o (Less p q r) = o (Less p q r) (λ j. refl) refl
by_create P c o (Same p q r) = o (Same p q r) (λ j. refl) refl
by_create P c o (Jump t) = o (Jump t) (λ j. refl) refl
by_create P c o (Branch p t) = o (Branch p t) (λ j. refl) refl
by_create P c o (Assume p) = o (Assume p) (λ j. refl) refl
by_create P c o (Assert p) = o (Assert p) (λ j. refl) refl
by_create P c o (Init x) = o (Init x) (λ j. refl) refl
by_create P c o (Destroy x) = o (Destroy x) (λ j. refl) refl
by_create P c o (Lock x) = o (Lock x) (λ j. refl) refl
by_create P c o (Unlock x) = o (Unlock x) (λ j. refl) refl
by_create P c o (Create i) = c i
by_create P c o (Join i) = o (Join i) (λ j. refl) refl

-- one where a CREATE so far names thread j
abbrev pub mark : List Bool → ℕ → ℕ
mark xs j = cond (get_or xs j false) 1 0

-- a CREATE's thread is one of those that none has named
abbrev pub New : List Bool → Statement → Type 0
New xs s = (j : ℕ) → creating j s ≡ 1 → (j < length xs) × (get_or xs j false ≡ false)

-- what a statement adds to the names
abbrev Adds : List Bool → ℕ → Statement → Type 0
Adds xs j s = New xs s → mark (names xs (body (statement_row s))) j ≡ creating j s + mark xs j

pub adds : (xs : List Bool) (j : ℕ) (s : Statement) → Adds xs j s
adds xs j =
    by_create (Adds xs j)
    (λ i h. elim (cases_eq i.0 j) [
      | inl e ↦
          let u : creating j (Create i) ≡ 1 = cond-true (eqb i.0 j) 1 0 (eq-eqb i.0 j e) in
          let n = h j u in
          let v = get_or-set_same xs j true false n.0 in
          let w = n.1 in
          let z : ◌≡◌ {A = ℕ} (1 + 0) 1 = refl in
          cc
      | inr e ↦
          let u : creating j (Create i) ≡ 0 = cond-false (eqb i.0 j) 1 0 (ne_eqb i.0 j e) in
          let v = get_or-set_other xs i.0 j true false (λ q. e (sym q)) in
          let z : 0 + mark xs j ≡ mark xs j = omega arith in
          cc
    ])
    (λ s n e h. let u = n j in let z : 0 + mark xs j ≡ mark xs j = omega arith in cc)

mark_few : (xs : List Bool) (j : ℕ) → mark xs j ≤ 1
mark_few xs j = cond_both (get_or xs j false) 1 0 (λ n. n ≤ 1) (λ _. omega arith) (λ _. omega arith)

pub created_is : (i : Thread) (j : ℕ) → creating j (Create i) ≡ 1 → i.0 ≡ j
created_is i j q = elim (cases_eq i.0 j) [ inl e ↦ e | inr e ↦ absurd (omega (arith, cond-false {A = ℕ} (eqb i.0 j) 1 0 (ne_eqb i.0 j e))) ]

-- a CREATE whose questions have a yes is new
new : (k : Meaning) (x : Context) (n : ℕ) (b : List ℕ) → x.threads ≤ 8 → length x.created ≡ 8 → (s : Statement) → ask_fields k x n b s ≡ fine → New x.created s
new k x n b t l =
    by_create (λ s. ask_fields k x n b s ≡ fine → New x.created s)
    (λ i e j q.
    let u = from_asked (leb 1 i.0 && ltb i.0 x.threads) no.Thread 3 (asked (not (named x i.0)) no.CreatedTwice 3 fine) e in
    let v = from_asked (not (named x i.0)) no.CreatedTwice 3 fine u.1 in
    let m = ltb-true i.0 x.threads (and_parts (leb 1 i.0) (ltb i.0 x.threads) u.0).1 in
    let g = created_is i j q in
    (omega arith, subst (λ m. named x m ≡ false) g (not-true (named x i.0) v.0)))
    (λ s z _ e j q. absurd (omega (arith, z j)))

-- behind the header
abbrev Later : Due → Type 0
Later due.Header = ⊥
Later (due.Cell n) = Unit {0}
Later (due.Thread i) = Unit {0}
Later (due.Statement n) = Unit {0}
Later due.End = Unit {0}

later_thread : (t i : ℕ) → Later (from_thread t i)
later_thread t i = cond_both (ltb i t) (due.Thread i) due.End Later (λ _. tt) (λ _. tt)

later_cell : (s t i : ℕ) → Later (from_cell s t i)
later_cell s t i = cond_both (ltb i s) (due.Cell i) (from_thread t 0) Later (λ _. tt) (λ _. later_thread t 0)

later_statement : (z t i n : ℕ) → Later (from_statement z t i n)
later_statement z t i n = cond_both (ltb n z) (due.Statement n) (from_thread t (i + 1)) Later (λ _. tt) (λ _. later_thread t (i + 1))

pub length_names : (xs : List Bool) (s : List ℕ) → length (names xs s) ≡ length xs
length_names xs s = cond_both (eqb (op s) 15) (set xs (d s) true) xs (λ ys. length ys ≡ length xs) (λ _. length-set xs (d s) true) (λ _. refl)

-- a context behind the header
record Begun (x : Context) : Type 0 where
  eight : length x.created ≡ 8
  few : x.threads ≤ 8
  low : x.size < 256

-- what the records that are left still create
abbrev Once : Context → List (List ℕ) → Type 0
Once x rs = (j : ℕ) → creates j (map told (filter st rs)) + mark x.created j ≤ 1

begun_past : (x : Context) (e : Due) (r : List ℕ) → Later e → Whole r → Begun x → Begun (passes x e r)
begun_past x due.Header r l w h = absurd l
begun_past x (due.Cell n) r l w h = record { eight = h.eight; few = h.few; low = h.low }
begun_past x (due.Thread i) r l w h = record { eight = h.eight; few = h.few; low = size_past x (due.Thread i) r h.low w }
begun_past x (due.Statement n) r l w h = record { eight = length_names x.created (body r) ∙ h.eight; few = h.few; low = h.low }
begun_past x due.End r l w h = h

later_past : (x : Context) (e : Due) (r : List ℕ) → Later e → x.due ≡ e → Later (passes x e r).due
later_past x due.Header r l q = absurd l
later_past x (due.Cell n) r l q = later_cell x.cells x.threads (n + 1)
later_past x (due.Thread i) r l q = later_statement (passes x (due.Thread i) r).size x.threads i 0
later_past x (due.Statement n) r l q = later_statement x.size x.threads x.thread (n + 1)
later_past x due.End r l q = subst Later (sym q) l

once_left : (x y : Context) (r : List ℕ) (rs : List (List ℕ)) → y.created ≡ x.created → st r ≡ false → Once y rs → Once x (r ∷ rs)
once_left x y r rs c e h j = omega (arith, h j, ap (λ us. creates j (map told us)) (leave st r rs e), ap (λ xs. mark xs j) c)

once_front : (k : Meaning) (x : Context) (e : Due) (r : List ℕ) (rs : List (List ℕ)) → Later e → Begun x → Whole r → asks k x e r ≡ fine → Once (passes x e r) rs → Once x (r ∷ rs)
once_front k x due.Header r rs l h w q ih j = absurd l
once_front k x (due.Cell n) r rs l h w q ih j =
    once_left x (passes x (due.Cell n) r) r rs refl (only_sc r (from_asked (sc r) no.Mark 0 (ask_cell k n (body r)) q).0).1 ih j
once_front k x (due.Thread i) r rs l h w q ih j =
    once_left x (passes x (due.Thread i) r) r rs refl (only_th r (from_asked (th r) no.Mark 0 (ask_thread i (body r)) q).0).1 ih j
once_front k x (due.Statement n) r rs l h w q ih j =
    let p = from_asked (st r) no.Mark 0 (ask_statement k x n (body r)) q in
    let u = from_asked (within 1 16 (op (body r))) no.Operation 2 (ask_known k x n (body r)) p.1 in
    let v = from_then (unused (fields (op (body r))) (body r)) (ask_fields k x n (body r) (told r)) u.1 in
    let g = adds x.created j (told r) (new k x n (body r) h.few h.eight (told r) v.1) in
    let m = ap (λ s. mark (names x.created (body s)) j) (statement_back k x n r w h.low p.0 p.1).0 in
    omega (arith, ih j, ap (λ us. creates j (map told us)) (keep st r rs p.0))
once_front k x due.End r rs l h w q ih j = never _ q

once_main : (k : Meaning) (x : Context) (i : ℕ) (rs : List (List ℕ)) → Later x.due → Begun x → AllByRecursion Whole rs → follow k x i rs ≡ accepted → Once x rs
once_main k x i [] l h w e j = omega (arith, mark_few x.created j)
once_main k x i (r ∷ rs) l h w e j =
    let p = onward_parts (ask k x r) i (follow k (past x r) (i + 1) rs) e in
    once_front k x x.due r rs l h w.0 p.0 (once_main k (past x r) (i + 1) rs (later_past x x.due r l refl) (begun_past x x.due r l w.0 h) w.1 p.1) j

pub once_rows : (k : Meaning) (r : List ℕ) (rs : List (List ℕ)) → b (body r) ≤ 8 → AllByRecursion Whole rs → follow k (begun (body r)) 1 rs ≡ accepted → (j : ℕ) → creates j (map told (filter st rs)) ≤ 1
once_rows k r rs h w e j =
    omega (arith, once_main k (begun (body r)) 1 rs (later_cell (d (body r)) (b (body r)) 0) (record { eight = refl; few = h; low = omega arith }) w e j)
