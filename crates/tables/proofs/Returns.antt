-- The file of a well-formed program is accepted.
use Rattle.std.proofs.Common.{◌≡◌, ℕ, zero, suc, ◌+◌, ◌-◌, ◌*◌, ◌/◌, ◌%◌, ◌^◌, ◌<◌, ◌≤◌, Bool, true, false, not, ◌&&◌, eqb, ltb, leb, List, [], ◌∷◌, ◌++◌, map, length, get_or, take, drop, replicate, refl, ap, ◌∙◌, inl, inr, arith, length-append}
use lib.ListN.{length-map}
use Rattle.kinds.specs.Meaning.{Meaning}
use Rattle.std.specs.List.{range_with_len, AllByRecursion}
use Rattle.std.proofs.lemmas.List.{take_at, drop_at, drop-drop, length-take-le, get_or-replicate, get_or_past}
use Rattle.std.proofs.ByRecursion.{All-append}
use Rattle.std.proofs.lemmas.Bool.{and_from, cases_Bool, cases_lt, cond-true, cond-false, eq-eqb, lt-ltb, le-ltb, le-leb, not_from_false}
use Rattle.questions.specs.declared.context.Context.{Context}
use Rattle.questions.specs.declared.context.Due.{Due}
use Rattle.questions.specs.declared.context.Due.TheVariants as due
use Rattle.records.specs.declared.statement.Place.{Place}
use Rattle.records.specs.declared.statement.Place.TheVariants.{Shared, Local}
use Rattle.records.specs.declared.statement.Statement.{Statement}
use Rattle.records.specs.declared.statement.Statement.TheVariants.{Set, Copy, Sum, Difference, Less, Same, Jump, Branch, Assume, Assert, Init, Destroy, Lock, Unlock, Create, Join}
use Rattle.tables.specs.declared.text.ThreadText.{ThreadText}
use Rattle.records.specs.Verdict.{Verdict, fine, asked}
use Rattle.questions.specs.Answer.{Answer, accepted}
use Rattle.records.specs.Bodies.{within, place_at, label_at}
use Rattle.records.specs.Lines.{line, lines, body}
use Rattle.questions.specs.Asks.{exists, target, named, ask, asks, ask_fields}
use Rattle.questions.specs.Past.{start, begun, due_next, past_thread, past_statement, from_cell, from_thread, from_statement}
use Rattle.records.specs.Rows.{place_byte, statement_row}
use Rattle.tables.specs.Encoded.{rows, header_row, cell_row, cell_rows, thread_row, thread_rows, flat, encoded}
use Rattle.tables.specs.WellFormed.{There, Fit, Numbered, Threads, WellFormed, creating, creates}
use Rattle.questions.specs.Question.{follow, onward, question}
use Rattle.tables.specs.Program.{Program, told}
use Rattle.questions.proofs.Verdicts.{to_asked}
use Rattle.questions.proofs.Follows.{question_sized}
use Rattle.tables.proofs.Saves.{Ten, length_flat, ten_statements, ten_cells, count_cells}
use Rattle.tables.proofs.Creates.{by_create, mark, New, adds, created_is, length_names}
use Rattle.tables.proofs.Wells.{wide, wide_back, counts_of}
use Rattle.records.specs.declared.refusal.Refusal.TheVariants as no

-- the records of a file are the rows that it was made of
lines_from : (f : List ℕ) (rs : List (List ℕ)) (m : ℕ) → AllByRecursion Ten rs → drop (10 * m) f ≡ flat rs → map (line f) (range_with_len m (length rs)) ≡ rs
lines_from f [] m h e = refl
lines_from f (r ∷ rs) m h e =
    let t = take_at r (flat rs) 10 h.0 in
    let u = drop_at r (flat rs) 10 h.0 in
    let v = drop-drop 10 (10 * m) f in
    let z : 10 * m + 10 ≡ 10 * (m + 1) = omega arith in
    let ih = lines_from f rs (m + 1) h.1 (cc) in
    cc

lines_back : (rs : List (List ℕ)) → AllByRecursion Ten rs → lines (flat rs) ≡ rs
lines_back rs h =
    let e : length (flat rs) / 10 ≡ length rs = omega (arith, length_flat rs h) in
    ap (λ n. map (line (flat rs)) (range_with_len 0 n)) e ∙ lines_from (flat rs) rs 0 h refl

-- a context behind the header of a program within the limits
record Small (x : Context) : Type 0 where
  cells_few : x.cells ≤ 16
  threads_few : x.threads ≤ 8
  locals_few : x.locals ≤ 8
  size_few : x.size ≤ 48
  eight : length x.created ≡ 8

-- what a row says is what it was made of
placed : (x : Context) (p : Place) → Small x → There (counts_of x) p → place_at (place_byte p) ≡ p
placed x (Shared n) s h = cond-true (ltb n 16) (Shared n) (Local (n - 16)) (lt-ltb n 16 (omega arith))
placed x (Local n) s h =
    let m = (n + 16) % 256 in
    let e : m - 16 ≡ n = omega arith in
    cond-false (ltb m 16) (Shared m) (Local (m - 16)) (le-ltb m 16 (omega arith)) ∙ ap (λ z. Local z) e

told_back : (k : Meaning) (x : Context) (n : ℕ) (s : Statement) → Small x → Fit k (counts_of x) n s → told (statement_row s) ≡ s
told_back k x m (Set p n) s f = let u = placed x p s f.0 in let e = wide_back n f.2 in cc
told_back k x n (Copy p q) s f = let u = placed x p s f.0 in let v = placed x q s f.1 in cc
told_back k x n (Sum p q r) s f = let u = placed x p s f.0 in let v = placed x q s f.1 in let w = placed x r s f.2 in cc
told_back k x n (Difference p q r) s f = let u = placed x p s f.0 in let v = placed x q s f.1 in let w = placed x r s f.2 in cc
told_back k x n (Less p q r) s f = let u = placed x p s f.0 in let v = placed x q s f.1 in let w = placed x r s f.2 in cc
told_back k x n (Same p q r) s f = let u = placed x p s f.0 in let v = placed x q s f.1 in let w = placed x r s f.2 in cc
told_back k x n (Jump t) s f = let e : t.0 % 256 ≡ t.0 = omega arith in ap (λ m. Jump (label_at m)) e
told_back k x n (Branch p t) s f = let u = placed x p s f.0 in let e : label_at (t.0 % 256) ≡ t = ap label_at (omega arith) in cc
told_back k x n (Assume p) s f = ap (λ z. Assume z) (placed x p s f)
told_back k x n (Assert p) s f = ap (λ z. Assert z) (placed x p s f)
told_back k x n (Init m) s f = refl
told_back k x n (Destroy m) s f = refl
told_back k x n (Lock m) s f = refl
told_back k x n (Unlock m) s f = refl
told_back k x n (Create j) s f = refl
told_back k x n (Join j) s f = refl

-- its mark, its op and its unused bytes are right
framed : (k : Meaning) (x : Context) (n : ℕ) (s : Statement) → asks k x (due.Statement n) (statement_row s) ≡ ask_fields k x n (body (statement_row s)) (told (statement_row s))
framed k x n (Set p v) = refl
framed k x n (Copy p q) = refl
framed k x n (Sum p q r) = refl
framed k x n (Difference p q r) = refl
framed k x n (Less p q r) = refl
framed k x n (Same p q r) = refl
framed k x n (Jump t) = refl
framed k x n (Branch p t) = refl
framed k x n (Assume p) = refl
framed k x n (Assert p) = refl
framed k x n (Init m) = refl
framed k x n (Destroy m) = refl
framed k x n (Lock m) = refl
framed k x n (Unlock m) = refl
framed k x n (Create j) = refl
framed k x n (Join j) = refl

there_yes : (x : Context) (p : Place) (byte : ℕ) (v : Verdict) → There (counts_of x) p → v ≡ fine → asked (exists x p) no.Place byte v ≡ fine
there_yes x (Shared n) byte v h e = to_asked (ltb n x.cells) no.Place byte v (lt-ltb n x.cells h) e
there_yes x (Local n) byte v h e = to_asked (ltb n x.locals) no.Place byte v (lt-ltb n x.locals h) e

three_yes : (x : Context) (p q r : Place) → There (counts_of x) p → There (counts_of x) q → There (counts_of x) r → asked (exists x p) no.Place 3 (asked (exists x q) no.Place 4 (asked (exists x r) no.Place 5 fine)) ≡ fine
three_yes x p q r hp hq hr = there_yes x p 3 _ hp (there_yes x q 4 _ hq (there_yes x r 5 _ hr refl))

target_yes : (x : Context) (n t : ℕ) → Small x → n < t → t ≤ x.size → target x n (wide t) ≡ fine
target_yes x n t s l h =
    let e : wide t ≡ t = wide_back t (omega arith) in
    ap (target x n) e ∙ to_asked (ltb n t && leb t x.size) no.Target 6 fine (and_from _ _ (lt-ltb n t l) (le-leb t x.size h)) refl

mutex_yes : (x : Context) (m : ℕ) → m < x.mutexes → asked (ltb m x.mutexes) no.Mutex 3 fine ≡ fine
mutex_yes x m h = to_asked (ltb m x.mutexes) no.Mutex 3 fine (lt-ltb m x.mutexes h) refl

fields_yes : (k : Meaning) (x : Context) (n : ℕ) (s : Statement) → Small x → Fit k (counts_of x) n s → New x.created s → ask_fields k x n (body (statement_row s)) s ≡ fine
fields_yes k x n (Set p v) s f w = there_yes x p 3 _ f.0 (to_asked (k.lawful v) no.Code 6 fine f.1 refl)
fields_yes k x n (Copy p q) s f w = there_yes x p 3 _ f.0 (there_yes x q 4 fine f.1 refl)
fields_yes k x n (Sum p q r) s f w = three_yes x p q r f.0 f.1 f.2
fields_yes k x n (Difference p q r) s f w = three_yes x p q r f.0 f.1 f.2
fields_yes k x n (Less p q r) s f w = three_yes x p q r f.0 f.1 f.2
fields_yes k x n (Same p q r) s f w = three_yes x p q r f.0 f.1 f.2
fields_yes k x n (Jump t) s f w = target_yes x n t.0 s f.0 f.1
fields_yes k x n (Branch p t) s f w = there_yes x p 4 _ f.0 (target_yes x n t.0 s f.1 f.2)
fields_yes k x n (Assume p) s f w = there_yes x p 4 fine f refl
fields_yes k x n (Assert p) s f w = there_yes x p 4 fine f refl
fields_yes k x n (Init m) s f w = mutex_yes x m.0 f
fields_yes k x n (Destroy m) s f w = mutex_yes x m.0 f
fields_yes k x n (Lock m) s f w = mutex_yes x m.0 f
fields_yes k x n (Unlock m) s f w = mutex_yes x m.0 f
fields_yes k x n (Create j) s f w =
    let e = w j.0 (cond-true (eqb j.0 j.0) 1 0 (eq-eqb j.0 j.0 refl)) in
    to_asked (leb 1 j.0 && ltb j.0 x.threads) no.Thread 3 _ (and_from _ _ (le-leb 1 j.0 f.0) (lt-ltb j.0 x.threads f.1))
    (to_asked (not (named x j.0)) no.CreatedTwice 3 fine (not_from_false (named x j.0) e.1) refl)
fields_yes k x n (Join j) s f w = to_asked (ltb j.0 x.threads) no.Thread 3 fine (lt-ltb j.0 x.threads f) refl

-- each row answers every question with yes
statement_yes : (k : Meaning) (x : Context) (n : ℕ) (s : Statement) → Small x → Fit k (counts_of x) n s → New x.created s → asks k x (due.Statement n) (statement_row s) ≡ fine
statement_yes k x n s l f w = framed k x n s ∙ ap (ask_fields k x n (body (statement_row s))) (told_back k x n s l f) ∙ fields_yes k x n s l f w

cell_yes : (k : Meaning) (x : Context) (n v : ℕ) → v < 2 ^ 32 → k.lawful v ≡ true → asks k x (due.Cell n) (cell_row n v) ≡ fine
cell_yes k x n v h l =
    to_asked (eqb n n) no.Index 2 _ (eq-eqb n n refl) (to_asked (k.lawful (wide v)) no.Code 6 fine (ap k.lawful (wide_back v h) ∙ l) refl)

thread_yes : (k : Meaning) (x : Context) (n : ℕ) (t : ThreadText) → t.locals ≤ 8 → 1 ≤ t.size → t.size ≤ 48 → asks k x (due.Thread n) (thread_row n t) ≡ fine
thread_yes k x n t l m h =
    to_asked (eqb n n) no.Index 2 _ (eq-eqb n n refl)
    (to_asked (leb t.locals 8) no.ThreadSize 3 _ (le-leb t.locals 8 l)
    (to_asked (within 1 48 t.size) no.ThreadSize 4 fine (and_from _ _ (le-leb 1 t.size m) (le-leb t.size 48 h)) refl))

header_yes : (k : Meaning) (p : Program) → WellFormed k p → ask k start (header_row k.byte p) ≡ fine
header_yes k p w =
    to_asked (eqb k.byte k.byte) no.KindByte 2 _ (eq-eqb k.byte k.byte refl)
    (to_asked (leb (length p.cells) 16) no.Counts 3 _ (le-leb (length p.cells) 16 w.cells_few)
    (to_asked (leb p.mutexes 8) no.Counts 4 _ (le-leb p.mutexes 8 w.mutexes_few)
    (to_asked (within 1 8 (length p.texts)) no.Counts 5 fine (and_from _ _ (le-leb 1 (length p.texts) w.threads_some) (le-leb (length p.texts) 8 w.threads_few)) refl)))

-- a yes, and what follows it
go_on : (v : Verdict) (i : ℕ) (rest : Answer) → v ≡ fine → rest ≡ accepted → onward v i rest ≡ accepted
go_on v i rest e h = ap (λ u. onward u i rest) e ∙ h

cells_yes : (k : Meaning) (x : Context) (rest : List (List ℕ)) (i n : ℕ) (vs : List ℕ) → n + length vs ≡ x.cells → AllByRecursion (λ v. v < 2 ^ 32) vs → AllByRecursion (λ v. k.lawful v ≡ true) vs → ((m : ℕ) → follow k (due_next x (from_thread x.threads 0)) m rest ≡ accepted) → follow k (due_next x (from_cell x.cells x.threads n)) i (cell_rows n vs ++ rest) ≡ accepted
cells_yes k x rest i n [] e h l g =
    ap (λ u. follow k (due_next x u) i rest) (cond-false (ltb n x.cells) (due.Cell n) (from_thread x.threads 0) (le-ltb n x.cells (omega arith))) ∙ g i
cells_yes k x rest i n (v ∷ vs) e h l g =
    ap (λ u. follow k (due_next x u) i (cell_rows n (v ∷ vs) ++ rest)) (cond-true (ltb n x.cells) (due.Cell n) (from_thread x.threads 0) (lt-ltb n x.cells (omega arith)))
    ∙ go_on _ i _ (cell_yes k x n v h.0 l.0) (cells_yes k x rest (i + 1) (n + 1) vs (omega arith) h.1 l.1 g)

-- the context with other names, and another record due
abbrev renamed : Context → List Bool → Due → Context
renamed x c e = record { due = e; cells = x.cells; mutexes = x.mutexes; threads = x.threads; thread = x.thread; locals = x.locals; size = x.size; created = c }

mark_none : (xs : List Bool) (j : ℕ) → mark xs j ≡ 0 → get_or xs j false ≡ false
mark_none xs j e = elim (cases_Bool (get_or xs j false)) [ inl t ↦ absurd (omega (arith, cond-true {A = ℕ} (get_or xs j false) 1 0 t)) | inr f ↦ f ]

-- a CREATE in front of those that are left names a new thread
still_new : (k : Meaning) (x : Context) (n : ℕ) → Small x → (s : Statement) → Fit k (counts_of x) n s → ((j : ℕ) → creating j s + mark x.created j ≤ 1) → New x.created s
still_new k x n l s f h j q =
    let below : j < x.threads =
    by_create (λ u. Fit k (counts_of x) n u → creating j u ≡ 1 → j < x.threads) (λ i g e. omega (arith, created_is i j e)) (λ u z _ g e. absurd (omega (arith, z j))) s f q in
    (omega (arith, l.eight), mark_none x.created j (omega (arith, h j)))

statements_yes : (k : Meaning) (more : ℕ → ℕ) (rest : List (List ℕ)) (x : Context) (i n : ℕ) (ss : List Statement) → Small x → n + length ss ≡ x.size → Numbered k (counts_of x) n ss → ((j : ℕ) → creates j ss + more j + mark x.created j ≤ 1) → ((c : List Bool) (m : ℕ) → length c ≡ 8 → ((j : ℕ) → more j + mark c j ≤ 1) → follow k (renamed x c (from_thread x.threads (x.thread + 1))) m rest ≡ accepted) → follow k (due_next x (from_statement x.size x.threads x.thread n)) i (map statement_row ss ++ rest) ≡ accepted
statements_yes k more rest x i n [] l e f h g =
    ap (λ u. follow k (due_next x u) i rest) (cond-false (ltb n x.size) (due.Statement n) (from_thread x.threads (x.thread + 1)) (le-ltb n x.size (omega arith)))
    ∙ g x.created i l.eight (λ j. omega (arith, h j))
statements_yes k more rest x i n (s ∷ ss) l e f h g =
    let w = still_new k x n l s f.0 (λ j. omega (arith, h j)) in
    let z = past_statement x n (body (statement_row s)) in
    let y : Small z = record { cells_few = l.cells_few; threads_few = l.threads_few; locals_few = l.locals_few; size_few = l.size_few; eight = length_names x.created (body (statement_row s)) ∙ l.eight } in
    ap (λ u. follow k (due_next x u) i (map statement_row (s ∷ ss) ++ rest)) (cond-true (ltb n x.size) (due.Statement n) (from_thread x.threads (x.thread + 1)) (lt-ltb n x.size (omega arith)))
    ∙ go_on _ i _ (statement_yes k x n s l f.0 w) (statements_yes k more rest z (i + 1) (n + 1) ss y (omega arith) f.1 (λ j. omega (arith, h j, adds x.created j s w)) g)

creates_parts : (j n : ℕ) (ss : List Statement) → creates j ss ≡ creates j (take n ss) + creates j (drop n ss)
creates_parts j zero ss = omega arith
creates_parts j (suc n) [] = refl
creates_parts j (suc n) (s ∷ ss) = omega (arith, creates_parts j n ss)

threads_yes : (k : Meaning) (x : Context) (i n at : ℕ) (ts : List ThreadText) (ss : List Statement) → Small x → n + length ts ≡ x.threads → Threads k x.cells x.mutexes x.threads at ts ss → ((j : ℕ) → creates j ss + mark x.created j ≤ 1) → follow k (due_next x (from_thread x.threads n)) i (thread_rows n ts ss) ≡ accepted
threads_yes k x i n at [] ss l e f h = ap (λ u. follow k (due_next x u) i []) (cond-false (ltb n x.threads) (due.Thread n) due.End (le-ltb n x.threads (omega arith)))
threads_yes k x i n at (t ∷ ts) ss l e f h =
    let z = past_thread x n (body (thread_row n t)) in
    let left = drop t.size ss in
    ap (λ u. follow k (due_next x u) i (thread_rows n (t ∷ ts) ss)) (cond-true (ltb n x.threads) (due.Thread n) due.End (lt-ltb n x.threads (omega arith)))
    ∙ go_on _ i _ (thread_yes k x n t f.0 f.1 f.2)
    (statements_yes k (λ j. creates j left) (thread_rows (n + 1) ts left) z (i + 1) 0 (take t.size ss)
    (record { cells_few = l.cells_few; threads_few = l.threads_few; locals_few = f.0; size_few = f.2; eight = l.eight })
    (omega (arith, length-take-le t.size ss f.4)) f.5 (λ j. omega (arith, h j, creates_parts j t.size ss))
    (λ c m q g. threads_yes k (renamed z c due.End) m (n + 1) (at + t.size) ts left (record { cells_few = l.cells_few; threads_few = l.threads_few; locals_few = f.0; size_few = f.2; eight = q }) (omega arith) f.6 g))

-- the rows of a program: ten bytes each, and 3 to 409 of them
ten_threads : (i : ℕ) (ts : List ThreadText) (ss : List Statement) → AllByRecursion Ten (thread_rows i ts ss)
ten_threads i [] ss = tt
ten_threads i (t ∷ ts) ss =
    (refl, All-append Ten (map statement_row (take t.size ss)) (thread_rows (i + 1) ts (drop t.size ss)) (ten_statements (take t.size ss)) (ten_threads (i + 1) ts (drop t.size ss)))

count_threads : (k : Meaning) (cs ms n at i : ℕ) (ts : List ThreadText) (ss : List Statement) → Threads k cs ms n at ts ss → (2 * length ts ≤ length (thread_rows i ts ss)) × (length (thread_rows i ts ss) ≤ 49 * length ts)
count_threads k cs ms n at i [] ss f = (omega arith, omega arith)
count_threads k cs ms n at i (t ∷ ts) ss f =
    let own = take t.size ss in
    let rest = thread_rows (i + 1) ts (drop t.size ss) in
    let ih = count_threads k cs ms n (at + t.size) (i + 1) ts (drop t.size ss) f.6 in
    let l = length-append (map statement_row own) rest in
    let m = length-map own statement_row in
    let u = length-take-le t.size ss f.4 in
    (omega arith, omega arith)

none_named : (j : ℕ) → mark (replicate 8 false) j ≡ 0
none_named j =
    elim (cases_lt j 8) [
      | inl h ↦ cond-false (get_or (replicate 8 false) j false) 1 0 (get_or-replicate 8 j false false h)
      | inr h ↦ cond-false (get_or (replicate 8 false) j false) 1 0 (get_or_past (replicate 8 false) j false h)
    ]

-- what Save writes, Load accepts
pub accepted_again : (k : Meaning) (p : Program) → WellFormed k p → question k (encoded k.byte p) ≡ accepted
accepted_again k p w =
    let hd = header_row k.byte p in
    let cs = cell_rows 0 p.cells in
    let ts = thread_rows 0 p.texts p.statements in
    let ten : AllByRecursion Ten (rows k.byte p) = (refl, All-append Ten cs ts (ten_cells 0 p.cells) (ten_threads 0 p.texts p.statements)) in
    let x = begun (body hd) in
    let l : Small x = record { cells_few = w.cells_few; threads_few = w.threads_few; locals_few = omega arith; size_few = omega arith; eight = refl } in
    let e = length_flat (rows k.byte p) ten in
    let n = length-append cs ts in
    let c = count_cells 0 p.cells in
    let t = count_threads k (length p.cells) p.mutexes (length p.texts) 0 0 p.texts p.statements w.threads in
    question_sized k (encoded k.byte p) (omega (arith, w.threads_some)) (omega (arith, w.cells_few, w.threads_few)) (omega arith)
    ∙ ap (follow k start 0) (lines_back (rows k.byte p) ten)
    ∙ go_on _ 0 _ (header_yes k p w)
    (cells_yes k x ts (0 + 1) 0 p.cells (omega arith) w.words w.lawful
    (λ m. threads_yes k x m 0 0 p.texts p.statements l (omega arith) w.threads (λ j. omega (arith, w.once j, none_named j))))
