-- The questions on one record, in their order, after what the records before it have said.
use Rattle.std.specs.Prelude.{ℕ, Bool, true, false, not, ◌&&◌, List, ◌==◌, nat_le, nat_lt, slice_index_or}
use Rattle.kinds.specs.Meaning.{Meaning}
use Rattle.questions.specs.declared.context.Context.{Context}
use Rattle.questions.specs.declared.context.Due.{Due}
use Rattle.questions.specs.declared.context.Due.TheVariants as due
use Rattle.records.specs.declared.refusal.Refusal.TheVariants as no
use Rattle.records.specs.declared.statement.Place.{Place}
use Rattle.records.specs.declared.statement.Place.TheVariants.{Shared, Local}
use Rattle.records.specs.declared.statement.Statement.{Statement}
use Rattle.records.specs.declared.statement.Statement.TheVariants.{Set, Copy, Sum, Difference, Less, Same, Jump, Branch, Assume, Assert, Init, Destroy, Lock, Unlock, Create, Join}
use Rattle.records.specs.Verdict.{Verdict, fine, bad, asked, then}
use Rattle.records.specs.Bodies.{op, d, a, b, c, unused, uses, within, fields, statement}
use Rattle.records.specs.Lines.{pg, sc, th, st, body}

abbrev pub ask_header : Meaning → List ℕ → Verdict
ask_header k s =
    asked (op s == k.byte) no.KindByte 2
    (asked (nat_le (d s) 16) no.Counts 3
    (asked (nat_le (a s) 8) no.Counts 4
    (asked (within 1 8 (b s)) no.Counts 5
    (unused (uses true true true false) s))))

-- the cell that has to have the index i
abbrev pub ask_cell : Meaning → ℕ → List ℕ → Verdict
ask_cell k i s =
    asked (op s == i) no.Index 2
    (then (unused (uses false false false true) s)
    (asked (k.lawful (c s)) no.Code 6 fine))

-- the thread that has to have the index i
abbrev pub ask_thread : ℕ → List ℕ → Verdict
ask_thread i s =
    asked (op s == i) no.Index 2
    (asked (nat_le (d s) 8) no.ThreadSize 3
    (asked (within 1 48 (a s)) no.ThreadSize 4
    (unused (uses true true false false) s)))

-- a shared cell of the program, or a local cell of the thread
abbrev pub exists : Context → Place → Bool
exists x (Shared n) = nat_lt n x.cells
exists x (Local n) = nat_lt n x.locals

abbrev place : Context → Place → ℕ → Verdict → Verdict
place x p byte rest = asked (exists x p) no.Place byte rest

abbrev three : Context → Place → Place → Place → Verdict
three x p q r = place x p 3 (place x q 4 (place x r 5 fine))

abbrev mutex : Context → ℕ → Verdict
mutex x m = asked (nat_lt m x.mutexes) no.Mutex 3 fine

-- has an earlier CREATE named the thread?
abbrev pub named : Context → ℕ → Bool
named x j = slice_index_or x.created j false

-- t lies above the statement's own number n, and at most at the end
abbrev pub target : Context → ℕ → ℕ → Verdict
target x n t = asked (nat_lt n t && nat_le t x.size) no.Target 6 fine

-- the fields of the statement numbered n
abbrev pub ask_fields : Meaning → Context → ℕ → List ℕ → Statement → Verdict
ask_fields k x n s (Set p v) = place x p 3 (asked (k.lawful v) no.Code 6 fine)
ask_fields k x n s (Copy p q) = place x p 3 (place x q 4 fine)
ask_fields k x n s (Sum p q r) = three x p q r
ask_fields k x n s (Difference p q r) = three x p q r
ask_fields k x n s (Less p q r) = three x p q r
ask_fields k x n s (Same p q r) = three x p q r
ask_fields k x n s (Jump t) = target x n (c s)
ask_fields k x n s (Branch p t) = place x p 4 (target x n (c s))
ask_fields k x n s (Assume p) = place x p 4 fine
ask_fields k x n s (Assert p) = place x p 4 fine
ask_fields k x n s (Init m) = mutex x m.0
ask_fields k x n s (Destroy m) = mutex x m.0
ask_fields k x n s (Lock m) = mutex x m.0
ask_fields k x n s (Unlock m) = mutex x m.0
ask_fields k x n s (Create j) = asked (nat_le 1 j.0 && nat_lt j.0 x.threads) no.Thread 3 (asked (not (named x j.0)) no.CreatedTwice 3 fine)
ask_fields k x n s (Join j) = asked (nat_lt j.0 x.threads) no.Thread 3 fine

abbrev pub ask_known : Meaning → Context → ℕ → List ℕ → Verdict
ask_known k x n s = then (unused (fields (op s)) s) (ask_fields k x n s (statement s))

abbrev pub ask_statement : Meaning → Context → ℕ → List ℕ → Verdict
ask_statement k x n s = asked (within 1 16 (op s)) no.Operation 2 (ask_known k x n s)

abbrev pub asks : Meaning → Context → Due → List ℕ → Verdict
asks k x due.Header r = asked (pg r) no.Mark 0 (ask_header k (body r))
asks k x (due.Cell i) r = asked (sc r) no.Mark 0 (ask_cell k i (body r))
asks k x (due.Thread i) r = asked (th r) no.Mark 0 (ask_thread i (body r))
asks k x (due.Statement n) r = asked (st r) no.Mark 0 (ask_statement k x n (body r))
asks k x due.End r = bad no.Trailing 0

-- the questions on a record: is it the one due, and then its own
abbrev pub ask : Meaning → Context → List ℕ → Verdict
ask k x r = asks k x x.due r

-- the answer to a record whose mark no record has
abbrev pub unmarked : Due → Verdict
unmarked due.Header = bad no.Mark 0
unmarked (due.Cell i) = bad no.Mark 0
unmarked (due.Thread i) = bad no.Mark 0
unmarked (due.Statement n) = bad no.Mark 0
unmarked due.End = bad no.Trailing 0
