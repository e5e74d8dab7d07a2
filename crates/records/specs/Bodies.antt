-- The body of a record: the eight bytes behind its mark, op, d, a, b and the four of c, highest first.
use Rattle.std.specs.Prelude.{ℕ, ◌+◌, ◌-◌, ◌*◌, Bool, cond, ◌&&◌, ◌||◌, List, ◌==◌, nat_le, nat_lt, slice_index}
use Rattle.records.specs.declared.body.Used.{Used}
use Rattle.records.specs.declared.refusal.Refusal.TheVariants as no
use Rattle.records.specs.declared.statement.Label.{Label}
use Rattle.records.specs.declared.statement.Mutex.{Mutex}
use Rattle.records.specs.declared.statement.Place.{Place}
use Rattle.records.specs.declared.statement.Place.TheVariants.{Shared, Local}
use Rattle.records.specs.declared.statement.Statement.{Statement}
use Rattle.records.specs.declared.statement.Statement.TheVariants.{Set, Copy, Sum, Difference, Less, Same, Jump, Branch, Assume, Assert, Init, Destroy, Lock, Unlock, Create, Join}
use Rattle.records.specs.declared.statement.Thread.{Thread}
use Rattle.records.specs.Verdict.{Verdict, fine, asked}

abbrev pub op : List ℕ → ℕ
op s = slice_index s 0

abbrev pub d : List ℕ → ℕ
d s = slice_index s 1

abbrev pub a : List ℕ → ℕ
a s = slice_index s 2

abbrev pub b : List ℕ → ℕ
b s = slice_index s 3

abbrev pub c : List ℕ → ℕ
c s = slice_index s 4 * 16777216 + slice_index s 5 * 65536 + slice_index s 6 * 256 + slice_index s 7

abbrev blank : Bool → ℕ → ℕ → Verdict → Verdict
blank used v byte rest = asked (used || v == 0) no.Unused byte rest

-- unused bytes are zero
abbrev pub unused : Used → List ℕ → Verdict
unused u s =
    blank u.d (d s) 3 (blank u.a (a s) 4 (blank u.b (b s) 5
    (blank u.c (slice_index s 4) 6 (blank u.c (slice_index s 5) 7 (blank u.c (slice_index s 6) 8 (blank u.c (slice_index s 7) 9 fine))))))

abbrev pub uses : Bool → Bool → Bool → Bool → Used
uses p q r s = record { d = p; a = q; b = r; c = s }

-- from one number to another
abbrev pub within : ℕ → ℕ → ℕ → Bool
within low high n = nat_le low n && nat_le n high

-- the fields that the statement of an op uses
abbrev pub fields : ℕ → Used
fields n = uses (within 1 6 n || nat_le 11 n) (within 2 6 n || within 8 10 n) (within 3 6 n) (n == 1 || within 7 8 n)

-- places 0 to 15 are the shared cells, and those from 16 on the local ones
abbrev pub place_at : ℕ → Place
place_at n = cond (nat_lt n 16) (Shared n) (Local (n - 16))

abbrev pub label_at : ℕ → Label
label_at n = record { 0 = n }

abbrev pub mutex_at : ℕ → Mutex
mutex_at n = record { 0 = n }

abbrev pub thread_at : ℕ → Thread
thread_at n = record { 0 = n }

-- ops 1 to 6
abbrev pub stores : List ℕ → Statement
stores s =
    cond (op s == 1) (Set (place_at (d s)) (c s))
    (cond (op s == 2) (Copy (place_at (d s)) (place_at (a s)))
    (cond (op s == 3) (Sum (place_at (d s)) (place_at (a s)) (place_at (b s)))
    (cond (op s == 4) (Difference (place_at (d s)) (place_at (a s)) (place_at (b s)))
    (cond (op s == 5) (Less (place_at (d s)) (place_at (a s)) (place_at (b s)))
    (Same (place_at (d s)) (place_at (a s)) (place_at (b s)))))))

-- ops 7 to 10; a label has the lowest byte of c
abbrev pub tests : List ℕ → Statement
tests s =
    cond (op s == 7) (Jump (label_at (slice_index s 7)))
    (cond (op s == 8) (Branch (place_at (a s)) (label_at (slice_index s 7)))
    (cond (op s == 9) (Assume (place_at (a s))) (Assert (place_at (a s)))))

-- ops 11 to 16
abbrev pub controls : List ℕ → Statement
controls s =
    cond (op s == 11) (Init (mutex_at (d s)))
    (cond (op s == 12) (Destroy (mutex_at (d s)))
    (cond (op s == 13) (Lock (mutex_at (d s)))
    (cond (op s == 14) (Unlock (mutex_at (d s)))
    (cond (op s == 15) (Create (thread_at (d s))) (Join (thread_at (d s)))))))

-- the statement that the body of an ST record says
abbrev pub statement : List ℕ → Statement
statement s = cond (nat_le (op s) 6) (stores s) (cond (nat_le (op s) 10) (tests s) (controls s))
