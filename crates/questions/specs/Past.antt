-- Which record is due behind another, and what the records so far have said.
use Rattle.std.specs.Prelude.{ℕ, ◌+◌, ◌<◌, Bool, true, false, cond, List, replicate, ◌==◌, nat_lt, slice_set}
use Rattle.questions.specs.declared.context.Context.{Context}
use Rattle.questions.specs.declared.context.Due.{Due}
use Rattle.questions.specs.declared.context.Due.TheVariants.{Header, Cell, Thread, Statement, End}
use Rattle.records.specs.Bodies.{op, d, a, b}
use Rattle.records.specs.Lines.{body}

-- what is due from thread i of t on
abbrev pub from_thread : ℕ → ℕ → Due
from_thread t i = cond (nat_lt i t) (Thread i) End

-- what is due from cell i of s on, with t threads behind the cells
abbrev pub from_cell : ℕ → ℕ → ℕ → Due
from_cell s t i = cond (nat_lt i s) (Cell i) (from_thread t 0)

-- what is due from statement n of thread i on, which has `size` of them
abbrev pub from_statement : ℕ → ℕ → ℕ → ℕ → Due
from_statement size t i n = cond (nat_lt n size) (Statement n) (from_thread t (i + 1))

abbrev pub begun : List ℕ → Context
begun s = record { due = from_cell (d s) (b s) 0; cells = d s; mutexes = a s; threads = b s; thread = 0; locals = 0; size = 0; created = replicate 8 false }

abbrev pub due_next : Context → Due → Context
due_next x e = record { due = e; cells = x.cells; mutexes = x.mutexes; threads = x.threads; thread = x.thread; locals = x.locals; size = x.size; created = x.created }

abbrev pub past_thread : Context → ℕ → List ℕ → Context
past_thread x i s = record { due = from_statement (a s) x.threads i 0; cells = x.cells; mutexes = x.mutexes; threads = x.threads; thread = i; locals = d s; size = a s; created = x.created }

-- a CREATE names its thread
abbrev pub names : List Bool → List ℕ → List Bool
names xs s = cond (op s == 15) (slice_set xs (d s) true) xs

abbrev pub past_statement : Context → ℕ → List ℕ → Context
past_statement x n s = record { due = from_statement x.size x.threads x.thread (n + 1); cells = x.cells; mutexes = x.mutexes; threads = x.threads; thread = x.thread; locals = x.locals; size = x.size; created = names x.created s }

abbrev pub passes : Context → Due → List ℕ → Context
passes x Header r = begun (body r)
passes x (Cell i) r = due_next x (from_cell x.cells x.threads (i + 1))
passes x (Thread i) r = past_thread x i (body r)
passes x (Statement n) r = past_statement x n (body r)
passes x End r = x

-- the context behind a record that is the one due
abbrev pub past : Context → List ℕ → Context
past x r = passes x x.due r

-- before the first record
abbrev pub start : Context
start = record { due = Header; cells = 0; mutexes = 0; threads = 0; thread = 0; locals = 0; size = 0; created = replicate 8 false }

abbrev pub bounded : Context → Due → Type 0
bounded x Header = Unit {0}
bounded x (Cell i) = i < x.cells
bounded x (Thread i) = i < x.threads
bounded x (Statement n) = (n < x.size) × (x.thread < x.threads)
bounded x End = Unit {0}

-- what is due is within the counts
abbrev pub Sound : Context → Type 0
Sound x = bounded x x.due
