-- What the program of every accepted file keeps, and what is enough for its file to be accepted.
use Rattle.std.specs.Prelude.{◌≡◌, ℕ, ◌+◌, ◌^◌, ◌<◌, ◌≤◌, true, cond, List, [], ◌∷◌, length, take, drop, ◌==◌}
use Rattle.kinds.specs.Meaning.{Meaning}
use Rattle.std.specs.List.{AllByRecursion}
use Rattle.records.specs.declared.statement.Place.{Place}
use Rattle.records.specs.declared.statement.Place.TheVariants.{Shared, Local}
use Rattle.records.specs.declared.statement.Statement.{Statement}
use Rattle.records.specs.declared.statement.Statement.TheVariants.{Set, Copy, Sum, Difference, Less, Same, Jump, Branch, Assume, Assert, Init, Destroy, Lock, Unlock, Create, Join}
use Rattle.tables.specs.declared.text.ThreadText.{ThreadText}
use Rattle.tables.specs.Program.{Program}

-- what a statement's fields are measured by
pub record Counts : Type 0 where
  pub cells : ℕ
  pub mutexes : ℕ
  pub threads : ℕ
  pub locals : ℕ
  pub size : ℕ

abbrev pub There : Counts → Place → Type 0
There m (Shared n) = n < m.cells
There m (Local n) = n < m.locals

-- the fields of the statement numbered n
abbrev pub Fit : Meaning → Counts → ℕ → Statement → Type 0
Fit k m n (Set p v) = There m p × (k.lawful v ≡ true) × (v < 2 ^ 32)
Fit k m n (Copy p q) = There m p × There m q
Fit k m n (Sum p q r) = There m p × There m q × There m r
Fit k m n (Difference p q r) = There m p × There m q × There m r
Fit k m n (Less p q r) = There m p × There m q × There m r
Fit k m n (Same p q r) = There m p × There m q × There m r
Fit k m n (Jump t) = (n < t.0) × (t.0 ≤ m.size)
Fit k m n (Branch p t) = There m p × (n < t.0) × (t.0 ≤ m.size)
Fit k m n (Assume p) = There m p
Fit k m n (Assert p) = There m p
Fit k m n (Init x) = x.0 < m.mutexes
Fit k m n (Destroy x) = x.0 < m.mutexes
Fit k m n (Lock x) = x.0 < m.mutexes
Fit k m n (Unlock x) = x.0 < m.mutexes
Fit k m n (Create j) = (1 ≤ j.0) × (j.0 < m.threads)
Fit k m n (Join j) = j.0 < m.threads

-- the statements of a text, numbered from n on
abbrev pub Numbered : Meaning → Counts → ℕ → List Statement → Type 0
Numbered k m n [] = Unit {0}
Numbered k m n (s ∷ ss) = Fit k m n s × Numbered k m (n + 1) ss

abbrev pub counts : ℕ → ℕ → ℕ → ℕ → ℕ → Counts
counts cs ms ts l z = record { cells = cs; mutexes = ms; threads = ts; locals = l; size = z }

-- the texts take their statements in turn from the list, which starts at the place `at`, and none is left
abbrev pub Threads : Meaning → ℕ → ℕ → ℕ → ℕ → List ThreadText → List Statement → Type 0
Threads k cs ms n at [] ss = ss ≡ []
Threads k cs ms n at (t ∷ ts) ss =
    (t.locals ≤ 8) × (1 ≤ t.size) × (t.size ≤ 48) × (t.first ≡ at) × (t.size ≤ length ss) × Numbered k (counts cs ms n t.locals t.size) 0 (take t.size ss) × Threads k cs ms n (at + t.size) ts (drop t.size ss)

-- one for a CREATE of thread j, and none for any other statement
abbrev pub creating : ℕ → Statement → ℕ
creating j (Set p v) = 0
creating j (Copy p q) = 0
creating j (Sum p q r) = 0
creating j (Difference p q r) = 0
creating j (Less p q r) = 0
creating j (Same p q r) = 0
creating j (Jump t) = 0
creating j (Branch p t) = 0
creating j (Assume p) = 0
creating j (Assert p) = 0
creating j (Init x) = 0
creating j (Destroy x) = 0
creating j (Lock x) = 0
creating j (Unlock x) = 0
creating j (Create i) = cond (i.0 == j) 1 0
creating j (Join i) = 0

-- how many CREATEs name thread j
abbrev pub creates : ℕ → List Statement → ℕ
creates j [] = 0
creates j (s ∷ ss) = creating j s + creates j ss

-- What every program keeps that exists: its counts are within the limits, its initial codes are lawful and have 32 bits, each statement's fields fit, and no thread is created twice.
pub record WellFormed (k : Meaning) (p : Program) : Type 0 where
  pub cells_few : length p.cells ≤ 16
  pub mutexes_few : p.mutexes ≤ 8
  pub threads_some : 1 ≤ length p.texts
  pub threads_few : length p.texts ≤ 8
  pub lawful : AllByRecursion (λ v. k.lawful v ≡ true) p.cells
  pub words : AllByRecursion (λ v. v < 2 ^ 32) p.cells
  pub threads : Threads k (length p.cells) p.mutexes (length p.texts) 0 p.texts p.statements
  pub once : (j : ℕ) → creates j p.statements ≤ 1
