-- The file of a program.
use Rattle.std.specs.Prelude.{ℕ, ◌+◌, List, [], ◌∷◌, ◌++◌, map, length, take, drop}
use Rattle.std.specs.List.{flat_map}
use Rattle.tables.specs.declared.text.ThreadText.{ThreadText}
use Rattle.records.specs.declared.statement.Statement.{Statement}
use Rattle.records.specs.Rows.{row, statement_row}
use Rattle.tables.specs.Program.{Program}

abbrev pub header_row : ℕ → Program → List ℕ
header_row byte p = row 80 71 byte (length p.cells) p.mutexes (length p.texts) 0

abbrev pub cell_row : ℕ → ℕ → List ℕ
cell_row i c = row 83 67 i 0 0 0 c

abbrev pub thread_row : ℕ → ThreadText → List ℕ
thread_row i t = row 84 72 i t.locals t.size 0 0

-- the cells from index i on
abbrev pub cell_rows : ℕ → List ℕ → List (List ℕ)
cell_rows i [] = []
cell_rows i (n ∷ ns) = cell_row i n ∷ cell_rows (i + 1) ns

-- the threads from index i on, each with its statements, which they take in turn from the list
abbrev pub thread_rows : ℕ → List ThreadText → List Statement → List (List ℕ)
thread_rows i [] ss = []
thread_rows i (t ∷ ts) ss =
    thread_row i t ∷ map statement_row (take t.size ss) ++ thread_rows (i + 1) ts (drop t.size ss)

abbrev pub rows : ℕ → Program → List (List ℕ)
rows byte p = header_row byte p ∷ cell_rows 0 p.cells ++ thread_rows 0 p.texts p.statements

abbrev pub flat : List (List ℕ) → List ℕ
flat rs = flat_map (λ r. r) rs

-- the file of a program, for a kind byte
abbrev pub encoded : ℕ → Program → List ℕ
encoded byte p = flat (rows byte p)

-- parts of a file: the cells from index i on
abbrev pub cell_bytes : ℕ → List ℕ → List ℕ
cell_bytes i ns = flat (cell_rows i (drop i ns))

-- some statements
abbrev pub own_bytes : List Statement → List ℕ
own_bytes ss = flat (map statement_row ss)

-- a thread with its statements
abbrev pub own_thread_bytes : ℕ → ThreadText → List Statement → List ℕ
own_thread_bytes i t ss = thread_row i t ++ own_bytes ss

-- the threads from index i on, with the statements that are left
abbrev pub thread_bytes : ℕ → List ThreadText → List Statement → List ℕ
thread_bytes i ts ss = flat (thread_rows i (drop i ts) ss)
