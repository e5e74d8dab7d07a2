-- The state of a run, and what changes one part of it.
use Rattle.std.specs.Prelude.{ℕ, Bool, List, ◌++◌, length, drop, replicate, slice_index_or, slice_set}
use Rattle.kinds.specs.Meaning.{Meaning}
use Rattle.records.specs.declared.statement.Label.{Label}
use Rattle.records.specs.declared.statement.Place.{Place}
use Rattle.records.specs.declared.statement.Place.TheVariants.{Shared, Local}
use Rattle.tables.specs.Program.{Program}
use Rattle.states.specs.declared.entries.ThreadEntry.{ThreadEntry}
use Rattle.states.specs.declared.state.MutexState.{MutexState}
use Rattle.states.specs.declared.state.MutexState.TheVariants.{Free}
use Rattle.states.specs.declared.state.State.{State}
use Rattle.states.specs.Entries.{entry_of, with_entry, local_in, with_local, labelled, awake, started}

-- thread i's entry, its label, and whether it was created
abbrev pub entry : State → ℕ → ThreadEntry
entry s i = entry_of s.threads.entries i

abbrev pub label : State → ℕ → ℕ
label s i = (entry s i).label.0

abbrev pub created : State → ℕ → Bool
created s i = (entry s i).created

abbrev pub mutex : State → ℕ → MutexState
mutex s m = slice_index_or s.mutexes m Free

abbrev pub with_cells : State → List ℕ → State
with_cells s xs = record { cells = xs; mutexes = s.mutexes; threads = s.threads }

abbrev pub change : State → ℕ → ThreadEntry → State
change s i e = record { cells = s.cells; mutexes = s.mutexes; threads = record { entries = with_entry s.threads.entries i e } }

abbrev pub mark : State → ℕ → MutexState → State
mark s m h = record { cells = s.cells; mutexes = slice_set s.mutexes m h; threads = s.threads }

-- thread i goes to a label
abbrev pub go : State → ℕ → Label → State
go s i t = change s i (labelled (entry s i) t)

-- thread j is created
abbrev pub create : State → ℕ → State
create s j = change s j (awake (entry s j))

-- the code that thread i reads at a place
abbrev pub value : Meaning → State → ℕ → Place → ℕ
value k s i (Shared n) = slice_index_or s.cells n k.fresh
value k s i (Local n) = local_in k (entry s i) n

-- thread i writes a code to a place
abbrev pub put : State → ℕ → Place → ℕ → State
put s i (Shared n) c = with_cells s (slice_set s.cells n c)
put s i (Local n) c = change s i (with_local (entry s i) n c)

-- the initial codes, and the fresh code in the cells that the program does not have
abbrev pub padded : Meaning → List ℕ → List ℕ
padded k cs = cs ++ drop (length cs) (replicate 16 k.fresh)

-- the state at the start of a run
abbrev pub beginning : Meaning → Program → State
beginning k p = record { cells = padded k p.cells; mutexes = replicate 8 Free; threads = record { entries = started k } }
