-- The state of the sequential program, and what changes one part of it.
use Rattle.std.specs.Prelude.{ℕ, List, [], replicate, slice_index, slice_index_or, slice_set}
use Rattle.kinds.specs.Meaning.{Meaning}
use Rattle.records.specs.declared.statement.Place.{Place}
use Rattle.records.specs.declared.statement.Place.TheVariants.{Shared, Local}
use Rattle.states.specs.States.{padded}
use Rattle.tables.specs.Program.{Program}
use Rattle.sequences.specs.declared.state.SeqState.{SeqState}

abbrev pub word : SeqState → ℕ → ℕ
word q w = slice_index q.words w

abbrev pub with_word : SeqState → ℕ → ℕ → SeqState
with_word q w v = record { words = slice_set q.words w v; cells = q.cells; locals = q.locals }

abbrev pub locals_of : SeqState → ℕ → List ℕ
locals_of q i = slice_index_or q.locals i []

abbrev pub with_locals : SeqState → ℕ → List ℕ → SeqState
with_locals q i xs = record { words = q.words; cells = q.cells; locals = slice_set q.locals i xs }

-- the code that thread i reads at a place
abbrev pub value : Meaning → SeqState → ℕ → Place → ℕ
value k q i (Shared n) = slice_index_or q.cells n k.fresh
value k q i (Local n) = slice_index_or (locals_of q i) n k.fresh

-- thread i writes a code to a place
abbrev pub put : SeqState → ℕ → Place → ℕ → SeqState
put q i (Shared n) c = record { words = q.words; cells = slice_set q.cells n c; locals = q.locals }
put q i (Local n) c = with_locals q i (slice_set (locals_of q i) n c)

-- at the start every word is 0 but that thread 0 is active, and cells hold what they hold in the thread machine
abbrev pub begun : Meaning → List ℕ → SeqState
begun k cells = record {
  words = slice_set (replicate 25 0) 0 1;
  cells = padded k cells;
  locals = replicate 8 (replicate 8 k.fresh);
}

abbrev pub beginning : Meaning → Program → SeqState
beginning k p = begun k p.cells
