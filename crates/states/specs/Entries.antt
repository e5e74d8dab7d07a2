-- The table of thread entries, as a list.
use Rattle.std.specs.Prelude.{ℕ, true, false, List, [], replicate, slice_index_or, slice_set}
use Rattle.kinds.specs.Meaning.{Meaning}
use Rattle.records.specs.declared.statement.Label.{Label}
use Rattle.states.specs.declared.entries.ThreadEntry.{ThreadEntry}

abbrev pub Entries : Type 0
Entries = List ThreadEntry

-- what stands where the table has no entry
abbrev pub no_entry : ThreadEntry
no_entry = record { label = record { 0 = 0 }; locals = []; created = false }

abbrev pub entry_of : Entries → ℕ → ThreadEntry
entry_of es i = slice_index_or es i no_entry

-- one entry changed; where the table has none, nothing
abbrev pub with_entry : Entries → ℕ → ThreadEntry → Entries
with_entry es i e = slice_set es i e

-- the code in local cell n, and the fresh code where there is none
abbrev pub local_in : Meaning → ThreadEntry → ℕ → ℕ
local_in k e n = slice_index_or e.locals n k.fresh

abbrev pub with_local : ThreadEntry → ℕ → ℕ → ThreadEntry
with_local e n c = record { label = e.label; locals = slice_set e.locals n c; created = e.created }

abbrev pub labelled : ThreadEntry → Label → ThreadEntry
labelled e t = record { label = t; locals = e.locals; created = e.created }

abbrev pub awake : ThreadEntry → ThreadEntry
awake e = record { label = e.label; locals = e.locals; created = true }

-- a thread that was not created
abbrev pub asleep : Meaning → ThreadEntry
asleep k = record { label = record { 0 = 0 }; locals = replicate 8 k.fresh; created = false }

-- at the start of a run only thread 0 is created
abbrev pub started : Meaning → Entries
started k = with_entry (replicate 8 (asleep k)) 0 (awake (asleep k))
