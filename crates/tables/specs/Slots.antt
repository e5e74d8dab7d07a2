-- The slots of a run: which thread has each.
use Rattle.std.specs.Prelude.{ℕ, ◌*◌, ◌%◌, List, map, length}
use Rattle.std.specs.List.{range_with_len}
use Rattle.tables.specs.Program.{Program}

-- n slots, which t threads have in turn
abbrev pub slots : ℕ → ℕ → List ℕ
slots t n = map (λ q. q % t) (range_with_len 0 n)

-- how many slots so many rounds have
abbrev pub slot_total : Program → ℕ → ℕ
slot_total p k = k * length p.texts

abbrev pub program_slots : Program → ℕ → List ℕ
program_slots p n = slots (length p.texts) n
