-- What a machine is told.
use Rattle.std.specs.Prelude.{ℕ, Bool, cond, ◌&&◌, List, Ok, Err, Result, nat_le}
use Rattle.kinds.specs.declared.kind.Kind.{Ghosts}
use Rattle.records.specs.declared.refusal.Refusal.{Refusal}
use Rattle.records.specs.declared.refusal.Refusal.TheVariants.{Rounds}
use Rattle.kinds.specs.Meaning.{Meaning}
use Rattle.tables.specs.Program.{Program}
use Rattle.tables.specs.Tables.{view}
use Rattle.threads.specs.declared.machine.Machine.{Machine}
use Rattle.tables.specs.Slots.{slot_total}
use Rattle.threads.specs.Plays.{Played, play, cells_of}

abbrev few : ℕ → Bool
few k = nat_le 1 k && nat_le k 8

-- the answer to a number of rounds, and the number that a machine then has
abbrev pub rounds_asked : ℕ → Result (Unit {0}) Refusal
rounds_asked k = cond (few k) (Ok tt) (Err Rounds)

abbrev pub rounds_after : ℕ → ℕ → ℕ
rounds_after k old = cond (few k) k old

-- the program in a machine's table, and how many slots its runs have
abbrev pub program : {V : Type 0} {G : Ghosts V} → Machine V G → Program
program m = view m.table

abbrev pub total : {V : Type 0} {G : Ghosts V} → Machine V G → ℕ
total m = slot_total (program m) m.rounds

-- what a list of numbers comes to on a machine
abbrev pub plays : {V : Type 0} {G : Ghosts V} → Meaning → Machine V G → List ℕ → Played
plays k m ns = play k (program m) m.rounds ns

-- the cells that a list of numbers leaves
abbrev pub cells_left : {V : Type 0} {G : Ghosts V} → Meaning → Machine V G → List ℕ → List ℕ
cells_left k m ns = cells_of (program m) (plays k m ns).state
