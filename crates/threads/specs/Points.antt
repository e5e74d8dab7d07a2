-- Where a machine stands after a list of numbers.
use Rattle.std.specs.Prelude.{◌≡◌, ℕ, ◌%◌, ◌<◌, ◌≤◌, true, List, ◌++◌}
use Rattle.kinds.specs.declared.kind.Kind.{Ghosts}
use Rattle.kinds.specs.Meaning.{Meaning}
use Rattle.states.specs.States.{created}
use Rattle.tables.specs.WellFormed.{WellFormed}
use Rattle.threads.specs.declared.machine.Machine.{Machine}
use Rattle.threads.specs.declared.point.Point.{Point}
use Rattle.threads.specs.Machines.{program, total, plays}
use Rattle.threads.specs.Turns.{width, rest}

-- a program was loaded, and the rounds were set
abbrev pub Ready : {V : Type 0} {G : Ghosts V} → Meaning → Machine V G → Type 0
Ready k m = WellFormed k (program m) × (1 ≤ m.rounds)

-- The point is at the slot that waits after the list l: whatever numbers follow, the run goes on from there.
pub record Follows {V : Type 0} {G : Ghosts V} (k : Meaning) (m : Machine V G) (at : Point) (l : List ℕ) : Type 0 where
  pub within : at.slot < total m
  pub exists : created at.state (at.slot % width (program m)) ≡ true
  pub on : (ns : List ℕ) → (plays k m (l ++ ns)).outcome ≡ (rest k (program m) (total m) at ns).outcome
