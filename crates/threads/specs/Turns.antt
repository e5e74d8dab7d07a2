-- One number at a point between two slots.
use Rattle.std.specs.Prelude.{◌≡◌, ℕ, zero, suc, ◌+◌, ◌-◌, ◌%◌, ◌<◌, ◌≤◌, true, cond, List, length, drop, nat_lt, Ok, Err}
use Rattle.kinds.specs.Meaning.{Meaning}
use Rattle.tables.specs.Program.{Program}
use Rattle.walks.specs.declared.outcome.Ending.TheVariants.{Full}
use Rattle.walks.specs.declared.outcome.Outcome.{Outcome}
use Rattle.walks.specs.declared.outcome.Outcome.TheVariants.{Open, Ended}
use Rattle.reports.specs.Players.{Turned}
use Rattle.threads.specs.declared.point.Point.{Point}
use Rattle.reports.specs.Stops.{End, ending}
use Rattle.states.specs.declared.state.State.{State}
use Rattle.tables.specs.Slots.{program_slots}
use Rattle.threads.specs.Plays.{Played, bound, serve, rounds}
use Rattle.threads.specs.Slots.{Ran}
use Rattle.states.specs.States.{created, beginning}

-- how many threads have slots
abbrev pub width : Program → ℕ
width p = length p.texts

-- the first slot from q on whose thread is created, m slots being left
unfoldable pub seek : Program → State → ℕ → ℕ → ℕ
seek p s zero q = q
seek p s (suc m) q = cond (created s (q % width p)) q (seek p s m (q + 1))

abbrev pub point : ℕ → State → Point
point q s = record { slot = q; state = s }

-- of n slots, the first from q on that exists
abbrev pub landed : Program → ℕ → ℕ → State → Point
landed p n q s = point (seek p s (n - q) q) s

-- what a run comes to that stands at a point, with no number left
abbrev pub standing : Program → ℕ → Point → Outcome
standing p n at = cond (nat_lt at.slot n) (Open (bound p at.state (at.slot % width p))) (Ended Full)

abbrev pub turned : ℕ → Outcome → Point → Turned Point
turned c o at = record { count = c; outcome = o; point = at }

-- behind the slot q
abbrev pub turned_so : Program → ℕ → ℕ → Ran → End → Turned Point
turned_so p n q r (Ok _) =
    let at = landed p n (q + 1) r.state in
    turned r.slot.count.0 (standing p n at) at
turned_so p n q r (Err e) = turned r.slot.count.0 (Ended (ending e)) (point q r.state)

-- one number at a point, n slots being all; where none is left, the run is full and nothing happens
abbrev pub turn : Meaning → Program → ℕ → Point → ℕ → Turned Point
turn k p n at g =
    let r = serve k p (at.slot % width p) at.state g in
    cond (nat_lt at.slot n) (turned_so p n at.slot r r.slot.end) (turned 0 (Ended Full) at)

-- a point at a slot that exists, or behind the last one
pub record Stands (p : Program) (n : ℕ) (at : Point) : Type 0 where
  pub within : at.slot ≤ n
  pub exists : at.slot < n → created at.state (at.slot % width p) ≡ true

-- the point before the first number
abbrev pub first : Meaning → Program → ℕ → Point
first k p n = landed p n 0 (beginning k p)

-- how a run stands before its first number; there is no slot to count yet
abbrev pub begun : Meaning → Program → ℕ → Turned Point
begun k p n = let at = first k p n in turned 0 (standing p n at) at

-- what is left of a run that stands at a point
abbrev pub rest : Meaning → Program → ℕ → Point → List ℕ → Played
rest k p n at ns = rounds k p (drop at.slot (program_slots p n)) at.state ns
