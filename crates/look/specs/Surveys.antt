-- What a survey of all schedules has come to.
use Rattle.std.specs.Prelude.{◌≡◌, ℕ, List, length}
use Rattle.kinds.specs.declared.kind.Kind.{Ghosts}
use Rattle.kinds.specs.Meaning.{Meaning}
use Rattle.threads.specs.declared.machine.Machine.{Machine}
use Rattle.threads.specs.declared.point.Point.{Point}
use Rattle.threads.specs.Machines.{plays}
use Rattle.threads.specs.Points.{Follows}
use Rattle.walks.specs.declared.outcome.Outcome.{Outcome}
use Rattle.walks.specs.declared.walk.Answer.{Answer}
use Rattle.walks.specs.declared.walk.Answer.TheVariants.{Done, Spent}
use Rattle.walks.specs.declared.walk.Walk.{Walk}
use Rattle.walks.specs.Leaves.{leaves}
use Rattle.walks.specs.Tallies.{visited}
use Rattle.walks.specs.Walks.{Tied}

-- what a schedule comes to on a machine
abbrev pub outcomes : {V : Type 0} {G : Ghosts V} → Meaning → Machine V G → List ℕ → Outcome
outcomes k m ns = (plays k m ns).outcome

-- none is left
abbrev pub Over : {P : Type 0} → (List ℕ → Outcome) → Walk P → Answer → Type 0
Over out w Done = visited w.tally ≡ length (leaves out)
Over out w Spent = Unit {0}

-- The walk has counted its first leaves, and all of them where it is done.
abbrev pub Surveyed : {V : Type 0} {G : Ghosts V} → Meaning → Machine V G → Walk Point → Answer → Type 0
Surveyed k m w a = Tied (outcomes k m) (Follows k m) w × Over (outcomes k m) w a
