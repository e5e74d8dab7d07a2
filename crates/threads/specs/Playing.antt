-- From the first number to the answer.
use Rattle.std.specs.Prelude.{◌≡◌, ℕ, List, refl}
use Rattle.std.proofs.Common.{sym, ap, ◌∙◌, arith}
use Rattle.kinds.specs.Meaning.{Meaning}
use Rattle.reports.specs.Players.{tells}
use Rattle.tables.specs.Program.{Program}
use Rattle.threads.specs.declared.point.Point.{Point}
use Rattle.tables.specs.Slots.{slot_total}
use Rattle.threads.specs.Plays.{play}
use Rattle.states.specs.States.{beginning}
use Rattle.threads.specs.Turns.{first, begun, turn, rest, Stands}
use Rattle.threads.specs.Running.{as_played, goes_standing}
use Rattle.threads.specs.Turning.{rest_landed, landed_stands}

module _ (k : Meaning) (p : Program) (r : ℕ) (at : Point) (e : at ≡ first k p (slot_total p r)) where
  pub first_stands : Stands p (slot_total p r) at
  first_stands = rw e (landed_stands k p (slot_total p r) 0 (beginning k p) (omega arith))

  pub first_rest : (ns : List ℕ) → rest k p (slot_total p r) at ns ≡ play k p r ns
  first_rest ns = ap (λ a. rest k p (slot_total p r) a ns) e ∙ sym (rest_landed k p (slot_total p r) 0 (beginning k p) ns (omega arith))

-- a run from its start is a run of the program
pub begun_plays : (k : Meaning) (p : Program) (r : ℕ) (ns : List ℕ) → as_played k p (slot_total p r) (tells (turn k p (slot_total p r)) (begun k p (slot_total p r)) ns) ≡ play k p r ns
begun_plays k p r ns =
    let n = slot_total p r in
    let at = first k p n in
    goes_standing k p n ns at (first_stands k p r at refl) ∙ first_rest k p r at refl ns
