-- One instruction of the driver: where it leads, and the numbers after it.
use Rattle.std.specs.Prelude.{ℕ, ◌+◌, ◌-◌, cond, List, ◌==◌, Ok, Err}
use Rattle.std.specs.declared.ops.ControlFlow.{ControlFlow}
use Rattle.std.specs.declared.ops.ControlFlow.TheVariants.{Continue, Break}
use Rattle.kinds.specs.Meaning.{Meaning}
use Rattle.walks.specs.declared.outcome.Ending.TheVariants as ending
use Rattle.walks.specs.declared.outcome.Outcome.TheVariants.{Open}
use Rattle.reports.specs.declared.report.Turn.{Turn}
use Rattle.reports.specs.Players.{over}
use Rattle.reports.specs.Stops.{End}
use Rattle.reports.specs.Stops as stops
use Rattle.sequences.specs.declared.instruction.Instruction.{Instruction}
use Rattle.sequences.specs.declared.point.SeqPoint.{SeqPoint}
use Rattle.sequences.specs.declared.state.SeqState.{SeqState}
use Rattle.sequences.specs.Acts.{Called, call}
use Rattle.sequences.specs.Drives.{Move, slot, guess, enter, save, finish, stray, point}
use Rattle.sequences.specs.States.{word, with_word}
use Rattle.sequences.specs.Words.{active, saved, stop_at}

-- a turn that waits for a number
abbrev pub waiting : ℕ → ℕ → Turn
waiting c b = record { count = record { 0 = c }; outcome = Open b }

-- whether the driver goes on, with the latest CALL's count, and where it is
pub record Strode : Type 0 where
  pub stride : ControlFlow Turn ℕ
  pub point : SeqPoint

abbrev pub strode : ControlFlow Turn ℕ → SeqPoint → Strode
strode s p = record { stride = s; point = p }

abbrev pub entered : ℕ → Called → End → Strode
entered h r (Ok tt) = strode (Continue r.count) (point (h + 1) r.state)
entered h r (Err e) = strode (Break (over r.count (stops.ending e))) (point h r.state)

abbrev pub stride : Meaning → (ℕ → List Instruction) → (h c : ℕ) → SeqState → Move → Strode
stride k sections h c q (slot i to) = strode (Continue c) (point (cond (word q (active i) == 0) to (h + 1)) q)
stride k sections h c q (guess i n) = strode (Break (waiting c (n - word q (saved i)))) (point h q)
stride k sections h c q (enter i) = let r = call k i (sections i) q in entered h r r.end
stride k sections h c q (save i) = strode (Continue c) (point (h + 1) (with_word q (saved i) (word q stop_at)))
stride k sections h c q finish = strode (Break (over c ending.Full)) (point h q)
stride k sections h c q stray = strode (Break (over c ending.Cut)) (point h q)
