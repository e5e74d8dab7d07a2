-- What a statement leaves behind.
use Rattle.std.specs.Prelude.{ℕ, ◌+◌, Ok, Err}
use Rattle.records.specs.declared.statement.Label.{Label}
use Rattle.records.specs.declared.statement.Thread.{Thread}
use Rattle.threads.specs.declared.effect.Effect.{Effect}
use Rattle.threads.specs.declared.effect.Effect.TheVariants.{Fail, Block, Pass, GoTo, Write, Mark, Create}
use Rattle.states.specs.declared.state.State.{State}
use Rattle.reports.specs.Stops.{End}
use Rattle.reports.specs.declared.stop.Stop.TheVariants.{Failed, Cut}
use Rattle.states.specs.States.{label, go, put, mark, create}

abbrev pub progress : Effect → End
progress Fail = (Err Failed)
progress Block = (Err Cut)
progress Pass = (Ok tt)
progress (GoTo t) = (Ok tt)
progress (Write d c) = (Ok tt)
progress (Mark m h) = (Ok tt)
progress (Create j) = (Ok tt)

-- the label behind thread i's statement
abbrev pub following : State → ℕ → Label
following s i = record { 0 = label s i + 1 }

-- the state behind thread i's statement; one that fails or blocks changes nothing
abbrev pub after : Thread → Effect → State → State
after i Fail s = s
after i Block s = s
after i Pass s = go s i.0 (following s i.0)
after i (GoTo t) s = go s i.0 t
after i (Write d c) s = go (put s i.0 d c) i.0 (following s i.0)
after i (Mark m h) s = go (mark s m.0 h) i.0 (following s i.0)
after i (Create j) s = go (create s j.0) i.0 (following s i.0)
