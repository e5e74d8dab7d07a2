-- Why a slot is over before it is done.
use Rattle.std.specs.Prelude.{Result}
use Rattle.walks.specs.declared.outcome.Ending.{Ending}
use Rattle.walks.specs.declared.outcome.Ending.TheVariants as walks
use Rattle.reports.specs.declared.stop.Stop.{Stop}
use Rattle.reports.specs.declared.stop.Stop.TheVariants.{Failed, Cut}

-- how a statement or a slot came out
abbrev pub End : Type 0
End = Result (Unit {0}) Stop

-- how a run ends that is stopped
abbrev pub ending : Stop → Ending
ending Failed = walks.Failed
ending Cut = walks.Cut
