-- A run over a list of numbers, on any machine that reads them one by one.
use Rattle.std.specs.Prelude.{ℕ, List, [], ◌∷◌}
use Rattle.walks.specs.declared.outcome.Ending.{Ending}
use Rattle.walks.specs.declared.outcome.Outcome.{Outcome}
use Rattle.walks.specs.declared.outcome.Outcome.TheVariants.{Open, Ended}
use Rattle.reports.specs.declared.report.Report.{Report}
use Rattle.reports.specs.declared.report.Turn.{Turn}
use Rattle.reports.specs.Reports.{report}

-- a number with which the run has ended
abbrev pub over : ℕ → Ending → Turn
over c e = record { count = record { 0 = c }; outcome = Ended e }

-- what a number came to: its count, how the run stands then, and where
pub record Turned (P : Type 0) : Type 0 where
  pub count : ℕ
  pub outcome : Outcome
  pub point : P

-- what a list of numbers came to: its outcome, a count for each number that was read, and the point that was reached
pub record Told (P : Type 0) : Type 0 where
  pub outcome : Outcome
  pub counts : List ℕ
  pub point : P

abbrev pub reported : {P : Type 0} → Told P → Report
reported r = report r.outcome r.counts

module _ {P : Type 0} where
  abbrev pub with_point : Turn → P → Turned P
  with_point t at = record { count = t.count.0; outcome = t.outcome; point = at }

  abbrev pub stays : Outcome → P → Told P
  stays o at = record { outcome = o; counts = []; point = at }

  -- one count in front
  abbrev pub prefixed : ℕ → Told P → Told P
  prefixed c r = record { outcome = r.outcome; counts = c ∷ r.counts; point = r.point }

  -- a run that has come to an outcome at a point reads the numbers left
  unfoldable pub goes : (P → ℕ → Turned P) → Outcome → P → List ℕ → Told P
  goes turn o at [] = stays o at
  goes turn (Open b) at (n ∷ ns) = let t = turn at n in prefixed t.count (goes turn t.outcome t.point ns)
  goes turn (Ended e) at (n ∷ ns) = stays (Ended e) at

  -- a run from its start
  abbrev pub tells : (P → ℕ → Turned P) → Turned P → List ℕ → Told P
  tells turn t ns = goes turn t.outcome t.point ns
