-- What is said of an outcome.
use Rattle.std.specs.Prelude.{ℕ}
use Rattle.walks.specs.declared.outcome.Outcome.{Outcome}
use Rattle.walks.specs.declared.outcome.Outcome.TheVariants.{Open, Ended}

-- the bound of the number that is wanted, and 0 of a run that has ended
abbrev pub bound : Outcome → ℕ
bound (Open b) = b
bound (Ended e) = 0

-- a run that wants one more number
abbrev pub IsOpen : Outcome → Type 0
IsOpen (Open b) = Unit {0}
IsOpen (Ended e) = ⊥
