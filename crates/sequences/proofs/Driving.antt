-- A run from a point is a run of the driver.
use Rattle.std.proofs.Common.{◌≡◌, ℕ, List, [], ◌∷◌, refl, ap}
use Rattle.kinds.specs.Meaning.{Meaning}
use Rattle.reports.specs.Players.{Told, goes}
use Rattle.walks.specs.declared.outcome.Outcome.{Outcome}
use Rattle.walks.specs.declared.outcome.Outcome.TheVariants.{Open, Ended}
use Rattle.sequences.specs.declared.point.SeqPoint.{SeqPoint}
use Rattle.sequences.specs.Drives.{Sequence, Driven, prefixed, turn, drive_from}

-- what a run told, with the state in the place of the point
abbrev pub as_driven : Told SeqPoint → Driven
as_driven r = record { outcome = r.outcome; counts = r.counts; state = r.point.state }

pub goes_drives : (k : Meaning) (s : Sequence) (ns : List ℕ) (o : Outcome) (at : SeqPoint) → as_driven (goes (turn k s) o at ns) ≡ drive_from k s o at ns
unfolding goes drive_from
goes_drives k s [] o at = refl
goes_drives k s (n ∷ ns) (Open b) at = let t = turn k s at n in ap (prefixed t.count) (goes_drives k s ns t.outcome t.point)
goes_drives k s (n ∷ ns) (Ended e) at = refl
