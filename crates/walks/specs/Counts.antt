-- The counts in a tally.
use Rattle.walks.specs.declared.counts.Counts.{Counts}
use Rattle.walks.specs.declared.tally.Tally.{Tally}
use Rattle.walks.specs.declared.walk.Answer.{Answer}
use Rattle.walks.specs.Tallies.{visited}

abbrev pub tally_counts : Answer → Tally → Counts
tally_counts a t = record { answer = a; visited = visited t; failed = t.failed; cut = t.cut; full = t.full }
