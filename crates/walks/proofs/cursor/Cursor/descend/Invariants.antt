use Rattle.std.proofs.Common.{◌≡◌, ◌-◌, ◌<◌}
use Rattle.walks.specs.Cursors.{PlacedAt, ahead_of}
use Rattle.walks.proofs.cursor.Cursor.descend.Given as goal

abbrev pub invariant-loop-ending : goal.invariant-loop-ending
invariant-loop-ending g l =
    let m = g.R.Runner in
    (0 < l.self.depth) × (m.ready l.r → PlacedAt (m.stands l.r) l.initial.self → PlacedAt (m.stands l.r) l.self × (ahead_of (m.outcome l.r) l.self ≡ ahead_of (m.outcome l.r) l.initial.self))

abbrev pub decreases-loop-ending : goal.decreases-loop-ending
decreases-loop-ending g l = 64 - l.self.depth
