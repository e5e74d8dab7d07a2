use Rattle.std.proofs.Common.{sym, ap}
use Rattle.walks.specs.Paths.{levels}
use Rattle.walks.specs.Walks.{next_outcome}
use Rattle.walks.proofs.Tallying.{noted_visited}
use Rattle.walks.proofs.Visits.{visited_one, none_left}
use Rattle.walks.proofs.walk.Walk.visit.Goals as goal

pub returns-then-self-eq0-clause-leaf : goal.returns-then-self-eq0-clause-leaf
returns-then-self-eq0-clause-leaf g c ready tied =
    let m = g.R.Runner in
    let r = c.args.r.now in
    record { tied = tied; ending = sym (ap (next_outcome (m.outcome r)) (none_left (m.outcome r) (m.stands r) c.args.self.now tied c.if-self-eq0.true)) }

pub returns : goal.returns
returns g c =
    let m = g.R.Runner in
    let r = c.args.r.now in
    let d = c.descend-ending.new.self in
    let e = c.descend-ending.result in
    record {
      count = noted_visited c.args.self.now.tally (levels d) e c.note.new.self c.note.ensures;
      leaf = λ ready tied. visited_one (m.outcome r) (m.stands r) c.args.self.now _ d e tied (c.descend-ending.ensures ready tied.placed) c.leave.ensures.points c.leave.ensures.path c.note.ensures;
    }
