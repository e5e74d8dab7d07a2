use Rattle.std.proofs.Common.{[], get_or, sym, subst, rules}
use Rattle.walks.proofs.Rows.{complete}
use Rattle.walks.proofs.Visits.{begun}
use Rattle.walks.proofs.walk.Walk.begin.Goals as goal

pub returns-clause-tied : goal.returns-clause-tied
returns-clause-tied g c =
    let m = g.R.Runner in
    let r = c.args.r.now in
    let told = c.start-outcome.ensures in
    begun (m.outcome r) (m.stands r) _ c.start-outcome.result.0 (sym told.outcome) (search rules) c.new.ensures (λ opens x. told.stands opens)

pub returns-clause-complete : goal.returns-clause-complete
returns-clause-complete g c ready =
    let r = c.args.r.now in
    complete (g.R.Runner.outcome r) (g.met.R.Runner.lawful r ready)
