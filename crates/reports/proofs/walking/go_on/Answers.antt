use Rattle.std.proofs.Common.{◌≡◌, Err, sym, refl, ap, subst, subst₂, rules}
use Rattle.walks.specs.declared.counts.Counts.{Counts}
use Rattle.walks.specs.Counts.{tally_counts}
use Rattle.walks.specs.Tallies.{visited}
use Rattle.walks.specs.Walks.{Advanced}
use Rattle.reports.specs.Counts.{yes_or, over, limit_no, Walked, Went}
use Rattle.reports.proofs.Onward.{no_is, none_is, refused, walked}
use Rattle.reports.proofs.walking.go_on.Goals as goal

pub returns-in_err-asked : goal.returns-in_err-asked
returns-in_err-asked g c =
    let m = g.R.Runner in
    let r = c.args.r.now in
    let w = c.args.walk.now in
    let e = c.in_err-asked.field-0.0 in
    let is : c.from_residual.result ≡ Err e = search rules in
    let no : Err e ≡ yes_or (limit_no (over w) (visited w.tally) c.args.b) = search rules in
    record {
      walked = λ ready tied. subst (Walked (m.outcome r) (m.stands r) w c.args.b w) (sym is) (refused (m.outcome r) (m.stands r) (g.met.R.Runner.lawful r ready) w tied c.args.b e no);
      went = subst (Went (m.ready r) (m.outcome r) (m.stands r) w c.args.b w) (sym is) (no_is _ e no, refl);
    }

pub returns : goal.returns
returns g c =
    let m = g.R.Runner in
    let r = c.args.r.now in
    let w = c.args.walk.now in
    let x = c.advance-answer.new.self in
    let a = c.advance-answer.result in
    let leaves = c.advance-answer.ensures.leaves in
    record {
      walked = λ ready tied. walked (m.outcome r) (m.stands r) (g.met.R.Runner.lawful r ready) w tied c.args.b x c.visits_of.result a c.counts.result
          c.in_ok-asked.ensures c.visits_of.ensures (leaves ready tied) c.counts.ensures;
      went = (
        none_is _ c.in_ok-asked.ensures,
        subst (λ k. k ≡ tally_counts k.answer x.tally) (sym c.counts.ensures) refl,
        λ ready tied. subst₂ (λ n e. Advanced (m.outcome r) (m.stands r) w x n e) c.visits_of.ensures (ap (λ (k : Counts). k.answer) (sym c.counts.ensures)) (leaves ready tied),
      );
    }
