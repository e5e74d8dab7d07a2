use Rattle.std.proofs.Common.{◌≡◌, sym, subst, rules}
use Rattle.replay.specs.declared.call.Call.TheVariants.{Survey}
use Rattle.replay.specs.declared.call.Line.TheVariants.{Call as a_call}
use Rattle.replay.specs.Desks.{opened, LineAnswers, opened_next}
use Rattle.replay.specs.Replies.{said}
use Rattle.replay.proofs.Opening.{survey_line}
use Rattle.replay.proofs.desk.Desk.reply.Goals as goal

pub returns-in-Call-Survey-clause-answer : goal.returns-in-Call-Survey-clause-answer
returns-in-Call-Survey-clause-answer c =
    let d = c.args.self.now in
    let x = said c.survey.result in
    let e = opened c.survey.new.self in
    let is : c.args.line.now ≡ a_call (Survey c.in-Call-Survey.b) = search rules in
    subst (λ l. LineAnswers (opened d) l x × (e ≡ opened_next (opened d) l)) (sym is) (survey_line d x e c.in-Call-Survey.b c.survey.ensures.stays (λ o h. (c.survey.ensures.goes o h).0))
