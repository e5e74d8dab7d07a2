use Rattle.std.proofs.Common.{sym, ap, ◌∙◌, subst}
use Rattle.questions.specs.Asks.{ask}
use Rattle.questions.specs.Past.{past, Sound}
use Rattle.questions.proofs.Sounds.{past_sound, asks_unknown}
use Rattle.questions.proofs.question.step.Goals as goal

pub returns-in_default : goal.returns-in_default
returns-in_default g c =
    asks_unknown g.V.Kind.meaning c.args.x.now c.args.x.now.due _ c.in_default.ensures ∙ sym c.unmarked.ensures

pub returns : goal.returns
returns g c =
    let x = c.args.x.now in
    let e = c.in-Some.ensures.0 in
    let p = c.past.ensures ∙ ap (past x) e in
    (sym (c.in_ok-ask.ensures ∙ ap (ask g.V.Kind.meaning x) e), p, subst Sound (sym p) (past_sound x _ c.requires))
