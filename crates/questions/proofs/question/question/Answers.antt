use Rattle.std.proofs.Common.{◌≡◌, ◌/◌, length, sym, ap, ◌∙◌, arith}
use Rattle.questions.specs.Question.{ended}
use Rattle.questions.proofs.Follows.{length_lines, follow_all, question_sized}
use Rattle.questions.proofs.question.question.Goals as goal

pub returns : goal.returns
returns g c =
    let f = c.args.file.now in
    let l = ap length c.lines-line-items.ensures ∙ length_lines f in
    let e : length f / 10 ≡ c.loop-i.i-counter = omega arith in
    c.end.ensures
    ∙ ap (ended c.loop-i.x.due) e
    ∙ sym (follow_all g.V.Kind.meaning c.loop-i.x f c.loop-i.i-counter (omega arith))
    ∙ c.loop-i.invariant.1
    ∙ sym (question_sized g.V.Kind.meaning f (omega arith) (omega arith) (omega arith))
