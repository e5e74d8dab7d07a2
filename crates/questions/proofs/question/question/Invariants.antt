use Rattle.std.proofs.Common.{◌≡◌, drop}
use Rattle.records.specs.Lines.{lines}
use Rattle.questions.specs.Past.{Sound, start}
use Rattle.questions.specs.Question.{follow}
use Rattle.questions.proofs.question.question.Given as goal

abbrev pub invariant-loop-i : goal.invariant-loop-i
invariant-loop-i g l =
    Sound l.x × (follow g.V.Kind.meaning l.x l.i-counter (drop l.i-counter (lines l.file)) ≡ follow g.V.Kind.meaning start 0 (lines l.file))
