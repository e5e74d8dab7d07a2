-- The questions that a file is asked.
use Rattle.std.specs.Prelude.{ℕ, ◌+◌, ◌%◌, Bool, cond, ◌&&◌, List, [], ◌∷◌, length, Ok, Err, ◌==◌}
use Rattle.kinds.specs.Meaning.{Meaning}
use Rattle.questions.specs.declared.context.Context.{Context}
use Rattle.questions.specs.declared.context.Due.{Due}
use Rattle.questions.specs.declared.context.Due.TheVariants as due
use Rattle.records.specs.Verdict.{Verdict}
use Rattle.questions.specs.Answer.{Answer, accepted, refused}
use Rattle.records.specs.Bodies.{within}
use Rattle.records.specs.Lines.{lines}
use Rattle.questions.specs.Asks.{ask}
use Rattle.questions.specs.Past.{past, start}
use Rattle.records.specs.declared.refusal.Refusal.TheVariants as no

-- no record is left: is one due?
abbrev pub ended : Due → ℕ → Answer
ended due.Header i = refused no.Missing i 0
ended (due.Cell n) i = refused no.Missing i 0
ended (due.Thread n) i = refused no.Missing i 0
ended (due.Statement n) i = refused no.Missing i 0
ended due.End i = accepted

-- the answer on record i, and what follows a yes
abbrev pub onward : Verdict → ℕ → Answer → Answer
onward (Ok u) i rest = rest
onward (Err e) i rest = refused e.refusal i e.byte

-- the records from number i on, in turn
abbrev pub follow : Meaning → Context → ℕ → List (List ℕ) → Answer
follow k x i [] = ended x.due i
follow k x i (r ∷ rs) = onward (ask k x r) i (follow k (past x r) (i + 1) rs)

-- a whole number of records, 3 to 409 of them
abbrev pub sized : List ℕ → Bool
sized f = within 30 4090 (length f) && length f % 10 == 0

-- all questions on a file, in their order
abbrev pub question : Meaning → List ℕ → Answer
question k f = cond (sized f) (follow k start 0 (lines f)) (refused no.Length 0 0)
