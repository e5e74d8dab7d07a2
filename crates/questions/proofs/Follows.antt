-- The records of a file from number i on.
use Rattle.std.proofs.Common.{◌≡◌, ℕ, ◌+◌, ◌/◌, ◌%◌, ◌<◌, ◌≤◌, true, cond, List, [], ◌∷◌, length, get_or, drop, ap, arith}
use Rattle.kinds.specs.Meaning.{Meaning}
use Rattle.std.proofs.lemmas.List.FromFn.{length-map-range_with_len, get_or-map-range_with_len}
use Rattle.std.proofs.lemmas.List.{drop_more, drop_all}
use Rattle.questions.specs.declared.context.Context.{Context}
use Rattle.records.specs.Lines.{line, lines}
use Rattle.questions.specs.Past.{start}
use Rattle.questions.specs.Question.{follow, ended, sized, question}
use Rattle.questions.specs.Answer.{refused}
use Rattle.std.proofs.lemmas.Bool.{and_from, le-leb, eq-eqb}
use Rattle.records.specs.declared.refusal.Refusal.TheVariants as no

pub length_lines : (f : List ℕ) → length (lines f) ≡ length f / 10
length_lines f = length-map-range_with_len (line f) 0 (length f / 10)

pub lines_at : (f : List ℕ) (i : ℕ) → i < length f / 10 → get_or (lines f) i [] ≡ line f i
lines_at f i h = get_or-map-range_with_len (line f) 0 (length f / 10) i i [] h (omega arith)

pub lines_more : (f : List ℕ) (i : ℕ) → i < length f / 10 → drop i (lines f) ≡ line f i ∷ drop (i + 1) (lines f)
lines_more f i h =
    let e = length_lines f in
    let p = drop_more (lines f) i [] (omega arith) in
    let q = lines_at f i h in
    cc

pub lines_all : (f : List ℕ) (i : ℕ) → length f / 10 ≤ i → drop i (lines f) ≡ []
lines_all f i h = let e = length_lines f in drop_all i (lines f) (omega arith)

pub follow_all : (k : Meaning) (x : Context) (f : List ℕ) (i : ℕ) → length f / 10 ≤ i → follow k x i (drop i (lines f)) ≡ ended x.due i
follow_all k x f i h = ap (follow k x i) (lines_all f i h)

sized_true : (f : List ℕ) → 30 ≤ length f → length f ≤ 4090 → length f % 10 ≡ 0 → sized f ≡ true
sized_true f p q r =
    and_from _ _ (and_from _ _ (le-leb 30 (length f) p) (le-leb (length f) 4090 q)) (eq-eqb (length f % 10) 0 r)

pub question_sized : (k : Meaning) (f : List ℕ) → 30 ≤ length f → length f ≤ 4090 → length f % 10 ≡ 0 → question k f ≡ follow k start 0 (lines f)
question_sized k f p q r = ap (λ b. cond b (follow k start 0 (lines f)) (refused no.Length 0 0)) (sized_true f p q r)
