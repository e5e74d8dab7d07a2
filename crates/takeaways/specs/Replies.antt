-- What K's byte and a program file come to.
use Rattle.std.specs.Prelude.{ℕ, cond, ◌&&◌, List, length, drop, Ok, Err, Result, nat_le, slice_index}
use Rattle.kinds.specs.Meaning.{Meaning}
use Rattle.hosts.specs.Knowns.{kind_of}
use Rattle.records.specs.declared.refusal.Refusal.{Refusal}
use Rattle.records.specs.declared.refusal.Refusal.TheVariants.{Rounds, BufferShort}
use Rattle.records.specs.Numbers.{number}
use Rattle.records.specs.Wrote.{counted, filled}
use Rattle.questions.specs.Answer.{Answer}
use Rattle.questions.specs.Question.{question}
use Rattle.tables.specs.Program.{decoded}
use Rattle.sections.specs.Digits.{two_digits}
use Rattle.sections.specs.Emitted.{emitted}

-- some bytes, or why there are none
abbrev pub Taken : Type 0
Taken = Result (List ℕ) Refusal

-- is the number of rounds from 1 to 8?
abbrev pub rounds_asked : ℕ → Result (Unit {0}) Refusal
rounds_asked k = cond (nat_le 1 k && nat_le k 8) (Ok tt) (Err Rounds)

abbrev pub after_rounds : Result (Unit {0}) Refusal → List ℕ → Taken
after_rounds (Ok u) bs = Ok bs
after_rounds (Err e) bs = Err e

abbrev pub after_load : Answer → Taken → Taken
after_load (Ok u) t = t
after_load (Err e) t = Err e.refusal

-- the file of the sequential program; first Load's questions, and then Translate's
unfoldable pub carried : Meaning → ℕ → List ℕ → Taken
carried k rounds f = after_load (question k f) (after_rounds (rounds_asked rounds) (emitted k.byte (decoded f) rounds))

-- what a call answers that writes some bytes, and the buffer then
abbrev pub answered : List ℕ → Taken → Result ℕ Refusal
answered out (Ok bs) = counted out bs
answered out (Err e) = Err e

abbrev pub left_in : List ℕ → Taken → List ℕ
left_in out (Ok bs) = filled out bs
left_in out (Err e) = out

-- the first byte is K, and the file stands behind it
abbrev pub taken : List ℕ → Taken
taken input = carried (kind_of (drop 1 input)) (slice_index input 0) (drop 1 input)

-- the bytes, or the digits of the refusal
abbrev pub spoken : Taken → List ℕ
spoken (Ok bs) = bs
spoken (Err e) = two_digits (number e)

-- what is said where a buffer is lent: bytes that it has no room for are refused, too
abbrev pub said : List ℕ → Taken → List ℕ
said out (Ok bs) = cond (nat_le (length bs) (length out)) bs (two_digits (number BufferShort))
said out (Err e) = two_digits (number e)
