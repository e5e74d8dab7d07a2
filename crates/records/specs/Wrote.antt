-- What a buffer holds after bytes were written into it.
use Rattle.std.specs.Prelude.{ℕ, ◌+◌, cond, List, ◌++◌, length, take, drop, Ok, Err, Result, nat_le}
use Rattle.records.specs.declared.refusal.Refusal.{Refusal}
use Rattle.records.specs.declared.refusal.Refusal.TheVariants.{BufferShort}

-- bytes from a place on; the others stay
abbrev pub wrote : List ℕ → ℕ → List ℕ → List ℕ
wrote out at bs = take at out ++ (bs ++ drop (at + length bs) out)

-- a call that writes bytes at the front: its answer is their count, or that the buffer is short
abbrev pub counted : List ℕ → List ℕ → Result ℕ Refusal
counted out bs = cond (nat_le (length bs) (length out)) (Ok (length bs)) (Err BufferShort)

-- and the buffer then: the bytes past them stay, and a refusal changes nothing
abbrev pub filled : List ℕ → List ℕ → List ℕ
filled out bs = cond (nat_le (length bs) (length out)) (bs ++ drop (length bs) out) out

-- whether a buffer of so many items has room for n
abbrev pub room_for : ℕ → ℕ → Result (Unit {0}) Refusal
room_for n len = cond (nat_le n len) (Ok tt) (Err BufferShort)
