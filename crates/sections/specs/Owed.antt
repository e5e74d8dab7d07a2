-- What the section writer does with a section that owes its count, and with the buffer. A refusal changes nothing.
use Rattle.std.specs.Prelude.{ℕ, ◌+◌, ◌*◌, Bool, cond, ◌&&◌, List, length, Ok, Err, Result, nat_le, nat_lt}
use Rattle.records.specs.declared.refusal.Refusal.{Refusal}
use Rattle.records.specs.declared.refusal.Refusal.TheVariants.{BufferShort}
use Rattle.records.specs.Rows.{four}
use Rattle.records.specs.Wrote.{wrote}
use Rattle.sequences.specs.declared.instruction.Instruction.{Instruction}
use Rattle.sections.specs.declared.owed.OwedCount.{OwedCount}
use Rattle.sections.specs.declared.owed.Unclosed.{Unclosed}
use Rattle.sections.specs.declared.owner.Owner.{Owner}
use Rattle.sections.specs.Rows.{instruction_row, section_row}

-- the section that starts at a place and has n instructions
abbrev pub owed_from : ℕ → ℕ → OwedCount
owed_from a n = record { at = a; count = n }

-- where it ends so far
abbrev pub end_of : OwedCount → ℕ
end_of s = s.at + 10 * s.count + 10

-- whether a buffer of so many bytes has room for it, and for more bytes behind it
abbrev pub within : OwedCount → ℕ → ℕ → Bool
within s len more = nat_le (end_of s + more) len

abbrev pub begun : ℕ → ℕ → Result OwedCount Refusal
begun len at = cond (nat_le (at + 10) len) (Ok (owed_from at 0)) (Err BufferShort)

abbrev pub begun_in : List ℕ → ℕ → Owner → List ℕ
begun_in out at o = cond (nat_le (at + 10) (length out)) (wrote out at (section_row o 0)) out

-- whether it can take one more instruction: the count stays within 32 bits, and there is room
abbrev pub open_to : OwedCount → ℕ → Bool
open_to s len = nat_lt s.count 4294967295 && within s len 10

abbrev pub added : OwedCount → ℕ → Result (Unit {0}) Refusal
added s len = cond (open_to s len) (Ok tt) (Err BufferShort)

abbrev pub added_to : OwedCount → ℕ → OwedCount
added_to s len = cond (open_to s len) (owed_from s.at (s.count + 1)) s

abbrev pub added_in : OwedCount → Instruction → List ℕ → List ℕ
added_in s x out = cond (open_to s (length out)) (wrote out (end_of s) (instruction_row x)) out

-- the section stays owed where its closing is refused
abbrev pub unclosed : OwedCount → Unclosed
unclosed s = record { owed = s; refusal = BufferShort }

abbrev pub closed : OwedCount → ℕ → Result ℕ Unclosed
closed s len = cond (within s len 0) (Ok (end_of s)) (Err (unclosed s))

abbrev pub closed_in : OwedCount → List ℕ → List ℕ
closed_in s out = cond (within s (length out) 0) (wrote out (s.at + 6) (four s.count)) out
