-- Words: every code of 32 bits is lawful.
use Rattle.std.specs.Prelude.{ℕ, ◌+◌, ◌-◌, ◌%◌, ◌^◌, Bool, cond, not, ◌==◌, nat_lt}
use Rattle.kinds.specs.Meaning.{Meaning}

-- the code of an answer: 1 for yes, 0 for no
abbrev pub bit : Bool → ℕ
bit b = cond b 1 0

-- A code read as a two's complement number, moved up by 2 ^ 31: this keeps the order of the signed numbers.
abbrev pub moved : ℕ → ℕ
moved a = (a + 2 ^ 31) % 2 ^ 32

abbrev pub words : Meaning
words = record {
  byte = 1;
  fresh = 0;
  sum = λ a b. (a + b) % 2 ^ 32;
  difference = λ a b. (a + (2 ^ 32 - b)) % 2 ^ 32;
  less = λ a b. bit (nat_lt (moved a) (moved b));
  same = λ a b. bit (a == b);
  holds = λ a. not (a == 0);
  lawful = λ a. nat_lt a (2 ^ 32);
}
