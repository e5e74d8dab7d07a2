-- Levels: 0 to 3 are lawful, and the functions read the lowest two bits of a code only.
use Rattle.std.specs.Prelude.{ℕ, ◌+◌, ◌-◌, ◌%◌, min, ◌==◌, nat_le, nat_lt}
use Rattle.kinds.specs.Meaning.{Meaning}
use Rattle.kinds.specs.Words.{bit}

-- the lowest two bits
abbrev pub low : ℕ → ℕ
low a = a % 4

-- A difference of natural numbers below 0 is 0.
abbrev pub level : Meaning
level = record {
  byte = 100;
  fresh = 0;
  sum = λ a b. min (low a + low b) 3;
  difference = λ a b. low a - low b;
  less = λ a b. bit (nat_lt (low a) (low b));
  same = λ a b. bit (low a == low b);
  holds = λ a. nat_le 2 (low a);
  lawful = λ a. nat_lt a 4;
}
