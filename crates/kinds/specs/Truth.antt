-- Truth values: 0 and 1 are lawful, and the functions read the lowest bit of a code only.
use Rattle.std.specs.Prelude.{ℕ, ◌%◌, Bool, not, ◌&&◌, ◌||◌, ◌==◌, nat_lt}
use Rattle.kinds.specs.Meaning.{Meaning}
use Rattle.kinds.specs.Words.{bit}

-- the lowest bit
abbrev pub low : ℕ → Bool
low a = a % 2 == 1

abbrev pub truth : Meaning
truth = record {
  byte = 2;
  fresh = 0;
  sum = λ a b. bit (low a || low b);
  difference = λ a b. bit (low a && not (low b));
  less = λ a b. bit (low b && not (low a));
  same = λ a b. bit (a % 2 == b % 2);
  holds = low;
  lawful = λ a. nat_lt a 2;
}
