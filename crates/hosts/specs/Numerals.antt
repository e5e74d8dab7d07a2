-- The number that a word spells.
use Rattle.std.specs.Prelude.{ℕ, List}
use Rattle.std.specs.Str.Parse.{digits_value, without_leading_plus}

abbrev pub numeral : List ℕ → ℕ
numeral w = digits_value 10 (without_leading_plus w)
