-- Bytes as lower-case hexadecimal digits.
use Rattle.std.specs.Prelude.{ℕ, ◌+◌, ◌-◌, ◌*◌, cond, ◌&&◌, List, [], ◌∷◌, Some, None, Option, nat_le}

-- the value of a digit
abbrev pub digit : ℕ → Option ℕ
digit c = cond (nat_le 48 c && nat_le c 57) (Some (c - 48)) (cond (nat_le 97 c && nat_le c 102) (Some (c - 87)) None)

abbrev pub paired : Option ℕ → Option ℕ → Option ℕ
paired None l = None
paired (Some h) None = None
paired (Some h) (Some l) = Some (16 * h + l)

-- the byte that two digits spell
abbrev pub byte : ℕ → ℕ → Option ℕ
byte h l = paired (digit h) (digit l)

abbrev pub consed : Option ℕ → Option (List ℕ) → Option (List ℕ)
consed None rest = None
consed (Some b) None = None
consed (Some b) (Some bs) = Some (b ∷ bs)

-- the bytes that a text spells, two digits each
unfoldable pub bytes : List ℕ → Option (List ℕ)
bytes [] = Some []
bytes (h ∷ []) = None
bytes (h ∷ l ∷ rest) = consed (byte h l) (bytes rest)
