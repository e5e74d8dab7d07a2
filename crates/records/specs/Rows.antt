-- The ten bytes of a record.
use Rattle.std.specs.Prelude.{ℕ, ◌+◌, ◌/◌, ◌%◌, List, [], ◌∷◌, ◌++◌}
use Rattle.records.specs.declared.row.Mark.{Mark}
use Rattle.records.specs.declared.row.Mark.TheVariants.{Pg, Sc, Th, St, Sq, Se, In}
use Rattle.records.specs.declared.statement.Place.{Place}
use Rattle.records.specs.declared.statement.Place.TheVariants.{Shared, Local}
use Rattle.records.specs.declared.statement.Statement.{Statement}
use Rattle.records.specs.declared.statement.Statement.TheVariants.{Set, Copy, Sum, Difference, Less, Same, Jump, Branch, Assume, Assert, Init, Destroy, Lock, Unlock, Create, Join}

-- four bytes, highest first
abbrev pub four : ℕ → List ℕ
four n = n / 16777216 % 256 ∷ n / 65536 % 256 ∷ n / 256 % 256 ∷ n % 256 ∷ []

-- a record: the two bytes of its mark, op, d, a, b and c
abbrev pub row : ℕ → ℕ → ℕ → ℕ → ℕ → ℕ → ℕ → List ℕ
row p q op d a b c = p ∷ q ∷ op ∷ d ∷ a ∷ b ∷ four c

-- the two letters of a mark
abbrev pub letters : Mark → List ℕ
letters Pg = 80 ∷ 71 ∷ []
letters Sc = 83 ∷ 67 ∷ []
letters Th = 84 ∷ 72 ∷ []
letters St = 83 ∷ 84 ∷ []
letters Sq = 83 ∷ 81 ∷ []
letters Se = 83 ∷ 69 ∷ []
letters In = 73 ∷ 78 ∷ []

-- a record of a mark
abbrev pub marked : Mark → ℕ → ℕ → ℕ → ℕ → ℕ → List ℕ
marked m op d a b c = letters m ++ op ∷ d ∷ a ∷ b ∷ four c

-- local cells stand behind the sixteen shared ones
abbrev pub place_byte : Place → ℕ
place_byte (Shared n) = n
place_byte (Local n) = (n + 16) % 256

abbrev pub statement_row : Statement → List ℕ
statement_row (Set p n) = row 83 84 1 (place_byte p) 0 0 n
statement_row (Copy p q) = row 83 84 2 (place_byte p) (place_byte q) 0 0
statement_row (Sum p q r) = row 83 84 3 (place_byte p) (place_byte q) (place_byte r) 0
statement_row (Difference p q r) = row 83 84 4 (place_byte p) (place_byte q) (place_byte r) 0
statement_row (Less p q r) = row 83 84 5 (place_byte p) (place_byte q) (place_byte r) 0
statement_row (Same p q r) = row 83 84 6 (place_byte p) (place_byte q) (place_byte r) 0
statement_row (Jump t) = row 83 84 7 0 0 0 t.0
statement_row (Branch p t) = row 83 84 8 0 (place_byte p) 0 t.0
statement_row (Assume p) = row 83 84 9 0 (place_byte p) 0 0
statement_row (Assert p) = row 83 84 10 0 (place_byte p) 0 0
statement_row (Init m) = row 83 84 11 m.0 0 0 0
statement_row (Destroy m) = row 83 84 12 m.0 0 0 0
statement_row (Lock m) = row 83 84 13 m.0 0 0 0
statement_row (Unlock m) = row 83 84 14 m.0 0 0 0
statement_row (Create j) = row 83 84 15 j.0 0 0 0
statement_row (Join j) = row 83 84 16 j.0 0 0 0
