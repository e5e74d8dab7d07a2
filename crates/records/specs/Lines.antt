-- A file as its records.
use Rattle.std.specs.Prelude.{ℕ, ◌*◌, ◌/◌, ◌<◌, Bool, ◌&&◌, ◌||◌, List, ◌∷◌, map, length, take, drop, ◌==◌, slice_index}
use Rattle.std.specs.List.{range_with_len}
use Rattle.records.specs.declared.reader.Record.{Record}
use Rattle.records.specs.declared.reader.Record.TheVariants.{Pg, Sc, Th, St}

-- a list of bytes
abbrev pub Bytes : List ℕ → Type 0
Bytes f = (j : ℕ) → slice_index f j < 256

-- the ten bytes of the record numbered i
abbrev pub line : List ℕ → ℕ → List ℕ
line f i = take 10 (drop (10 * i) f)

-- every record of a file
abbrev pub lines : List ℕ → List (List ℕ)
lines f = map (line f) (range_with_len 0 (length f / 10))

-- does a record have the mark of these two bytes?
abbrev marked : ℕ → ℕ → List ℕ → Bool
marked p q r = slice_index r 0 == p && slice_index r 1 == q

abbrev pub pg : List ℕ → Bool
pg r = marked 80 71 r

abbrev pub sc : List ℕ → Bool
sc r = marked 83 67 r

abbrev pub th : List ℕ → Bool
th r = marked 84 72 r

abbrev pub st : List ℕ → Bool
st r = marked 83 84 r

abbrev pub known : List ℕ → Bool
known r = pg r || (sc r || (th r || st r))

-- the bytes behind the mark
abbrev pub body : List ℕ → List ℕ
body r = drop 2 r

-- a record that was read
abbrev pub seen : Record → List ℕ
seen (Pg i s) = 80 ∷ 71 ∷ s.now
seen (Sc i s) = 83 ∷ 67 ∷ s.now
seen (Th i s) = 84 ∷ 72 ∷ s.now
seen (St i s) = 83 ∷ 84 ∷ s.now

abbrev pub numbered : Record → ℕ
numbered (Pg i s) = i
numbered (Sc i s) = i
numbered (Th i s) = i
numbered (St i s) = i
