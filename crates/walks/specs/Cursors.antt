-- What is ahead of a cursor, and where its points stand.
use Rattle.std.specs.Prelude.{◌≡◌, ℕ, zero, suc, ◌+◌, ◌-◌, ◌<◌, List, [], ◌++◌, take, slice_index, slice_index_or}
use Rattle.walks.specs.declared.cursor.Cursor.{Cursor}
use Rattle.walks.specs.declared.outcome.Ending.{Ending}
use Rattle.walks.specs.declared.outcome.Outcome.{Outcome}
use Rattle.walks.specs.declared.outcome.Outcome.TheVariants.{Open, Ended}
use Rattle.walks.specs.Leaves.{scan, level}
use Rattle.walks.specs.Paths.{Levels, levels, points, list_of}

-- The leaves after those that begin with the first d numbers: at each level those with a number after the one taken.
unfoldable pub after : (out : List ℕ → Outcome) (numbers bounds : List ℕ) (d : ℕ) → List (List ℕ)
after out numbers bounds zero = []
after out numbers bounds (suc d) =
    scan out (level out (63 - d)) (take d numbers) (slice_index bounds d - slice_index numbers d) (suc (slice_index numbers d)) ++ after out numbers bounds d

-- The leaves ahead of d levels, the number of the last one still to be tried.
unfoldable pub ahead : (out : List ℕ → Outcome) (numbers bounds : List ℕ) (d : ℕ) → List (List ℕ)
ahead out numbers bounds zero = []
ahead out numbers bounds (suc d) =
    scan out (level out (63 - d)) (take d numbers) (suc (slice_index bounds d - slice_index numbers d)) (slice_index numbers d) ++ after out numbers bounds d

-- each of the first d points stands where its number is due
abbrev pub Placed : {P : Type 0} (stands : P → List ℕ → Type 0) (points : List P) (numbers : List ℕ) (d : ℕ) → Type 0
Placed {P} stands points numbers d = (i : ℕ) (q : P) → i < d → stands (slice_index_or points i q) (take i numbers)

-- how many points stand after a step at depth d
abbrev pub reached : Outcome → ℕ → ℕ
reached (Open b) d = d + 1
reached (Ended e) d = d

abbrev pub ahead_in : (List ℕ → Outcome) → Levels → List (List ℕ)
ahead_in out p = ahead out p.numbers p.bounds p.depth

module _ {P : Type 0} where
  abbrev pub ahead_of : (List ℕ → Outcome) → Cursor P → List (List ℕ)
  ahead_of out c = ahead_in out (levels c)

  abbrev pub leaf_of : Cursor P → List ℕ
  leaf_of c = list_of (levels c)

  abbrev pub PlacedAt : (P → List ℕ → Type 0) → Cursor P → Type 0
  PlacedAt stands c = Placed stands (points c) (levels c).numbers c.depth

  -- the cursor's list has come to o, and if it is open, the point behind its last number stands too
  abbrev pub Arrived : (List ℕ → Outcome) → (P → List ℕ → Type 0) → Cursor P → Outcome → Type 0
  Arrived out stands c o = (out (leaf_of c) ≡ o) × Placed stands (points c) (levels c).numbers (reached o c.depth)

  -- from the cursor c down to the first leaf ahead of it, which ends so
  pub record Descended (out : List ℕ → Outcome) (stands : P → List ℕ → Type 0) (c d : Cursor P) (e : Ending) : Type 0 where
    pub some : 0 < d.depth
    pub placed : PlacedAt stands d
    pub ends : out (leaf_of d) ≡ Ended e
    pub ahead : ahead_of out d ≡ ahead_of out c
