-- The levels of a cursor, and how they move.
use Rattle.std.specs.Prelude.{ℕ, zero, suc, ◌+◌, ◌-◌, cond, List, map, take, replicate, ◌==◌, nat_lt, slice_index, slice_set}
use Rattle.walks.specs.declared.outcome.Ending.{Ending}
use Rattle.walks.specs.declared.outcome.Ending.TheVariants.{Failed, Cut, Full}
use Rattle.walks.specs.declared.outcome.Outcome.{Outcome}
use Rattle.walks.specs.declared.outcome.Outcome.TheVariants.{Open, Ended}
use Rattle.walks.specs.declared.cursor.Cursor.{Cursor}
use Rattle.walks.specs.declared.cursor.Level.{Level}
use Rattle.walks.specs.Outcomes.{bound}

-- the number and the bound of each level
pub record Levels : Type 0 where
  pub numbers : List ℕ
  pub bounds : List ℕ
  pub depth : ℕ

module _ {P : Type 0} where
  abbrev pub levels : Cursor P → Levels
  levels c = record { numbers = c.numbers; bounds = map (λ (l : Level P). l.bound) c.levels; depth = c.depth }

  -- and the point before it
  abbrev pub points : Cursor P → List P
  points c = map (λ (l : Level P). l.point) c.levels

-- the list that the levels come to
abbrev pub list_of : Levels → List ℕ
list_of p = take p.depth p.numbers

abbrev pub first_depth : Outcome → ℕ
first_depth (Open b) = 1
first_depth (Ended e) = 0

-- the levels at the start, the outcome of the empty list being given
abbrev pub first : Outcome → Levels
first o = record { numbers = replicate 64 0; bounds = replicate 65 (bound o); depth = first_depth o }

-- one level more, at its first number
abbrev pub pushed : Levels → ℕ → Levels
pushed p b = record { numbers = slice_set p.numbers p.depth 0; bounds = slice_set p.bounds p.depth b; depth = p.depth + 1 }

-- how many of the first d levels are left when those at the end that have no next number are taken away
unfoldable pub unspent : (numbers bounds : List ℕ) (d : ℕ) → ℕ
unspent numbers bounds zero = 0
unspent numbers bounds (suc d) = cond (nat_lt (slice_index numbers d) (slice_index bounds d)) (suc d) (unspent numbers bounds d)

-- the last of d levels goes on to its next number
abbrev pub raised : List ℕ → ℕ → List ℕ
raised numbers d = cond (d == 0) numbers (slice_set numbers (d - 1) (slice_index numbers (d - 1) + 1))

-- the deepest level that has a next number goes on to it, and those below it are gone
abbrev pub turned : Levels → Levels
turned p =
    let d = unspent p.numbers p.bounds p.depth in
    record { numbers = raised p.numbers d; bounds = p.bounds; depth = d }

-- how many of d levels have a next list to try, behind one that ends so: after one that fails, none of its level is a leaf
abbrev pub left_depth : Ending → ℕ → ℕ
left_depth Failed d = d - 1
left_depth Cut d = d
left_depth Full d = d

abbrev pub left : Ending → Levels → Levels
left e p = record { numbers = p.numbers; bounds = p.bounds; depth = left_depth e p.depth }
