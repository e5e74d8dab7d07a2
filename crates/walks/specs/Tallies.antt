-- What is counted of the leaves, and which of them was the latest to fail.
use Rattle.std.specs.Prelude.{◌≡◌, ℕ, zero, suc, ◌+◌, ◌≤◌, Bool, true, false, cond, List, [], length, take, Some, None, count_by, Option, slice_index_or}
use Rattle.walks.specs.declared.outcome.Ending.{Ending}
use Rattle.walks.specs.declared.outcome.Ending.TheVariants.{Failed, Cut, Full}
use Rattle.walks.specs.declared.outcome.Outcome.{Outcome}
use Rattle.walks.specs.declared.outcome.Outcome.TheVariants.{Open, Ended}
use Rattle.walks.specs.declared.found.Found.{Found}
use Rattle.walks.specs.declared.tally.Latest.{Latest}
use Rattle.walks.specs.declared.tally.Tally.{Tally}
use Rattle.walks.specs.Leaves.{leaves}
use Rattle.walks.specs.Paths.{Levels, list_of}

abbrev pub fails : Ending → Bool
fails Failed = true
fails Cut = false
fails Full = false

abbrev pub cuts : Ending → Bool
cuts Failed = false
cuts Cut = true
cuts Full = false

abbrev pub fills : Ending → Bool
fills Failed = false
fills Cut = false
fills Full = true

abbrev pub ends_so : (Ending → Bool) → Outcome → Bool
ends_so test (Open b) = false
ends_so test (Ended e) = test e

-- how many of some lists end so
abbrev pub count : (Ending → Bool) → (List ℕ → Outcome) → List (List ℕ) → ℕ
count test out rows = count_by (λ s. ends_so test (out s)) rows

-- a failing list, and its position among the leaves, the first being 1
pub record Failing : Type 0 where
  pub position : ℕ
  pub numbers : List ℕ

-- the last of the first v lists of a row that fails
unfoldable pub latest : (List ℕ → Outcome) → List (List ℕ) → ℕ → Option Failing
latest out rows zero = None
latest out rows (suc v) = cond (ends_so fails (out (slice_index_or rows v []))) (Some (record { position = suc v; numbers = slice_index_or rows v [] })) (latest out rows v)

abbrev pub visited : Tally → ℕ
visited t = t.failed + t.cut + t.full

-- the list that failed last
abbrev pub numbers_of : Latest → List ℕ
numbers_of l = take l.depth l.numbers

abbrev pub as_failing : Option Latest → Option Failing
as_failing None = None
as_failing (Some l) = Some (record { position = l.position; numbers = numbers_of l })

-- what a tally found last
abbrev pub found : Tally → Option Failing
found t = as_failing t.latest

-- what a tally says
pub record Tallied : Type 0 where
  pub failed : ℕ
  pub cut : ℕ
  pub full : ℕ
  pub latest : Option Failing

abbrev pub tallied : Tally → Tallied
tallied t = record { failed = t.failed; cut = t.cut; full = t.full; latest = found t }

abbrev pub nothing : Tallied
nothing = record { failed = 0; cut = 0; full = 0; latest = None }

-- one leaf more, which ends so
abbrev pub noted : Tally → Ending → Levels → Tallied
noted t Failed p = record { failed = t.failed + 1; cut = t.cut; full = t.full; latest = Some (record { position = visited t + 1; numbers = list_of p }) }
noted t Cut p = record { failed = t.failed; cut = t.cut + 1; full = t.full; latest = found t }
noted t Full p = record { failed = t.failed; cut = t.cut; full = t.full + 1; latest = found t }

abbrev pub list_found : Option Latest → List ℕ
list_found None = []
list_found (Some l) = numbers_of l

-- the numbers of the list that a tally found last, and none before one is
abbrev pub latest_list : Tally → List ℕ
latest_list t = list_found t.latest

-- where it was found
abbrev pub place : Option Latest → Option Found
place None = None
place (Some l) = Some (record { length = length (numbers_of l); position = l.position })

-- A tally of the first leaves.
pub record Counted (out : List ℕ → Outcome) (t : Tally) : Type 0 where
  pub within : visited t ≤ length (leaves out)
  pub failed : t.failed ≡ count fails out (take (visited t) (leaves out))
  pub cut : t.cut ≡ count cuts out (take (visited t) (leaves out))
  pub full : t.full ≡ count fills out (take (visited t) (leaves out))
  pub latest : found t ≡ latest out (leaves out) (visited t)
