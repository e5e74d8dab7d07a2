-- What ties a walk to the leaves, and what its calls do.
use Rattle.std.specs.Prelude.{◌≡◌, ℕ, ◌+◌, min, cond, List, [], ◌∷◌, length, drop, Some, None, Option, nat_lt}
use Rattle.walks.specs.declared.outcome.Ending.{Ending}
use Rattle.walks.specs.declared.outcome.Outcome.{Outcome}
use Rattle.walks.specs.declared.outcome.Outcome.TheVariants.{Ended}
use Rattle.walks.specs.declared.walk.Answer.{Answer}
use Rattle.walks.specs.declared.walk.Answer.TheVariants.{Done, Spent}
use Rattle.walks.specs.declared.walk.Walk.{Walk}
use Rattle.walks.specs.Cursors.{PlacedAt, ahead_of}
use Rattle.walks.specs.Leaves.{leaves}
use Rattle.walks.specs.Tallies.{visited, Counted}

-- The tally is that of the first leaves, and the cursor stands before the others.
pub record Tied {P : Type 0} (out : List ℕ → Outcome) (stands : P → List ℕ → Type 0) (w : Walk P) : Type 0 where
  pub placed : PlacedAt stands w.cursor
  pub ahead : drop (visited w.tally) (leaves out) ≡ ahead_of out w.cursor
  pub counted : Counted out w.tally

-- what the first of some lists comes to
abbrev pub next_outcome : (List ℕ → Outcome) → List (List ℕ) → Option Outcome
next_outcome out [] = None
next_outcome out (s ∷ rows) = Some (out s)

abbrev pub as_outcome : Option Ending → Option Outcome
as_outcome None = None
as_outcome (Some e) = Some (Ended e)

-- how many leaves are visited after v and the one that a visit found
abbrev pub and_one : ℕ → Option Ending → ℕ
and_one v None = v
and_one v (Some e) = v + 1

-- what a walk answers that has visited v of n leaves
abbrev pub answer_at : ℕ → ℕ → Answer
answer_at v n = cond (nat_lt v n) Spent Done

module _ {P : Type 0} (out : List ℕ → Outcome) (stands : P → List ℕ → Type 0) where
  -- from the walk w to x by the next leaf, if one is left
  pub record Visited (w x : Walk P) (e : Option Ending) : Type 0 where
    pub tied : Tied out stands x
    pub ending : as_outcome e ≡ next_outcome out (drop (visited w.tally) (leaves out))

  -- from the walk w to x by the next b leaves, or those left
  pub record Advanced (w x : Walk P) (b : ℕ) (a : Answer) : Type 0 where
    pub tied : Tied out stands x
    pub moved : visited x.tally ≡ min (visited w.tally + b) (length (leaves out))
    pub answer : a ≡ answer_at (visited x.tally) (length (leaves out))
