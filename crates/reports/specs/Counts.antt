-- What a walk answers, for any runner: its questions, and the counts of the leaves visited.
use Rattle.std.specs.Prelude.{◌≡◌, ℕ, ◌+◌, min, Bool, cond, ◌&&◌, ◌||◌, List, length, take, Some, None, Ok, Err, Option, Result, ◌==◌, nat_le}
use Rattle.records.specs.declared.refusal.Refusal.{Refusal}
use Rattle.records.specs.declared.refusal.Refusal.TheVariants.{Budget, LeafLimit}
use Rattle.reports.specs.Reports.{answered, unless}
use Rattle.walks.specs.declared.counts.Counts.{Counts}
use Rattle.walks.specs.declared.outcome.Outcome.{Outcome}
use Rattle.walks.specs.declared.walk.Walk.{Walk}
use Rattle.walks.specs.Leaves.{leaves}
use Rattle.walks.specs.Tallies.{fails, cuts, fills, count, visited}
use Rattle.walks.specs.Counts.{tally_counts}
use Rattle.walks.specs.Walks.{Tied, Advanced, answer_at}

-- the walk's cursor says that no leaf is left
abbrev pub over : {P : Type 0} → Walk P → Bool
over w = w.cursor.depth == 0

-- yes, or the first no
abbrev pub yes_or : Option Refusal → Result (Unit {0}) Refusal
yes_or o = answered o tt

-- the first no: a budget from 1 to 65,536, and none left or at most 16,777,216 leaves in all
abbrev pub limit_no : (done : Bool) (v b : ℕ) → Option Refusal
limit_no done v b = cond (nat_le 1 b && nat_le b 65536) (cond (done || nat_le (v + b) 16777216) None (Some LeafLimit)) (Some Budget)

abbrev pub visits : Bool → ℕ → ℕ
visits done b = cond done 0 b

-- how many leaves there are
abbrev pub total : (List ℕ → Outcome) → ℕ
total out = length (leaves out)

-- the counts of the first v leaves
abbrev pub counts_at : (List ℕ → Outcome) → ℕ → Counts
counts_at out v = record {
  answer = answer_at v (total out);
  visited = v;
  failed = count fails out (take v (leaves out));
  cut = count cuts out (take v (leaves out));
  full = count fills out (take v (leaves out));
}

-- after v leaves and b more, or those left
abbrev pub onward : (List ℕ → Outcome) → ℕ → ℕ → ℕ
onward out v b = min (v + b) (total out)

-- the first no to b more leaves after v
abbrev pub walk_no : (List ℕ → Outcome) → ℕ → ℕ → Option Refusal
walk_no out v b = limit_no (nat_le (total out) v) v b

-- what b more leaves after v are answered
abbrev pub walk_answer : (List ℕ → Outcome) → ℕ → ℕ → Result Counts Refusal
walk_answer out v b = answered (walk_no out v b) (counts_at out (onward out v b))

-- and how many are visited then
abbrev pub walk_next : (List ℕ → Outcome) → ℕ → ℕ → ℕ
walk_next out v b = unless (walk_no out v b) (onward out v b) v

-- from the walk w to x by b more leaves, answered so
pub record Walked {P : Type 0} (out : List ℕ → Outcome) (stands : P → List ℕ → Type 0) (w : Walk P) (b : ℕ) (x : Walk P) (a : Result Counts Refusal) : Type 0 where
  pub tied : Tied out stands x
  pub answer : a ≡ walk_answer out (visited w.tally) b
  pub visited : visited x.tally ≡ walk_next out (visited w.tally) b

-- From the walk w to x by a call for b more leaves, answered so: the first no, which leaves the walk as it was, or the counts
-- of its tally. So much holds of any walk; of one that is tied to a ready runner's leaves, where it has gone.
abbrev pub Went : {P : Type 0} → Type 0 → (List ℕ → Outcome) → (P → List ℕ → Type 0) → Walk P → ℕ → Walk P → Result Counts Refusal → Type 0
Went ready out stands w b x (Err e) = (limit_no (over w) (visited w.tally) b ≡ Some e) × (x ≡ w)
Went ready out stands w b x (Ok c) =
    (limit_no (over w) (visited w.tally) b ≡ None) × (c ≡ tally_counts c.answer x.tally)
    × (ready → Tied out stands w → Advanced out stands w x (visits (over w) b) c.answer)
