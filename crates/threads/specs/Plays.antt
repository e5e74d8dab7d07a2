-- A run over a schedule: the rules of rounds and slots.
use Rattle.std.specs.Prelude.{ℕ, ◌-◌, cond, List, [], ◌∷◌, length, take, nat_lt, Ok, Err}
use Rattle.kinds.specs.Meaning.{Meaning}
use Rattle.records.specs.declared.statement.Thread.{Thread}
use Rattle.tables.specs.Program.{Program, size}
use Rattle.tables.specs.Slots.{slot_total, program_slots}
use Rattle.walks.specs.declared.outcome.Ending.TheVariants.{Full}
use Rattle.walks.specs.declared.outcome.Outcome.{Outcome}
use Rattle.walks.specs.declared.outcome.Outcome.TheVariants.{Open, Ended}
use Rattle.reports.specs.Stops.{End, ending}
use Rattle.reports.specs.declared.stop.Stop.TheVariants as end
use Rattle.states.specs.declared.state.State.{State}
use Rattle.threads.specs.Slots.{Ran, ran, run, slot_of}
use Rattle.states.specs.States.{label, created, beginning}

-- What a list of numbers comes to: its outcome, a slot count for each number that was read, and the state that is left.
pub record Played : Type 0 where
  pub outcome : Outcome
  pub counts : List ℕ
  pub state : State

abbrev pub played : Outcome → List ℕ → State → Played
played o cs s = record { outcome = o; counts = cs; state = s }

-- one slot count in front
abbrev pub prefixed : ℕ → Played → Played
prefixed c r = played r.outcome (c ∷ r.counts) r.state

abbrev pub thread : ℕ → Thread
thread i = record { 0 = i }

-- the most statements that thread i can carry out
abbrev pub bound : Program → State → ℕ → ℕ
bound p s i = size p i - label s i

-- thread i's slot with the number n; one above the bound cuts the run before the slot begins
abbrev pub serve : Meaning → Program → ℕ → State → ℕ → Ran
serve k p i s n = cond (nat_lt (bound p s i) n) (ran (slot_of (Err end.Cut) 0) s) (run k p (thread i) n 0 s)

-- behind a slot that ended so; `more` is the rest of the run
abbrev pub closed : Ran → (State → Played) → End → Played
closed r more (Ok _) = prefixed r.slot.count.0 (more r.state)
closed r more (Err e) = played (Ended (ending e)) (r.slot.count.0 ∷ []) r.state

-- The rules of slots, for any way to serve a slot and any bound: a slot that exists, with the numbers left.
abbrev pub served_by : (ℕ → State → ℕ → Ran) → (State → ℕ → ℕ) → ℕ → State → (State → List ℕ → Played) → List ℕ → Played
served_by way top i s more [] = played (Open (top s i)) [] s
served_by way top i s more (n ∷ ns) =
    let r = way i s n in
    closed r (λ s'. more s' ns) r.slot.end

-- the slots of these threads in turn; a slot exists only if its thread is created by then
unfoldable pub rounds_by : (ℕ → State → ℕ → Ran) → (State → ℕ → ℕ) → List ℕ → State → List ℕ → Played
rounds_by way top [] s ns = played (Ended Full) [] s
rounds_by way top (i ∷ rest) s ns = cond (created s i) (served_by way top i s (rounds_by way top rest) ns) (rounds_by way top rest s ns)

-- the same in the thread machine
abbrev pub served : Meaning → Program → ℕ → State → (State → List ℕ → Played) → List ℕ → Played
served k p = served_by (serve k p) (bound p)

abbrev pub rounds : Meaning → Program → List ℕ → State → List ℕ → Played
rounds k p = rounds_by (serve k p) (bound p)

-- the thread machine's run of a program over so many rounds
abbrev pub play : Meaning → Program → ℕ → List ℕ → Played
play k p rounds_given ns = rounds k p (program_slots p (slot_total p rounds_given)) (beginning k p) ns

-- the program's own cells
abbrev pub cells_of : Program → State → List ℕ
cells_of p s = take (length p.cells) s.cells
