-- The layer between the two machines: the thread machine's slots, but a number says how far beyond its label the thread goes.
use Rattle.std.specs.Prelude.{ℕ, zero, suc, ◌+◌, cond, List, ◌==◌, nat_lt, Ok, Err}
use Rattle.kinds.specs.Meaning.{Meaning}
use Rattle.records.specs.declared.statement.Thread.{Thread}
use Rattle.states.specs.declared.state.State.{State}
use Rattle.states.specs.States.{label, beginning}
use Rattle.tables.specs.Program.{Program}
use Rattle.tables.specs.Slots.{slot_total, program_slots}
use Rattle.reports.specs.declared.stop.Stop.TheVariants as end
use Rattle.threads.specs.Effects.{next}
use Rattle.threads.specs.Plays.{Played, bound, rounds_by, thread}
use Rattle.threads.specs.Slots.{Ran, ran, slot_of, stops, unless_stopped}
use Rattle.threads.specs.Steps.{progress, after}

-- the thread stands at the label l: at the label cs its slot is over, past it the run is cut
abbrev pub arrived : (cs l d : ℕ) → State → Ran
arrived cs l d s = cond (l == cs) (ran (slot_of (Ok tt) d) s) (ran (slot_of (Err end.Cut) d) s)

-- thread i runs while its label is below cs, for at most n more statements, after d in this slot
unfoldable pub until : Meaning → Program → Thread → (cs n d : ℕ) → State → Ran
until k p i cs zero d s = arrived cs (label s i.0) d s
until k p i cs (suc n) d s =
    let e = next k p i s in
    let s' = after i e s in
    cond (nat_lt (label s i.0) cs) (unless_stopped s' (until k p i cs n (d + 1) s') (stops (progress e) d)) (arrived cs (label s i.0) d s)

-- thread i's slot with the number g; one above the bound cuts the run before the slot begins
abbrev pub pace : Meaning → Program → ℕ → State → ℕ → Ran
pace k p i s g = cond (nat_lt (bound p s i) g) (ran (slot_of (Err end.Cut) 0) s) (until k p (thread i) (label s i + g) g 0 s)

abbrev pub paces : Meaning → Program → List ℕ → State → List ℕ → Played
paces k p = rounds_by (pace k p) (bound p)

-- the run of a program over so many rounds
abbrev pub paced : Meaning → Program → ℕ → List ℕ → Played
paced k p rounds ns = paces k p (program_slots p (slot_total p rounds)) (beginning k p) ns
