-- The run of the driver: from guess to guess, and over a list of guesses.
use Rattle.std.specs.Prelude.{ℕ, zero, suc, ◌+◌, ◌-◌, cond, List, [], ◌∷◌, length, take, drop, Some, None, Option, ◌==◌, nat_lt, Ok, Err}
use Rattle.kinds.specs.Meaning.{Meaning}
use Rattle.reports.specs.Players.{Turned}
use Rattle.tables.specs.Program.{Program}
use Rattle.walks.specs.declared.outcome.Ending.TheVariants as ending
use Rattle.walks.specs.declared.outcome.Outcome.{Outcome}
use Rattle.walks.specs.declared.outcome.Outcome.TheVariants.{Open, Ended}
use Rattle.reports.specs.Stops.{End}
use Rattle.reports.specs.Stops as stops
use Rattle.sequences.specs.declared.instruction.Instruction.{Instruction}
use Rattle.sequences.specs.declared.instruction.Instruction.TheVariants as op
use Rattle.sequences.specs.declared.point.SeqPoint.{SeqPoint}
use Rattle.sequences.specs.declared.state.SeqState.{SeqState}
use Rattle.sequences.specs.Acts.{Called, call}
use Rattle.sequences.specs.Code.{at, section, driver}
use Rattle.sequences.specs.States.{word, with_word, begun}
use Rattle.sequences.specs.Words.{active, saved, stop_at}

-- a program's instructions: the section of each thread, and the driver
pub record Sequence : Type 0 where
  pub sections : ℕ → List Instruction
  pub guide : List Instruction

-- how a run stands: what it has come to, the statements carried out by the latest CALL, and where it is
abbrev pub Moved : Type 0
Moved = Turned SeqPoint

abbrev pub point : ℕ → SeqState → SeqPoint
point h q = record { at = at h; state = q }

abbrev pub moved : ℕ → Outcome → ℕ → SeqState → Moved
moved c o h q = record { count = c; outcome = o; point = point h q }

-- behind a CALL at the address h; `more` is the run from another address
abbrev pub returned : ℕ → (ℕ → ℕ → SeqState → Moved) → Called → End → Moved
returned h more r (Ok tt) = more (h + 1) r.count r.state
returned h more r (Err e) = moved r.count (Ended (stops.ending e)) h r.state

-- an instruction as one of the driver's, or as none
pub data Move : Type 0 where
  slot : ℕ → ℕ → Move
  guess : ℕ → ℕ → Move
  enter : ℕ → Move
  save : ℕ → Move
  finish : Move
  stray : Move

abbrev pub move : Instruction → Move
move (op.Slot i to) = slot i.0 to.0
move (op.Guess i n) = guess i.0 n
move (op.Call i) = enter i.0
move (op.Save i) = save i.0
move op.End = finish
move (op.Set d v) = stray
move (op.Copy d a) = stray
move (op.Sum d a b) = stray
move (op.Difference d a b) = stray
move (op.Less d a b) = stray
move (op.Same d a b) = stray
move (op.Jump to) = stray
move (op.Branch a to) = stray
move (op.Assume a) = stray
move (op.Assert a) = stray
move (op.Hop j t to) = stray
move (op.Guard t) = stray
move op.Return = stray
move (op.Must w v) = stray
move (op.MustNot w v) = stray
move (op.Need w v) = stray
move (op.Put w v) = stray

-- the move that an instruction is, if there is one
abbrev pub move_of : Option Instruction → Move
move_of None = stray
move_of (Some x) = move x

-- the move at an address of the driver
abbrev pub first_move : List Instruction → Move
first_move [] = stray
first_move (x ∷ rest) = move x

-- an instruction of the driver at the address h, c being the latest CALL's count; a GUESS waits for its number
abbrev pub driven : Meaning → (ℕ → List Instruction) → (h c : ℕ) → SeqState → (ℕ → ℕ → SeqState → Moved) → Move → Moved
driven k sections h c q more (slot i to) = cond (word q (active i) == 0) (more to c q) (more (h + 1) c q)
driven k sections h c q more (guess i n) = moved c (Open (n - word q (saved i))) h q
driven k sections h c q more (enter i) = let r = call k i (sections i) q in returned h more r r.end
driven k sections h c q more (save i) = more (h + 1) c (with_word q (saved i) (word q stop_at))
driven k sections h c q more finish = moved c (Ended ending.Full) h q
driven k sections h c q more stray = moved c (Ended ending.Cut) h q

-- the driver's run from the address h to the next GUESS or to its end, in at most so many steps
unfoldable pub proceed : Meaning → Sequence → (steps h c : ℕ) → SeqState → Moved
proceed k s zero h c q = moved c (Ended ending.Cut) h q
proceed k s (suc steps) h c q = driven k s.sections h c q (proceed k s steps) (first_move (drop h s.guide))

-- The driver's addresses rise, so it has no more steps than instructions.
abbrev pub proceeds : Meaning → Sequence → (h : ℕ) → SeqState → Moved
proceeds k s h q = proceed k s (length s.guide) h 0 q

-- the number g read by GUESS i n at the address h: above the bound it cuts, else it says where the thread is to stop
abbrev pub guessed : Meaning → Sequence → (h i n g : ℕ) → SeqState → Moved
guessed k s h i n g q =
    cond (nat_lt (n - word q (saved i)) g) (moved 0 (Ended ending.Cut) h q)
    (proceeds k s (h + 1) (with_word q stop_at (word q (saved i) + g)))

-- a number at a point; where no GUESS waits, the run is cut
abbrev pub asked : Meaning → Sequence → SeqPoint → ℕ → Move → Moved
asked k s p g (guess i n) = guessed k s p.at.0 i n g p.state
asked k s p g (slot i to) = moved 0 (Ended ending.Cut) p.at.0 p.state
asked k s p g (enter i) = moved 0 (Ended ending.Cut) p.at.0 p.state
asked k s p g (save i) = moved 0 (Ended ending.Cut) p.at.0 p.state
asked k s p g finish = moved 0 (Ended ending.Cut) p.at.0 p.state
asked k s p g stray = moved 0 (Ended ending.Cut) p.at.0 p.state

-- one number at a point
abbrev pub turn : Meaning → Sequence → SeqPoint → ℕ → Moved
turn k s p g = asked k s p g (first_move (drop p.at.0 s.guide))

-- what a list of guesses comes to: its outcome, a slot count for each number read, and the state that is left
pub record Driven : Type 0 where
  pub outcome : Outcome
  pub counts : List ℕ
  pub state : SeqState

abbrev pub prefixed : ℕ → Driven → Driven
prefixed c r = record { outcome = r.outcome; counts = c ∷ r.counts; state = r.state }

abbrev pub stays : Outcome → SeqPoint → Driven
stays o p = record { outcome = o; counts = []; state = p.state }

-- a run that has come to an outcome at a point reads the numbers left
unfoldable pub drive_from : Meaning → Sequence → Outcome → SeqPoint → List ℕ → Driven
drive_from k s o p [] = stays o p
drive_from k s (Open b) p (n ∷ ns) = let t = turn k s p n in prefixed t.count (drive_from k s t.outcome t.point ns)
drive_from k s (Ended e) p (n ∷ ns) = stays (Ended e) p

-- from the initial codes of the cells to the first GUESS, and over a list of guesses
abbrev pub started_on : Meaning → Sequence → List ℕ → Moved
started_on k s codes = proceeds k s 0 (begun k codes)

abbrev pub drive_on : Meaning → Sequence → List ℕ → List ℕ → Driven
drive_on k s codes ns =
    let t = started_on k s codes in
    drive_from k s t.outcome t.point ns

-- the program's own cells
abbrev pub own_cells : List ℕ → SeqState → List ℕ
own_cells codes q = take (length codes) q.cells

-- the sequential program of a table, and its run over a list of guesses
abbrev pub sequence : Program → ℕ → Sequence
sequence p rounds = record { sections = section p; guide = driver p rounds }

abbrev pub started : Meaning → Program → ℕ → Moved
started k p rounds = started_on k (sequence p rounds) p.cells

abbrev pub drive : Meaning → Program → ℕ → List ℕ → Driven
drive k p rounds ns = drive_on k (sequence p rounds) p.cells ns

abbrev pub cells_of : Program → SeqState → List ℕ
cells_of p q = own_cells p.cells q
