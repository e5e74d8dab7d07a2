-- What an instruction of a section does, and the run of a section.
use Rattle.std.specs.Prelude.{ℕ, zero, suc, ◌+◌, Bool, true, false, cond, ◌&&◌, ◌||◌, List, [], ◌∷◌, length, drop, ◌==◌, nat_le, nat_lt, Ok, Err}
use Rattle.kinds.specs.Meaning.{Meaning}
use Rattle.records.specs.declared.statement.Label.{Label}
use Rattle.records.specs.declared.statement.Thread.{Thread}
use Rattle.reports.specs.declared.stop.Stop.TheVariants as stop
use Rattle.reports.specs.Stops.{End}
use Rattle.sequences.specs.declared.act.Act.{Act}
use Rattle.sequences.specs.declared.act.Act.TheVariants.{On, Write, Mark, To, Back, Fail, Stop}
use Rattle.sequences.specs.declared.instruction.Address.{Address}
use Rattle.sequences.specs.declared.instruction.Instruction.{Instruction}
use Rattle.sequences.specs.declared.instruction.Instruction.TheVariants as op
use Rattle.sequences.specs.declared.state.SeqState.{SeqState}
use Rattle.sequences.specs.States.{word, with_word, value, put}
use Rattle.sequences.specs.Words.{saved, stop_at}

-- A NEED of a saved label is a whole JOIN; one of a mutex is a part of a LOCK.
abbrev pub whole : ℕ → Bool
whole w = nat_le 8 w && nat_lt w 16

-- a HOP passes over a label that thread j has left behind or that it is not to reach now
abbrev pub hopping : SeqState → Thread → Label → Address → Act
hopping q j t to = cond (nat_lt t.0 (word q (saved j.0)) || nat_le (word q stop_at) t.0) (To false to) (On false)

-- what an instruction in thread i's section comes to
abbrev pub act : Meaning → ℕ → SeqState → Instruction → Act
act k i q (op.Set d c) = Write d c
act k i q (op.Copy d a) = Write d (value k q i a)
act k i q (op.Sum d a b) = Write d (k.sum (value k q i a) (value k q i b))
act k i q (op.Difference d a b) = Write d (k.difference (value k q i a) (value k q i b))
act k i q (op.Less d a b) = Write d (k.less (value k q i a) (value k q i b))
act k i q (op.Same d a b) = Write d (k.same (value k q i a) (value k q i b))
act k i q (op.Jump to) = To true to
act k i q (op.Branch a to) = cond (k.holds (value k q i a)) (On true) (To true to)
act k i q (op.Assume a) = cond (k.holds (value k q i a)) (On true) Stop
act k i q (op.Assert a) = cond (k.holds (value k q i a)) (On true) Fail
act k i q (op.Hop j t to) = hopping q j t to
act k i q (op.Guard t) = cond (nat_le t.0 (word q stop_at)) (On false) Stop
act k i q op.Return = Back
act k i q (op.Must w v) = cond (word q w.0 == v) (On false) Fail
act k i q (op.MustNot w v) = cond (word q w.0 == v) Fail (On false)
act k i q (op.Need w v) = cond (word q w.0 == v) (On (whole w.0)) Stop
act k i q (op.Put w v) = Mark w v
act k i q (op.Slot j to) = Stop
act k i q (op.Guess j n) = Stop
act k i q (op.Call j) = Stop
act k i q (op.Save j) = Stop
act k i q op.End = Stop

-- how a section's run ended, the statements carried out in it, and the state that it left
pub record Called : Type 0 where
  pub end : End
  pub count : ℕ
  pub state : SeqState

abbrev pub called : End → ℕ → SeqState → Called
called e d q = record { end = e; count = d; state = q }

-- at the address h, after d statements; `more` is the run from another address
abbrev pub carried : (i h d : ℕ) → SeqState → (ℕ → ℕ → SeqState → Called) → Act → Called
carried i h d q more (On c) = more (h + 1) (cond c (d + 1) d) q
carried i h d q more (Write p c) = more (h + 1) (d + 1) (put q i p c)
carried i h d q more (Mark w v) = more (h + 1) (d + 1) (with_word q w.0 v)
carried i h d q more (To c a) = more a.0 (cond c (d + 1) d) q
carried i h d q more Back = called (Ok tt) d q
carried i h d q more Fail = called (Err stop.Failed) (d + 1) q
carried i h d q more Stop = called (Err stop.Cut) d q

-- the first of the instructions left
abbrev pub fetched : Meaning → (i h d : ℕ) → SeqState → (ℕ → ℕ → SeqState → Called) → List Instruction → Called
fetched k i h d q more [] = called (Err stop.Cut) d q
fetched k i h d q more (x ∷ rest) = carried i h d q more (act k i q x)

-- a section's run from the address h, after d statements, in at most so many steps
unfoldable pub exec : Meaning → ℕ → List Instruction → (steps h d : ℕ) → SeqState → Called
exec k i code zero h d q = called (Err stop.Cut) d q
exec k i code (suc steps) h d q = fetched k i h d q (exec k i code steps) (drop h code)

-- Jumps only go forward, so a section has no more steps than instructions.
abbrev pub call : Meaning → ℕ → List Instruction → SeqState → Called
call k i code q = exec k i code (length code) 0 0 q
