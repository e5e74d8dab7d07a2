-- What a statement comes to in a state.
use Rattle.std.specs.Prelude.{ℕ, Bool, cond, ◌&&◌, Some, None, Option, ◌==◌, nat_lt}
use Rattle.kinds.specs.Meaning.{Meaning}
use Rattle.records.specs.declared.statement.Mutex.{Mutex}
use Rattle.records.specs.declared.statement.Statement.{Statement}
use Rattle.records.specs.declared.statement.Statement.TheVariants as op
use Rattle.records.specs.declared.statement.Thread.{Thread}
use Rattle.tables.specs.Program.{Program, size, due}
use Rattle.threads.specs.declared.effect.Effect.{Effect}
use Rattle.threads.specs.declared.effect.Effect.TheVariants.{Fail, Block, Pass, GoTo, Write, Mark, Create}
use Rattle.states.specs.declared.state.MutexState.{MutexState}
use Rattle.states.specs.declared.state.MutexState.TheVariants.{Free, Destroyed, Held}
use Rattle.states.specs.declared.state.State.{State}
use Rattle.states.specs.States.{label, value, mutex}

-- a thread has ended: its label is the number of its statements
abbrev pub ended : Program → State → ℕ → Bool
ended p s j = nat_lt j 8 && label s j == size p j

-- thread i takes a mutex
abbrev pub taken : MutexState → Thread → Mutex → Effect
taken Free i m = Mark m (Held i)
taken Destroyed i m = Fail
taken (Held j) i m = Block

abbrev pub locking : State → Thread → Mutex → Effect
locking s i m = taken (mutex s m.0) i m

-- thread i frees a mutex
abbrev pub freed : MutexState → Thread → Mutex → Effect
freed Free i m = Fail
freed Destroyed i m = Fail
freed (Held j) i m = cond (j.0 == i.0) (Mark m Free) Fail

abbrev pub unlocking : State → Thread → Mutex → Effect
unlocking s i m = freed (mutex s m.0) i m

-- what thread i's statement comes to
abbrev pub effect : Meaning → Program → Thread → State → Statement → Effect
effect k p i s (op.Set d c) = Write d c
effect k p i s (op.Copy d a) = Write d (value k s i.0 a)
effect k p i s (op.Sum d a b) = Write d (k.sum (value k s i.0 a) (value k s i.0 b))
effect k p i s (op.Difference d a b) = Write d (k.difference (value k s i.0 a) (value k s i.0 b))
effect k p i s (op.Less d a b) = Write d (k.less (value k s i.0 a) (value k s i.0 b))
effect k p i s (op.Same d a b) = Write d (k.same (value k s i.0 a) (value k s i.0 b))
effect k p i s (op.Jump t) = GoTo t
effect k p i s (op.Branch a t) = cond (k.holds (value k s i.0 a)) Pass (GoTo t)
effect k p i s (op.Assume a) = cond (k.holds (value k s i.0 a)) Pass Block
effect k p i s (op.Assert a) = cond (k.holds (value k s i.0 a)) Pass Fail
effect k p i s (op.Init m) = Mark m Free
effect k p i s (op.Destroy m) = Mark m Destroyed
effect k p i s (op.Lock m) = locking s i m
effect k p i s (op.Unlock m) = unlocking s i m
effect k p i s (op.Create j) = Create j
effect k p i s (op.Join j) = cond (ended p s j.0) Pass Block

-- a thread that has no statement left has ended too early: that stops it as a statement that blocks does
abbrev pub effect_of : Meaning → Program → Thread → State → Option Statement → Effect
effect_of k p i s None = Block
effect_of k p i s (Some x) = effect k p i s x

-- what the statement that is due comes to
abbrev pub next : Meaning → Program → Thread → State → Effect
next k p i s = effect_of k p i s (due p i.0 (label s i.0))
