-- The words of the sequential program, by their numbers.
use Rattle.std.specs.Prelude.{ℕ, ◌+◌}

-- whether thread i is active: 1 or 0
abbrev pub active : ℕ → ℕ
active i = i

-- the label at which thread i stopped
abbrev pub saved : ℕ → ℕ
saved i = 8 + i

-- mutex m: 0 free, 1 destroyed, 2 + i held by thread i
abbrev pub lock : ℕ → ℕ
lock m = 16 + m

-- the label at which the thread that runs now is to stop
abbrev pub stop_at : ℕ
stop_at = 24
