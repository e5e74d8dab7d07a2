-- What a run over a list of numbers answers, and what it writes.
use Rattle.std.specs.Prelude.{ℕ, ◌+◌, cond, ◌&&◌, List, ◌++◌, length, drop, Some, None, Ok, Err, sum, Option, Result, nat_le}
use Rattle.records.specs.declared.refusal.Refusal.{Refusal}
use Rattle.records.specs.declared.refusal.Refusal.TheVariants.{ListLength, BufferShort}
use Rattle.walks.specs.declared.outcome.Outcome.{Outcome}
use Rattle.reports.specs.declared.report.Report.{Report}
use Rattle.reports.specs.declared.report.Turn.{Turn}

-- a slot count for each number that was read, and all statements carried out
abbrev pub report : Outcome → List ℕ → Report
report o counts = record { outcome = o; read = length counts; carried = sum counts }

-- a report of one number more
abbrev pub noted : Report → Turn → Report
noted r t = record { outcome = t.outcome; read = r.read + 1; carried = r.carried + t.count.0 }

-- a buffer with numbers at its front; those past them stay
abbrev pub front : List ℕ → List ℕ → List ℕ
front xs out = xs ++ drop (length xs) out

-- the first no: at most 64 numbers, and room for a slot count of each and for the program's own cells
abbrev pub refusal : (numbers counts cells : List ℕ) (own : ℕ) → Option Refusal
refusal ns counts cells own =
    cond (nat_le (length ns) 64) (cond (nat_le (length ns) (length counts) && nat_le own (length cells)) None (Some BufferShort)) (Some ListLength)

abbrev pub answered : {X : Type 0} → Option Refusal → X → Result X Refusal
answered None x = Ok x
answered (Some e) x = Err e

-- what a call leaves, and what was there, which a refusal leaves as it was
abbrev pub unless : {X : Type 0} → Option Refusal → X → X → X
unless None new old = new
unless (Some e) new old = old
