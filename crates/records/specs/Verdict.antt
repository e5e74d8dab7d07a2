-- The answer to the questions on one record: yes to all, or the first no and the byte that it is about.
use Rattle.std.specs.Prelude.{ℕ, Bool, cond, Ok, Err, Result}
use Rattle.records.specs.declared.refusal.LoadError.{LoadError}
use Rattle.records.specs.declared.refusal.Refusal.{Refusal}
use Rattle.records.specs.declared.refusal.RecordError.{RecordError}

abbrev pub Verdict : Type 0
Verdict = Result (Unit {0}) RecordError

abbrev pub fine : Verdict
fine = Ok tt

abbrev pub bad : Refusal → ℕ → Verdict
bad why byte = Err (record { refusal = why; byte = byte })

-- a question, and what follows a yes
abbrev pub asked : Bool → Refusal → ℕ → Verdict → Verdict
asked good why byte rest = cond good rest (bad why byte)

-- the questions of one part, and then those of another
abbrev pub then : Verdict → Verdict → Verdict
then (Ok u) v = v
then (Err e) v = Err e

-- a refusal in the record i of a file
abbrev pub located : RecordError → ℕ → LoadError
located e i = record { refusal = e.refusal; «record» = i; byte = e.byte }
