-- The answer to the questions on a file: accepted, or the first no with its record and byte.
use Rattle.std.specs.Prelude.{ℕ, Ok, Err, Result}
use Rattle.records.specs.declared.refusal.LoadError.{LoadError}
use Rattle.records.specs.declared.refusal.Refusal.{Refusal}

abbrev pub Answer : Type 0
Answer = Result (Unit {0}) LoadError

abbrev pub accepted : Answer
accepted = Ok tt

abbrev pub refused : Refusal → ℕ → ℕ → Answer
refused why i byte = Err (record { refusal = why; «record» = i; byte = byte })
