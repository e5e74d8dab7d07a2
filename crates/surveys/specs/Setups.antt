-- A machine on the program of a file.
use Rattle.std.specs.Prelude.{◌≡◌, ℕ, List, Ok, Err, Result}
use Rattle.kinds.specs.declared.kind.Kind.{Ghosts}
use Rattle.kinds.specs.Meaning.{Meaning}
use Rattle.questions.specs.Answer.{accepted}
use Rattle.questions.specs.Question.{question}
use Rattle.tables.specs.Program.{decoded}
use Rattle.threads.specs.declared.machine.Machine.{Machine}
use Rattle.threads.specs.Machines.{program, rounds_asked}
use Rattle.threads.specs.Points.{Ready}
use Rattle.hosts.specs.declared.problem.Problem.{Problem}
use Rattle.hosts.specs.declared.problem.Problem.TheVariants.{Memory, File, Call}

-- a machine on the program of a file, with so many rounds, or the first no of Load and then of the rounds
abbrev pub Made : {V : Type 0} {G : Ghosts V} → Meaning → List ℕ → ℕ → Result (Machine V G) Problem → Type 0
Made k f rounds (Ok m) = (question k f ≡ accepted) × (rounds_asked rounds ≡ Ok tt) × (program m ≡ decoded f) × (m.rounds ≡ rounds) × Ready k m
Made k f rounds (Err Memory) = Unit {0}
Made k f rounds (Err (File e)) = question k f ≡ Err e
Made k f rounds (Err (Call e)) = (question k f ≡ accepted) × (rounds_asked rounds ≡ Err e)
