-- The numbers of problems.
use Rattle.std.specs.Prelude.{ℕ}
use Rattle.records.specs.Numbers.{number}
use Rattle.hosts.specs.declared.problem.Problem.{Problem}
use Rattle.hosts.specs.declared.problem.Problem.TheVariants.{Memory, File, Call}

-- 99 is no refusal's
abbrev pub problem_number : Problem → ℕ
problem_number Memory = 99
problem_number (File e) = number e.refusal
problem_number (Call e) = number e
