use Rattle.std.proofs.Common.{◌≡◌, ℕ, ◌*◌, ◌≤◌, length}
use Rattle.std.specs.List.{AllByRecursion}
use Rattle.tables.specs.Program.{Program}
use Rattle.sequences.proofs.Ways.{Found}
use Rattle.sequences.proofs.labels.Layout.new.Given as goal

abbrev pub invariant-loop-l : goal.invariant-loop-l
invariant-loop-l l =
    ((p : Program) (i : ℕ) → Found p i l.text l.l l.behind l.at)
    × (l.behind ≤ 5 * l.l)
    × (length l.at ≡ 256)
    × AllByRecursion (λ a. a ≤ 1275) l.at
