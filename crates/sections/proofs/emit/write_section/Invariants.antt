use Rattle.std.proofs.Common.{◌≡◌, ◌+◌, ◌*◌, drop}
use Rattle.records.specs.Wrote.{wrote}
use Rattle.sections.specs.Rows.{code_bytes}
use Rattle.sections.proofs.emit.write_section.Given as goal

abbrev pub invariant-loop-x : goal.invariant-loop-x
invariant-loop-x l =
    (l.owed.at ≡ l.at)
    × (l.owed.count ≡ l.x-index)
    × (wrote l.out (l.at + 10 + 10 * l.x-index) (code_bytes (drop l.x-index l.code)) ≡ wrote l.initial.out (l.at + 10) (code_bytes l.code))
