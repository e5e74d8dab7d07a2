use Rattle.std.proofs.Common.{◌≡◌, ◌++◌, take, drop}
use Rattle.std.specs.List.{AllByRecursion}
use Rattle.tables.specs.Program.{own}
use Rattle.tables.specs.Tables.{view}
use Rattle.sequences.specs.Code.{guarded, behind, address_in}
use Rattle.sequences.specs.Writes.{Low}
use Rattle.sequences.proofs.writes.write_section.Given as goal

-- what is written, with what is left, comes to the whole
abbrev pub invariant-loop-l : goal.invariant-loop-l
invariant-loop-l l =
    let p = view l.table in
    let i = l.fn.i.0 in
    let rest = behind p i (guarded (own p i)) (address_in p i) in
    AllByRecursion Low (own p i) → take 1936 (l.code ++ rest (drop l.l (own p i)) l.l) ≡ take 1936 (l.fn.code ++ rest (own p i) 0)
