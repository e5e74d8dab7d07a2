use Rattle.std.proofs.Common.{◌≡◌, ◌-◌, ◌*◌, ◌%◌, ◌++◌, map, length, take}
use Rattle.std.specs.List.{range_with_len}
use Rattle.tables.specs.Tables.{view}
use Rattle.tables.specs.Slots.{slot_total}
use Rattle.sequences.specs.Code.{driver, driver_from}
use Rattle.sequences.proofs.writes.write_driver.Given as goal

-- what is written, with what is left, comes to the whole
abbrev pub invariant-loop-q : goal.invariant-loop-q
invariant-loop-q l =
    let p = view l.table in
    let n = slot_total p l.rounds in
    take 257 (l.driver ++ driver_from p (map (λ q. q % length p.texts) (range_with_len l.q (n - l.q))) (4 * l.q)) ≡ take 257 (l.initial.driver ++ driver p l.rounds)
