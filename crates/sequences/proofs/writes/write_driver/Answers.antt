use Rattle.std.proofs.Common.{◌<◌, ◌≤◌, ◌++◌, length, take, sym, ap, ◌∙◌, arith}
use Rattle.tables.specs.Tables.{view}
use Rattle.tables.specs.Slots.{slot_total}
use Rattle.sequences.proofs.Drivers.{driver_few}
use Rattle.sequences.proofs.Writings.{driver_more, driver_ends}
use Rattle.sequences.proofs.writes.write_driver.Goals as goal

pub loop-q-preserved : goal.loop-q-preserved
loop-q-preserved c =
    let p = view c.args.table.now in
    let n = slot_total p c.args.rounds in
    let l : c.loop-q.q < n = omega (arith, c.slots-q-end.ensures.value) in
    driver_more p (length p.texts) n 257 c.loop-q.q c.thread_at.result.0 c.loop-q.driver c.write_slot.new.driver l c.thread_at.ensures c.write_slot.ensures
    ∙ c.loop-q.invariant

pub returns : goal.returns
returns c =
    let p = view c.args.table.now in
    let n = slot_total p c.args.rounds in
    let l : n ≤ c.loop-q.q = omega (arith, c.slots-q-end.ensures.value) in
    record {
      value =
          c.push.ensures.value
          ∙ ap (λ xs. take 257 (c.loop-q.driver ++ xs)) (sym (driver_ends p (length p.texts) n c.loop-q.q l))
          ∙ c.loop-q.invariant;
      fits = λ few. driver_few p c.args.rounds (omega (arith, c.slots-q-end.ensures.value, c.slots-q-end.ensures.few));
    }
