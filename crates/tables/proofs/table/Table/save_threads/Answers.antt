use Rattle.std.proofs.Common.{◌+◌, length, get_or, ap₂, ◌∙◌, arith}
use Rattle.tables.specs.Encoded.{own_thread_bytes, thread_bytes}
use Rattle.tables.specs.Program.{no_text}
use Rattle.records.specs.Wrote.{wrote}
use Rattle.tables.proofs.Saves.{threads_more, threads_all}
use Rattle.records.proofs.Writes.{room, advance, done}
use Rattle.tables.proofs.table.Table.save_threads.Goals as goal

pub save_text-at-requires : goal.save_text-at-requires
save_text-at-requires c =
    let v = ap₂ (λ ts ss. length (thread_bytes 0 ts ss)) c.as_slice-t-items.ensures.value c.as_slice-left.ensures.value in
    let ts = c.as_slice-t-items.result.now in
    let i = c.loop-i.i in
    let own = c.part.result.0.now in
    let rest = c.part.result.1.now in
    let p = threads_more ts c.loop-i.left.now own rest i no_text (omega arith) c.part.ensures.own c.part.ensures.rest in
    room c.loop-i.out c.loop-i.out c.loop-i.at 0 (own_thread_bytes i (get_or ts i no_text) own) (thread_bytes (i + 1) ts rest) _ c.loop-i.out _ p c.loop-i.invariant.1 (omega (arith, c.requires, c.loop-i.auto.out))

pub loop-i-preserved : goal.loop-i-preserved
loop-i-preserved c =
    let v = ap₂ (λ ts ss. length (thread_bytes 0 ts ss)) c.as_slice-t-items.ensures.value c.as_slice-left.ensures.value in
    let ts = c.as_slice-t-items.result.now in
    let i = c.loop-i.i in
    let own = c.part.result.0.now in
    let rest = c.part.result.1.now in
    let p = threads_more ts c.loop-i.left.now own rest i no_text (omega arith) c.part.ensures.own c.part.ensures.rest in
    advance c.loop-i.out c.save_text-at.new.out c.loop-i.at c.save_text-at.result (own_thread_bytes i (get_or ts i no_text) own) (thread_bytes (i + 1) ts rest) _ _ _ p c.loop-i.invariant.1 (omega (arith, c.requires, c.loop-i.auto.out)) c.save_text-at.ensures.after c.save_text-at.ensures.next c.loop-i.invariant.0

pub returns : goal.returns
returns c =
    let t = c.as_slice-t-items.ensures.value in
    let l = c.as_slice-left.ensures.value in
    let e = done c.loop-i.out c.loop-i.at _ _ _ (threads_all c.as_slice-t-items.result.now c.loop-i.left.now c.loop-i.i (omega arith)) c.loop-i.invariant.1 c.loop-i.invariant.0 in
    record {
      after = e.0 ∙ ap₂ (λ ts ss. wrote c.args.out.now c.args.start (thread_bytes 0 ts ss)) t l;
      next = e.1 ∙ ap₂ (λ ts ss. c.args.start + length (thread_bytes 0 ts ss)) t l;
    }
