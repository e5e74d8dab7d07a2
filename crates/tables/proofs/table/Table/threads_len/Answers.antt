use Rattle.std.proofs.Common.{◌+◌, length, get_or, ap, arith, length-append, length-take, length-drop}
use Rattle.tables.specs.Encoded.{own_thread_bytes, thread_bytes}
use Rattle.tables.specs.Program.{no_text}
use Rattle.tables.proofs.Saves.{threads_more, length_text}
use Rattle.tables.proofs.table.Table.threads_len.Goals as goal

pub loop-t-preserved : goal.loop-t-preserved
loop-t-preserved c =
    let ts = c.as_slice-t-items.result.now in
    let i = c.loop-t.t-index in
    let left = c.loop-t.left.now in
    let own = c.part.result.0.now in
    let rest = c.part.result.1.now in
    let p = threads_more ts left own rest i no_text (omega arith) c.part.ensures.own c.part.ensures.rest in
    let t = get_or ts i no_text in
    let l = length_text i t own in
    let m = length-append (own_thread_bytes i t own) (thread_bytes (i + 1) ts rest) in
    let a = ap length c.part.ensures.own in
    let b = ap length c.part.ensures.rest in
    (omega (arith, ap length p, c.loop-t.invariant.0), omega (arith, length-take t.size left, length-drop t.size left, c.loop-t.invariant.1))
