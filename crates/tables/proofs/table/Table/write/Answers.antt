use Rattle.std.proofs.Common.{◌++◌, length, ap, arith, length-append}
use Rattle.tables.specs.Encoded.{header_row, cell_bytes, thread_bytes}
use Rattle.tables.specs.Tables.{view}
use Rattle.tables.proofs.Saves.{encoded_parts, all_written}
use Rattle.tables.proofs.table.Table.write.Goals as goal

pub save_cells-next-requires : goal.save_cells-next-requires
save_cells-next-requires g c =
    let k = g.V.Kind.meaning.byte in
    let p = view c.args.self.now in
    let cs = cell_bytes 0 p.cells in
    let ts = thread_bytes 0 p.texts p.statements in
    omega (arith, ap length (encoded_parts k p), length-append (header_row k p) (cs ++ ts), length-append cs ts, c.requires, c.put-at.ensures.next, c.put-at.auto.out)

pub save_threads-end-requires : goal.save_threads-end-requires
save_threads-end-requires g c =
    let k = g.V.Kind.meaning.byte in
    let p = view c.args.self.now in
    let cs = cell_bytes 0 p.cells in
    let ts = thread_bytes 0 p.texts p.statements in
    omega (arith, ap length (encoded_parts k p), length-append (header_row k p) (cs ++ ts), length-append cs ts, c.requires, c.put-at.ensures.next, c.save_cells-next.ensures.next, c.put-at.auto.out, c.save_cells-next.auto.out)

pub returns : goal.returns
returns g c =
    all_written g.V.Kind.meaning.byte (view c.args.self.now) c.args.out.now c.put-at.new.out c.save_cells-next.new.out c.save_threads-end.new.out c.put-at.result c.save_cells-next.result c.header.result c.requires c.header.ensures c.put-at.ensures.after c.put-at.ensures.next c.save_cells-next.ensures.after c.save_cells-next.ensures.next c.save_threads-end.ensures.after
