use Rattle.std.proofs.Common.{refl, arith}
use Rattle.records.proofs.Writes.{put_is}
use Rattle.records.proofs.row.put.Goals as goal

pub returns : goal.returns
returns c =
    record { after = put_is c.args.out.now c.args.at c.args.r c.copy_from_slice.new.self (omega arith) c.copy_from_slice.ensures.after; next = refl }
