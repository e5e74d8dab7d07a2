use Rattle.std.proofs.Common.{◌+◌, List, [], ◌∷◌, ◌++◌, take, ap, ◌∙◌}
use Rattle.records.specs.declared.statement.Statement.{Statement}
use Rattle.tables.specs.Program.{own}
use Rattle.tables.specs.Tables.{view}
use Rattle.sequences.specs.Code.{inner, guards, guarded, address_in}
use Rattle.sequences.specs.Writes.{hop_code}
use Rattle.records.proofs.Rooms.{room_more}
use Rattle.sequences.proofs.writes.Writer.write_label.Goals as goal

pub returns : goal.returns
returns c =
    let old = c.args.code.now in
    let p = view c.args.self.now.table.now in
    let i = c.args.self.now.i.0 in
    let A = address_in p i in
    let h = hop_code i (own p i) A c.args.l in
    let xs = inner p i A c.args.x in
    let e = c.push.ensures.value ∙ ap (λ y. take 1936 (old ++ y ∷ [])) c.hop.ensures in
    λ low.
    room_more 1936 old _ _ (h ∷ xs) _ (room_more 1936 old _ _ (h ∷ []) xs e (c.write_statement.ensures low)) c.write_guard.ensures
    ∙ ap (λ (xs' : List Statement). take 1936 (old ++ (h ∷ (xs ++ guards (guarded xs' (c.args.l + 1)) (c.args.l + 1))))) c.args.self.now.text
