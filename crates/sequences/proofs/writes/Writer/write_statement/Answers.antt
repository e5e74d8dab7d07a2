use Rattle.std.proofs.Common.{◌+◌, ◌<◌, [], ◌∷◌, ◌++◌, take, sym, ap, ◌∙◌, subst, arith}
use Rattle.records.specs.declared.statement.Statement.{Statement}
use Rattle.tables.specs.Tables.{view}
use Rattle.sequences.specs.declared.instruction.Instruction.TheVariants as op
use Rattle.sequences.specs.declared.instruction.Word.{Word}
use Rattle.sequences.specs.Code.{word, address_in, inner}
use Rattle.sequences.specs.Writes.{Low}
use Rattle.sequences.proofs.Writings.{word_low}
use Rattle.sequences.proofs.writes.Writer.write_statement.Goals as goal

pub returns-in-Lock : goal.returns-in-Lock
returns-in-Lock c = λ low.
    let old = c.args.code.now in
    let p = view c.args.self.now.table.now in
    let i = c.args.self.now.i.0 in
    let m : c.in-Lock.m.0 < 240 = subst Low c.in-Lock.is low in
    c.extend_from_slice.ensures
    ∙ ap (λ (w : Word). take 1936 (old ++ op.MustNot w 1 ∷ op.Need w 0 ∷ op.Put w (2 + i) ∷ [])) (word_low c.lock-w.result _ c.lock-w.ensures (omega arith))
    ∙ sym (ap (λ (x : Statement). take 1936 (old ++ inner p i (address_in p i) x)) c.in-Lock.is)

pub returns-in-Unlock : goal.returns-in-Unlock
returns-in-Unlock c = λ low.
    let old = c.args.code.now in
    let p = view c.args.self.now.table.now in
    let i = c.args.self.now.i.0 in
    let m : c.in-Unlock.m.0 < 240 = subst Low c.in-Unlock.is low in
    c.extend_from_slice-in-Unlock.ensures
    ∙ ap (λ (w : Word). take 1936 (old ++ op.Must w (2 + i) ∷ op.Put w 0 ∷ [])) (word_low c.lock-w-in-Unlock.result _ c.lock-w-in-Unlock.ensures (omega arith))
    ∙ sym (ap (λ (x : Statement). take 1936 (old ++ inner p i (address_in p i) x)) c.in-Unlock.is)

pub returns-in-Create : goal.returns-in-Create
returns-in-Create c = λ low.
    let old = c.args.code.now in
    let p = view c.args.self.now.table.now in
    let i = c.args.self.now.i.0 in
    c.push-in-Create.ensures.value
    ∙ ap (λ n. take 1936 (old ++ op.Put (word n) 1 ∷ [])) c.active.ensures
    ∙ sym (ap (λ (x : Statement). take 1936 (old ++ inner p i (address_in p i) x)) c.in-Create.is)

pub returns-in-Join : goal.returns-in-Join
returns-in-Join c = λ low.
    let old = c.args.code.now in
    let p = view c.args.self.now.table.now in
    let i = c.args.self.now.i.0 in
    let j : c.in-Join.j.0 < 240 = subst Low c.in-Join.is low in
    c.push-in-Join.ensures.value
    ∙ ap (λ (w : Word). take 1936 (old ++ op.Need w c.size.result ∷ [])) (word_low c.saved.result _ c.saved.ensures (omega arith))
    ∙ ap (λ n. take 1936 (old ++ op.Need (word (8 + c.in-Join.j.0)) n ∷ [])) c.size.ensures
    ∙ sym (ap (λ (x : Statement). take 1936 (old ++ inner p i (address_in p i) x)) c.in-Join.is)
