use Rattle.std.proofs.Common.{◌≡◌, ℕ, Err, Result, sym, refl, ap, ◌∙◌, rules}
use Rattle.records.specs.declared.refusal.Refusal.{Refusal}
use Rattle.records.specs.Wrote.{counted, filled}
use Rattle.tables.specs.Program.{decoded}
use Rattle.tables.specs.Tables.{view, loaded}
use Rattle.sections.specs.Emitted.{emitted, emitted_of}
use Rattle.sequences.specs.Sequences.{guide_of, sections_of}
use Rattle.takeaways.specs.Replies.{answered, left_in}
use Rattle.takeaways.proofs.Replying.{load_refused, rounds_refused, carried_whole}
use Rattle.takeaways.proofs.reply.carry.Goals as goal

pub returns-in-Err : goal.returns-in-Err
returns-in-Err g c =
    let out = c.args.out.now in
    let w = load_refused g.V.Kind.meaning c.args.k c.args.file.now c.in-Err.e c.in-Err.ensures.answer in
    record { answer = ap (answered out) w; after = ap (left_in out) w }

pub returns-in_err-ask_rounds : goal.returns-in_err-ask_rounds
returns-in_err-ask_rounds g c =
    let out = c.args.out.now in
    let e = c.in_err-ask_rounds.field-0.0 in
    let x : ◌≡◌ {A = Result ℕ Refusal} c.from_residual.result (Err e) = search rules in
    let w = rounds_refused g.V.Kind.meaning c.args.k c.args.file.now e c.in_default.ensures.answer c.in_err-ask_rounds.ensures.answer in
    record { answer = x ∙ ap (answered out) w; after = ap (left_in out) w }

pub returns : goal.returns
returns g c =
    let k = g.V.Kind.meaning in
    let f = c.args.file.now in
    let r = c.args.k in
    let out = c.args.out.now in
    let q = c.in_default.ensures.answer in
    let t = c.load.new.self in
    let s = c.translate.new.self in
    let there : view t ≡ decoded f = c.load.ensures.after ∙ ap (λ a. loaded a (decoded f) (view c.args.table.now)) (sym q) in
    let holds = c.translate.ensures.holds (c.translate.ensures.well (c.load.ensures.well (sym q))) (c.in_ok-ask_rounds.ensures.few refl) in
    let full : emitted_of k.byte (view t) r (guide_of s) (sections_of s) ≡ emitted k.byte (decoded f) r = c.emit.ensures.translated holds ∙ ap (λ p. emitted k.byte p r) there in
    let w = carried_whole k r f q c.in_ok-ask_rounds.ensures.answer in
    record { answer = c.emit.ensures.answer ∙ ap (counted out) full ∙ ap (answered out) w; after = c.emit.ensures.after ∙ ap (filled out) full ∙ ap (left_in out) w }
