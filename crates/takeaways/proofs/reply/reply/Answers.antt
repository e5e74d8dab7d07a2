use Rattle.std.proofs.Common.{◌≡◌, ◌+◌, get_or, drop, is_ok, ap, ◌∙◌, arith}
use Rattle.std.proofs.lemmas.List.{get_or-drop}
use Rattle.hosts.specs.Knowns.{kind_of}
use Rattle.records.specs.Lines.{Bytes}
use Rattle.records.specs.Numbers.{number}
use Rattle.records.specs.Wrote.{counted, filled}
use Rattle.sections.specs.Digits.{two_digits}
use Rattle.takeaways.specs.Replies.{taken, answered, left_in}
use Rattle.takeaways.proofs.Replying.{carried_few, wrote_none, said_whole, counted_within, counted_some, taken_by}
use Rattle.takeaways.proofs.reply.reply.Goals as goal

pub returns-in-Err : goal.returns-in-Err
returns-in-Err c =
    let input = c.args.input.now in
    let out = c.args.out.now in
    let t = taken input in
    let e = taken_by input c.split-k.result.1.now c.split-k.result.0 c.split-k.ensures.rounds c.split-k.ensures.file in
    let w = wrote_none out c.carry_by_kind.new.out t c.in-Err.refusal (c.in-Err.ensures.answer ∙ ap (answered out) e) (c.carry_by_kind.ensures.after ∙ ap (left_in out) e) in
    let n : c.from.result ≡ number c.in-Err.refusal = c.from.ensures ∙ c.number.ensures in
    let d = two_digits c.from.result in
    let s = ap two_digits n ∙ w.1 in
    let bytes : Bytes (drop 1 input) = λ j. omega (arith, c.type_inv.input (1 + j), get_or-drop 1 input j 0) in
    let a = c.digits.ensures.answer ∙ ap (λ o. counted o d) w.0 in
    record {
      answer = a ∙ ap (counted out) s;
      after = c.digits.ensures.after ∙ ap (λ o. filled o d) w.0 ∙ ap (filled out) s;
      whole = said_whole out out t (carried_few (kind_of (drop 1 input)) (get_or input 0 0) (drop 1 input) bytes);
      within = counted_within out d c.digits.result a;
      some = λ h. ap is_ok a ∙ counted_some out d h;
    }
