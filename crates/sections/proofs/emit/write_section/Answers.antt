use Rattle.std.proofs.Common.{◌≡◌, ◌+◌, ◌*◌, length, drop, sym, ap, ◌∙◌, arith}
use Rattle.records.specs.Wrote.{wrote}
use Rattle.sections.specs.Rows.{code_bytes}
use Rattle.sections.proofs.Sections.{one_more, ended}
use Rattle.sections.proofs.emit.write_section.Goals as goal

pub loop-x-preserved : goal.loop-x-preserved
loop-x-preserved c =
    one_more c.loop-x.owed c.add.new.self c.loop-x.out c.add.new.out c.args.at c.loop-x.x-index c.args.code.now _ _ c.loop-x.invariant.0 c.loop-x.invariant.1 c.loop-x-test.true (omega arith) (omega arith) c.add.ensures.token c.add.ensures.after c.loop-x.invariant.2

pub returns-clause-after : goal.returns-clause-after
returns-clause-after c =
    let xs = c.args.code.now in
    let at = c.args.at in
    let o = c.loop-x.out in
    let n : c.loop-x.x-index ≡ length xs = omega arith in
    let l : length o ≡ length c.args.out.now = omega arith in
    let all = ap (λ i. wrote o (at + 10 + 10 * i) (code_bytes (drop i xs))) n in
    ended c.loop-x.owed c.args.out.now c.begin.new.out o c.close.new.out at c.args.owner xs c.loop-x.invariant.0 (c.loop-x.invariant.1 ∙ n) (omega arith) l c.begin.ensures.after (sym all ∙ c.loop-x.invariant.2) c.close.ensures.after
