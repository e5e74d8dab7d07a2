use Rattle.std.proofs.Common.{◌≡◌, ◌+◌, ◌-◌, ◌<◌, ◌≤◌, length, drop, ap, ◌∙◌, arith, rules, length-set}
use Rattle.std.proofs.lemmas.List.{length-drop, length-take-le}
use borrow.Rule.Slice.PartMut.{put_mid}
use Rattle.std.proofs.ByRecursion.{All-set}
use Rattle.sequences.proofs.Ways.{found_more, found_all, near_all, filled}
use Rattle.sequences.proofs.labels.Layout.new.Goals as goal

pub loop-l-preserved : goal.loop-l-preserved
loop-l-preserved c =
    let l = c.loop-l.l in
    let inv = c.loop-l.invariant in
    let end = c.loop-l.behind + 1 + c.width.result in
    let room : l + 1 < length c.loop-l.at = omega (arith, c.requires, inv.2) in (
      (λ p i. found_more p i c.args.text.now l c.loop-l.behind end _ c.loop-l.at _ c.loop-l-test.true room (ap (λ w. c.loop-l.behind + 1 + w) c.width.ensures.value) c.behind_guard-behind.ensures.value (inv.0 p i)),
      omega (arith, inv.1, c.width.ensures.few, c.behind_guard-behind.ensures.near),
      length-set c.loop-l.at (l + 1) end ∙ inv.2,
      All-set (λ a. a ≤ 1275) c.loop-l.at (l + 1) end (omega (arith, inv.1, c.width.ensures.few, c.requires)) inv.3,
    )

pub invariant_of-result : goal.invariant_of-result
invariant_of-result c =
    let text = c.args.text.now in
    let l = c.loop-l.l in
    let inv = c.loop-l.invariant in
    let n : length text ≡ l = omega arith in
    let shape = ap (λ k. put_mid (k + 1) (256 - (k + 1)) c.loop-l.at c.fill.new.self) n ∙ filled (l + 1) _ c.loop-l.behind c.loop-l.at c.fill.new.self inv.2 (c.fill.ensures.after (λ y k. search rules)) (omega (arith, length-take-le (256 - (length text + 1)) (drop (length text + 1) c.loop-l.at) (omega (arith, length-drop (length text + 1) c.loop-l.at)))) in
    record {
      found = λ p i t b. found_all p i text l c.loop-l.behind c.loop-l.at _ n (omega (arith, c.requires)) inv.2 shape (inv.0 p i) t b;
      near = near_all (l + 1) (256 - (l + 1)) c.loop-l.behind c.loop-l.at _ (omega (arith, inv.1, c.requires)) shape inv.3;
    }
