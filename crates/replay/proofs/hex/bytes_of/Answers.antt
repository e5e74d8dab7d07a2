use Rattle.std.proofs.Common.{◌≡◌, ◌+◌, ◌*◌, ◌<◌, ◌≤◌, [], ◌∷◌, ◌++◌, length, vec_items, sym, ap, ◌∙◌, arith, rules}
use Rattle.replay.specs.Hex.{bytes}
use Rattle.replay.proofs.Hexes.{odd, more, stop, all}
use Rattle.replay.proofs.hex.bytes_of.Goals as goal

pub returns-then-digits-ne0 : goal.returns-then-digits-ne0
returns-then-digits-ne0 c =
    record { value = sym (odd _ c.if-digits-ne0.true) ∙ ap bytes c.as_bytes-digits.ensures.value; half = tt }

pub returns-in_default : goal.returns-in_default
returns-in_default c =
    let h : 2 * c.loop-i.i + 1 < length c.as_bytes-digits.result.now = omega arith in
    record {
      value = sym (stop _ (vec_items c.loop-i.spelt) c.loop-i.i h (sym c.in_default.ensures) c.loop-i.invariant.1) ∙ ap bytes c.as_bytes-digits.ensures.value;
      half = tt;
    }

pub loop-i-preserved : goal.loop-i-preserved
loop-i-preserved c =
    let h : 2 * c.loop-i.i + 1 < length c.as_bytes-digits.result.now = omega arith in
    let new : vec_items c.push.new.self ≡ vec_items c.loop-i.spelt ++ c.in-Some.b ∷ [] = c.in_ok-push.ensures.items in
    (search rules, rw new (more c.as_bytes-digits.result.now (vec_items c.loop-i.spelt) c.loop-i.i c.in-Some.b h (sym c.in-Some.ensures) c.loop-i.invariant.1))

pub returns : goal.returns
returns c =
    let h : length c.as_bytes-digits.result.now ≤ 2 * c.loop-i.i = omega arith in
    record {
      value = all _ (vec_items c.loop-i.spelt) c.loop-i.i h c.loop-i.invariant.1 ∙ ap bytes c.as_bytes-digits.ensures.value;
      half = omega (arith, c.loop-i.invariant.0, c.as_bytes-digits.ensures.len);
    }
