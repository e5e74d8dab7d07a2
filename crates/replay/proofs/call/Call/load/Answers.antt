use Rattle.std.proofs.Common.{◌≡◌, [], length, Some, ap, ◌∙◌, arith, rules}
use Rattle.std.proofs.lemmas.List.{get_or_past}
use Rattle.replay.specs.Scripts.{Word, no_word, word}
use Rattle.replay.proofs.Hexes.{blank}
use Rattle.replay.proofs.call.Call.load.Goals as goal

pub returns-in-empty : goal.returns-in-empty
returns-in-empty c =
    let ws = c.args.words.now in
    let z : length ws ≡ 0 = search rules in
    let e : word ws 0 ≡ [] = ap (λ (w : Word). w.now) (get_or_past ws 0 no_word (omega arith)) in
    ap Some c.new.ensures.items ∙ blank (word ws 0) e
