use Rattle.std.proofs.Common.{List, IfSome, IfOk, subst}
use Rattle.std.proofs.lemmas.List.{take_rest}
use Rattle.replay.specs.Scripts.{Word, word, Named}
use Rattle.replay.proofs.call.Line.from_words.Goals as goal

pub returns-in-len1-up : goal.returns-in-len1-up
returns-in-len1-up c =
    let ws = c.args.words.now in
    let P : List Word → Type 0 = λ rest. IfOk c.named.result (λ o. IfSome o (Named (word ws 0) rest)) in
    subst P (take_rest ws 1) c.named.ensures
