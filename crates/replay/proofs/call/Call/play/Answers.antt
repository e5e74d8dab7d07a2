use Rattle.std.proofs.Common.{ap, ◌∙◌, rules}
use Rattle.std.proofs.lemmas.List.{take_rest}
use Rattle.replay.specs.Scripts.{room_at}
use Rattle.replay.proofs.call.Call.play.Goals as goal

pub returns : goal.returns
returns c =
    let n = c.slash_in-slash.result in
    let rest = take_rest c.args.words.now n in
    (n, c.slash_in-slash.ensures.found, search rules, c.in-Some-rooms_of.ensures.0 ∙ ap (λ ws. room_at ws 1) rest, c.in-Some-rooms_of.ensures.1 ∙ ap (λ ws. room_at ws 2) rest)
