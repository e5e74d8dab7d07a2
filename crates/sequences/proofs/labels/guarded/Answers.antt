use Rattle.std.proofs.Common.{◌∙◌, rules, tests}
use Rattle.std.proofs.lemmas.Iterator.{YieldsList-from_slice}
use Rattle.std.proofs.lemmas.Iterator.Search.{any_from_yields_List}
use Rattle.sequences.specs.Code.{names}
use Rattle.sequences.proofs.Ways.{any_names}
use Rattle.sequences.proofs.labels.guarded.Goals as goal

pub returns : goal.returns
returns c =
    let text = c.args.text.now in
    let t = c.args.t.0 in
    any_from_yields_List (names t) _ _ c.any.result c.any.ensures.ran (YieldsList-from_slice text cc) (λ x b q k. search (rules, tests)) ∙ any_names text t
