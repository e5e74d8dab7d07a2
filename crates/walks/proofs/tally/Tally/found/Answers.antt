use Rattle.std.proofs.Common.{◌≡◌, length, Some, sym, ap, ◌∙◌, arith}
use Rattle.std.proofs.lemmas.List.{length-take-le}
use Rattle.walks.specs.Tallies.{numbers_of, place}
use Rattle.walks.proofs.tally.Tally.found.Goals as goal

pub returns-in-Some : goal.returns-in-Some
returns-in-Some c =
    let l = c.in-Some.latest in
    let long : length (numbers_of l) ≡ l.depth = length-take-le l.depth l.numbers (omega (arith, l.wide, l.few)) in
    ap (λ n. Some (record { length = n; position = l.position })) (sym long) ∙ ap place (sym c.in-Some.is)
