use Rattle.std.proofs.Common.{rules, ◌≡◌, ◌%◌, true, false, ◌∙◌}
use Rattle.std.proofs.lemmas.Iterator.{first_from_Range}
use Rattle.states.specs.States.{created}
use Rattle.threads.specs.Machines.{program, total}
use Rattle.threads.specs.Turns.{width}
use Rattle.threads.specs.Seeks.{seek_first}
use Rattle.threads.proofs.machine.Machine.seek.Goals as goal

pub returns : goal.returns
returns g c =
    let p = program c.args.self.now in
    let s = c.args.state.now in
    let f = first_from_Range _ _ _ c.find.result (λ q. created s (q % width p) ≡ true) (λ q. created s (q % width p) ≡ false) c.find.ensures.ran (λ x q h. search rules) (λ x q h. search rules) in
    c.unwrap_or.ensures ∙ seek_first p s (total c.args.self.now) c.args.from c.slots-slots.result c.requires c.slots-slots.ensures.value c.find.result f
