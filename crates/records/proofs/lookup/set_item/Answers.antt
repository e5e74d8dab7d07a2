use Rattle.std.proofs.Common.{rules}
use Rattle.std.proofs.lemmas.List.{set_past}
use Rattle.records.proofs.lookup.set_item.Goals as goal

pub returns-else-at-items : goal.returns-else-at-items
returns-else-at-items g c = search (rules, set_past)
