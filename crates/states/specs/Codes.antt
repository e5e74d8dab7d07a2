-- Which codes are lawful.
use Rattle.std.specs.Prelude.{◌≡◌, ℕ, true, List}
use Rattle.std.specs.List.{AllByRecursion}
use Rattle.kinds.specs.Meaning.{Meaning}

abbrev pub LawfulCodes : Meaning → List ℕ → Type 0
LawfulCodes k cs = AllByRecursion (λ c. k.lawful c ≡ true) cs
