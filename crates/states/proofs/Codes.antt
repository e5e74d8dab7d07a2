-- What every item of a list keeps, and lawful codes.
use Rattle.std.proofs.Common.{◌≡◌, ℕ, zero, suc, true, List, [], ◌∷◌, length, get_or, drop, replicate}
use Rattle.std.specs.List.{AllByRecursion}
use Rattle.std.proofs.ByRecursion.{All-append, All-drop}
use Rattle.kinds.specs.Meaning.{Meaning, Lawful}
use Rattle.states.specs.Codes.{LawfulCodes}
use Rattle.states.specs.States.{padded}

pub all_or : {X : Type 0} (P : X → Type 0) (xs : List X) (i : ℕ) (d : X) → P d → AllByRecursion P xs → P (get_or xs i d)
all_or P [] i d base all = base
all_or P (x ∷ xs) zero d base all = all.0
all_or P (x ∷ xs) (suc i) d base all = all_or P xs i d base all.1

pub all_replicate : {X : Type 0} (P : X → Type 0) (n : ℕ) (x : X) → P x → AllByRecursion P (replicate n x)
all_replicate P zero x h = tt
all_replicate P (suc n) x h = (h, all_replicate P n x h)

pub lawful_padded : (k : Meaning) → Lawful k → (cs : List ℕ) → LawfulCodes k cs → LawfulCodes k (padded k cs)
lawful_padded k laws cs h =
    All-append (λ c. k.lawful c ≡ true) cs (drop (length cs) (replicate 16 k.fresh)) h
    (All-drop (λ c. k.lawful c ≡ true) (length cs) (replicate 16 k.fresh) (all_replicate (λ c. k.lawful c ≡ true) 16 k.fresh laws.fresh))
