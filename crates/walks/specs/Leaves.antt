-- The leaves of a runner's meaning: which lists they are, and all of them in dictionary order.
use Rattle.std.specs.Prelude.{◌≡◌, ℕ, zero, suc, ◌<◌, ◌≤◌, List, [], ◌∷◌, ◌++◌, ◌≢◌}
use Rattle.std.specs.List.{ContainsAt as Has, AllByRecursion}
use Rattle.walks.specs.declared.outcome.Outcome.{Outcome}
use Rattle.walks.specs.declared.outcome.Outcome.TheVariants.{Open, Ended}
use Rattle.walks.specs.declared.outcome.Ending.{Ending}
use Rattle.walks.specs.declared.outcome.Ending.TheVariants.{Failed, Cut, Full}
use Rattle.walks.specs.Outcomes.{IsOpen}

-- An open list l with one number n within its bound that ends the run; if it fails, n is the least that does.
pub record LeafAt (out : List ℕ → Outcome) (l : List ℕ) (n : ℕ) : Type 0 where
  pub bound : ℕ
  pub opened : out l ≡ Open bound
  pub within : n ≤ bound
  pub ends : IsOpen (out (l ++ n ∷ [])) → ⊥
  pub least : (m : ℕ) → m < n → out (l ++ n ∷ []) ≡ Ended Failed → out (l ++ m ∷ []) ≢ Ended Failed

abbrev pub Leaf : (List ℕ → Outcome) → List ℕ → Type 0
Leaf out s = (l : List ℕ) × (n : ℕ) × (s ≡ l ++ n ∷ []) × LeafAt out l n

-- What is left of the later neighbours of a list that ends so: after one that fails, none is a leaf.
abbrev pub past : {X : Type 0} → Ending → List X → List X
past Failed more = []
past Cut more = more
past Full more = more

-- What a list s gives, `more` being what its later neighbours give; `below s b` are the leaves that begin with s where that is open.
abbrev pub here : (below : List ℕ → ℕ → List (List ℕ)) (s : List ℕ) (more : List (List ℕ)) → Outcome → List (List ℕ)
here below s more (Open b) = below s b ++ more
here below s more (Ended e) = s ∷ past e more

-- The leaves that begin with l and go on with one of the k numbers from n on.
unfoldable pub scan : (out : List ℕ → Outcome) (below : List ℕ → ℕ → List (List ℕ)) (l : List ℕ) (k n : ℕ) → List (List ℕ)
scan out below l zero n = []
scan out below l (suc k) n = here below (l ++ n ∷ []) (scan out below l k (suc n)) (out (l ++ n ∷ []))

-- The leaves that begin with the open list l, whose bound is b, and have at most `fuel` numbers more.
unfoldable pub level : (out : List ℕ → Outcome) (fuel : ℕ) (l : List ℕ) (b : ℕ) → List (List ℕ)
level out zero l b = []
level out (suc fuel) l b = scan out (level out fuel) l (suc b) 0

abbrev pub from_start : (out : List ℕ → Outcome) → Outcome → List (List ℕ)
from_start out (Open b) = level out 64 [] b
from_start out (Ended e) = []

-- All leaves.
unfoldable pub leaves : (List ℕ → Outcome) → List (List ℕ)
leaves out = from_start out (out [])

-- Dictionary order: the first number that differs is less.
abbrev pub Before : List ℕ → List ℕ → Type 0
Before s t = (p : List ℕ) × (a : ℕ) × (b : ℕ) × (x : List ℕ) × (y : List ℕ) × (s ≡ p ++ a ∷ x) × (t ≡ p ++ b ∷ y) × (a < b)

-- each list is before all that follow it
abbrev pub Ascending : List (List ℕ) → Type 0
Ascending [] = Unit {0}
Ascending (s ∷ rows) = AllByRecursion (Before s) rows × Ascending rows

-- The rows are the leaves, all of them and each once, in dictionary order.
pub record Complete (out : List ℕ → Outcome) (rows : List (List ℕ)) : Type 0 where
  pub only : AllByRecursion (Leaf out) rows
  pub every : (s : List ℕ) → Leaf out s → Has rows s
  pub order : Ascending rows
