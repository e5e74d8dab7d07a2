-- Numbers of lists: what a count counts, and how it is carried to other lists.
use Rattle.std.proofs.Common.{◌≡◌, ℕ, ◌≤◌, Bool, true, List, [], ◌∷◌, map, length, take, filter, sym, ap, ◌∙◌, subst}
use lib.ListN.{length-map}
use Rattle.std.specs.List.{ContainsAt as Has, AllByRecursion}
use Rattle.std.proofs.ByRecursion.{all_has_itself, all_kept_by, All-take, All-weaker, kept_by_passes}
use Rattle.std.proofs.lemmas.List.{take_all}
use Rattle.std.proofs.lemmas.List.Sums.{length-filter}
use Rattle.std.proofs.lemmas.Bool.{false≢true}
use Rattle.agreement.specs.Agreement.{LeafOf, Enumerates}
use Rattle.agreement.proofs.Orders.{has_kept, ascending_kept, ascending_take, only_one, mapped}
use Rattle.walks.specs.declared.outcome.Ending.{Ending}
use Rattle.walks.specs.declared.outcome.Outcome.{Outcome}
use Rattle.walks.specs.declared.outcome.Outcome.TheVariants.{Open, Ended}
use Rattle.walks.specs.Leaves.{Leaf, Before, Ascending, Complete, leaves}
use Rattle.walks.specs.Tallies.{ends_so, count}
use Rattle.reports.specs.Counts.{total}
use Rattle.jobs.specs.Promises.{Number}

all_both : {X : Type 0} (P Q : X → Type 0) (xs : List X) → AllByRecursion P xs → AllByRecursion Q xs → AllByRecursion (λ x. P x × Q x) xs
all_both P Q [] p q = tt
all_both P Q (x ∷ xs) p q = ((p.0, q.0), all_both P Q xs p.1 q.1)

number_of : (P : List ℕ → Type 0) (rows : List (List ℕ)) (n : ℕ) → Enumerates P rows → n ≡ length rows → Number P n
number_of P rows n e same = record { some = (rows, e, same); any = λ others o. same ∙ ap length (only_one P rows others e o) }

-- two properties of the same lists
pub number_same : (P Q : List ℕ → Type 0) (n : ℕ) → ((s : List ℕ) → P s → Q s) → ((s : List ℕ) → Q s → P s) → Number P n → Number Q n
number_same P Q n to from h =
    let e = h.some.1 in
    number_of Q h.some.0 n (record { only = All-weaker P Q to h.some.0 e.only; every = λ s q. e.every s (from s q); order = e.order }) h.some.2

-- a property that a map takes to another, all of it and in order
pub number_mapped : (P Q : List ℕ → Type 0) (f : List ℕ → List ℕ)
    → ((x : List ℕ) → P x → Q (f x))
    → ((y : List ℕ) → Q y → (x : List ℕ) × P x × (f x ≡ y))
    → ((x y : List ℕ) → P x → P y → Before x y → Before (f x) (f y))
    → (n : ℕ) → Number P n → Number Q n
number_mapped P Q f made every order n h =
    number_of Q (map f h.some.0) n (mapped P Q f made every order h.some.0 h.some.1) (h.some.2 ∙ sym (length-map h.some.0 f))

-- the leaves that a test keeps, which one ending passes
module _ (out : List ℕ → Outcome) (e : Ending) (test : Ending → Bool) (passes : test e ≡ true) (alone : (x : Ending) → test x ≡ true → x ≡ e) where
  abbrev keeps : List ℕ → Bool
  keeps s = ends_so test (out s)

  pub ends_as : (o : Outcome) → ends_so test o ≡ true → o ≡ Ended e
  ends_as (Open b) h = absurd (false≢true h)
  ends_as (Ended x) h = ap (λ y. Ended y) (alone x h)

  enumerates : (xs : List (List ℕ)) → AllByRecursion (Leaf out) xs → Ascending xs → Enumerates (λ s. LeafOf e out s × Has xs s) (filter keeps xs)
  enumerates xs leaf order =
      let Among : List ℕ → Type 0 = λ s. Leaf out s × Has xs s in
      let among : AllByRecursion Among (filter keeps xs) = all_kept_by keeps Among xs (all_both (Leaf out) (Has xs) xs leaf (all_has_itself xs)) in
      let both : AllByRecursion (λ s. Among s × (keeps s ≡ true)) (filter keeps xs) = all_both Among (λ s. keeps s ≡ true) (filter keeps xs) among (kept_by_passes keeps xs) in
      record {
        only = All-weaker (λ s. Among s × (keeps s ≡ true)) (λ s. LeafOf e out s × Has xs s) (λ s h. ((h.0.0, ends_as (out s) h.1), h.0.1)) (filter keeps xs) both;
        every = λ s h. has_kept keeps xs s h.1 (ap (ends_so test) h.0.1 ∙ passes);
        order = ascending_kept keeps xs order;
      }

  module _ (c : Complete out (leaves out)) (v : ℕ) where
    -- of the first v leaves
    pub number_first : Number (λ s. LeafOf e out s × Has (take v (leaves out)) s) (count test out (take v (leaves out)))
    number_first =
        let xs = take v (leaves out) in
        number_of (λ s. LeafOf e out s × Has xs s) (filter keeps xs) (count test out xs)
        (enumerates xs (All-take (Leaf out) v (leaves out) c.only) (ascending_take v (leaves out) c.order)) (sym (length-filter keeps xs))

    -- and of all
    pub number_all : total out ≤ v → Number (LeafOf e out) (count test out (take v (leaves out)))
    number_all le =
        let same = take_all v (leaves out) le in
        number_same (λ s. LeafOf e out s × Has (take v (leaves out)) s) (LeafOf e out) (count test out (take v (leaves out)))
        (λ s h. h.0) (λ s h. (h, subst (λ xs. Has xs s) (sym same) (c.every s h.0))) number_first
