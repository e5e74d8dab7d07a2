-- What a walk answers.
use Rattle.std.proofs.Common.{◌≡◌, ℕ, ◌+◌, ◌-◌, ◌<◌, ◌≤◌, cond, eqb, List, [], ◌∷◌, length, drop, true, false, Some, None, Option, is_some, sym, refl, ap, ◌∙◌, ⊎_elim, arith, le-ltb, lt-ltb, eq-eqb, ne_eqb}
use Rattle.std.proofs.lemmas.List.{length-drop}
use Rattle.std.proofs.lemmas.Bool.{cases_eq, false≢true}
use Rattle.walks.specs.declared.outcome.Ending.{Ending}
use Rattle.walks.specs.declared.outcome.Outcome.{Outcome}
use Rattle.walks.specs.declared.walk.Answer.{Answer}
use Rattle.walks.specs.declared.walk.Answer.TheVariants.{Done, Spent}
use Rattle.walks.specs.declared.walk.Walk.{Walk}
use Rattle.walks.specs.Leaves.{leaves}
use Rattle.walks.specs.Runs.{Lawful}
use Rattle.walks.specs.Tallies.{visited}
use Rattle.walks.specs.Walks.{Tied, Visited, Advanced, and_one, next_outcome, answer_at}
use Rattle.walks.proofs.Visits.{none_left, some_left}

nothing_next : (out : List ℕ → Outcome) (rows : List (List ℕ)) → None ≡ next_outcome out rows → rows ≡ []
nothing_next out [] e = refl
nothing_next out (s ∷ rows) e = absurd (let z : ◌≡◌ {A = ℕ} 0 1 = cc in (let w : ⊥ = omega arith in w))

answer_done : (v n : ℕ) → n ≤ v → Done ≡ answer_at v n
answer_done v n le = ap (λ b. cond b Spent Done) (sym (le-ltb v n le))

answer_spent : (v n : ℕ) → v < n → Spent ≡ answer_at v n
answer_spent v n lt = ap (λ b. cond b Spent Done) (sym (lt-ltb v n lt))

-- a visit that found a leaf
pub one_more : (v : ℕ) (o : Option Ending) → is_some o ≡ true → and_one v o ≡ v + 1
one_more v None is = absurd (false≢true is)
one_more v (Some e) is = refl

module _ {P : Type 0} (out : List ℕ → Outcome) (stands : P → List ℕ → Type 0) (w : Walk P) (b : ℕ) where
  -- after x, where i leaves were visited, none is left
  pub runs_out : (x y : Walk P) (i : ℕ) (o : Option Ending) → is_some o ≡ false → visited x.tally ≡ visited w.tally + i → i < b → visited y.tally ≡ and_one (visited x.tally) o → Visited out stands x y o → Advanced out stands w y b Done
  runs_out x y i (Some e) not so lt same done = absurd (false≢true (sym not))
  runs_out x y i None not so lt same done =
      let n = length (leaves out) in
      let none : length (leaves out) - visited x.tally ≡ 0 = sym (length-drop (visited x.tally) (leaves out)) ∙ ap length (nothing_next out (drop (visited x.tally) (leaves out)) done.ending) in
      let within : visited y.tally ≤ n = done.tied.counted.within in
      record {
        tied = done.tied;
        moved = omega arith;
        answer = answer_done (visited y.tally) n (omega arith);
      }

  -- all b leaves were visited
  pub answers : Lawful out → (x : Walk P) (a : Answer) → visited x.tally ≡ visited w.tally + b → Tied out stands x → a ≡ cond (eqb x.cursor.depth 0) Done Spent → Advanced out stands w x b a
  answers laws x a so t is =
      let n = length (leaves out) in
      let v = visited x.tally in
      let within : v ≤ n = t.counted.within in
      let told : cond (eqb x.cursor.depth 0) Done Spent ≡ answer_at v n =
      ⊎_elim
      (λ (z : x.cursor.depth ≡ 0).
      let none : n - v ≡ 0 = sym (length-drop v (leaves out)) ∙ ap length (none_left out stands x t z) in
      ap (λ c. cond c Done Spent) (eq-eqb x.cursor.depth 0 z) ∙ answer_done v n (omega arith))
      (λ (some : x.cursor.depth ≡ 0 → ⊥).
      ap (λ c. cond c Done Spent) (ne_eqb x.cursor.depth 0 some) ∙ answer_spent v n (some_left out stands laws x t (omega arith)))
      (cases_eq x.cursor.depth 0) in
      record { tied = t; moved = omega arith; answer = is ∙ told }
