-- A walk begins, goes past a leaf, and comes to the end.
use Rattle.std.proofs.Common.{◌≡◌, ℕ, suc, ◌+◌, ◌-◌, ◌<◌, ◌≤◌, List, [], ◌∷◌, length, get_or, drop, replicate, Some, sym, refl, ap, ◌∙◌, subst, ⊎_elim, arith}
use Rattle.std.proofs.lemmas.List.{length-drop, drop-drop, get_or-drop}
use Rattle.std.proofs.lemmas.Bool.{cases_eq}
use Rattle.walks.specs.declared.cursor.Cursor.{Cursor}
use Rattle.walks.specs.declared.outcome.Ending.{Ending}
use Rattle.walks.specs.declared.outcome.Ending.TheVariants.{Failed, Cut, Full}
use Rattle.walks.specs.declared.outcome.Outcome.{Outcome}
use Rattle.walks.specs.declared.outcome.Outcome.TheVariants.{Open, Ended}
use Rattle.walks.specs.declared.walk.Walk.{Walk}
use Rattle.walks.specs.Cursors.{Placed, Descended, after, ahead, ahead_in, ahead_of, leaf_of}
use Rattle.walks.specs.Leaves.{leaves, from_start}
use Rattle.walks.specs.Outcomes.{IsOpen}
use Rattle.walks.specs.Paths.{Levels, levels, points, first, turned, left, left_depth, unspent, raised}
use Rattle.walks.specs.Runs.{Lawful}
use Rattle.walks.specs.Tallies.{visited, Tallied, tallied, nothing, noted}
use Rattle.walks.specs.Walks.{Tied, Visited, next_outcome}
use Rattle.walks.proofs.Aheads.{ahead_none, ahead_first, ahead_leaf, ahead_some, ahead_turned}
use Rattle.walks.proofs.Points.{placed_set, placed_less}
use Rattle.walks.proofs.Scans.{leaves_at}
use Rattle.walks.proofs.Tallying.{counted_none, counted_one, noted_visited}
use Rattle.walks.proofs.Turns.{unspent_le, raised_some}

left_le : (e : Ending) (d : ℕ) → left_depth e d ≤ d
left_le Failed d = omega arith
left_le Cut d = omega arith
left_le Full d = omega arith

-- the first of what is left of a list
next_of : {X : Type 0} (xs r : List X) (v : ℕ) (s : X) → drop v xs ≡ s ∷ r → (v < length xs) × (drop (v + 1) xs ≡ r) × ((q : X) → get_or xs v q ≡ s)
next_of {X} xs r v s e =
    let len : length xs - v ≡ suc (length r) = sym (length-drop v xs) ∙ ap length e in
    let rest : drop 1 (drop v xs) ≡ r = ap (drop 1) e in (
      omega arith,
      sym (drop-drop 1 v xs) ∙ rest,
      λ q. let z : v + 0 ≡ v = omega arith in ap (λ k. get_or xs k q) (sym z) ∙ sym (get_or-drop v xs 0 q) ∙ ap (λ l. get_or l 0 q) e,
    )

module _ {P : Type 0} (stands : P → List ℕ → Type 0) (points : List P) (ns : List ℕ) where
  placed_raised : (d : ℕ) → Placed stands points ns d → Placed stands points (raised ns d) d
  placed_raised d placed =
      ⊎_elim
      (λ (z : d ≡ 0). λ j q lt. absurd (let w : ⊥ = omega arith in w))
      (λ (some : d ≡ 0 → ⊥). subst (λ xs. Placed stands points xs d) (sym (raised_some ns d (omega arith))) (placed_set stands points ns d (d - 1) (get_or ns (d - 1) 0 + 1) (omega arith) placed))
      (cases_eq d 0)

  -- a turn among the first k levels
  placed_turned : (bs : List ℕ) (d k : ℕ) → k ≤ d → Placed stands points ns d → Placed stands points (raised ns (unspent ns bs k)) (unspent ns bs k)
  placed_turned bs d k le placed =
      let u : unspent ns bs k ≤ k = unspent_le ns bs k in
      placed_raised (unspent ns bs k) (placed_less stands points ns d (unspent ns bs k) (omega arith) placed)

module _ {P : Type 0} (out : List ℕ → Outcome) (stands : P → List ℕ → Type 0) where
  ahead_start : (o : Outcome) → ahead_in out (first o) ≡ from_start out o
  ahead_start (Open b) = ahead_first out (replicate 64 0) (replicate 65 b) b refl refl
  ahead_start (Ended e) = ahead_none out (replicate 64 0) (replicate 65 0)

  placed_start : (o : Outcome) (points : List P) → (IsOpen o → (x : P) → stands (get_or points 0 x) []) → Placed stands points (first o).numbers (first o).depth
  placed_start (Open b) points at j x lt = let z : j ≡ 0 = omega arith in rw z (at tt x)
  placed_start (Ended e) points at j x lt = absurd (let z : ⊥ = omega arith in z)

  pub begun : (w : Walk P) (o : Outcome) → out [] ≡ o → levels w.cursor ≡ first o → tallied w.tally ≡ nothing
      → (IsOpen o → (x : P) → stands (get_or (points w.cursor) 0 x) []) → Tied out stands w
  begun w o e path tally at =
      let PlacedBy : Levels → Type 0 = λ p. Placed stands (points w.cursor) p.numbers p.depth in
      let none : visited w.tally ≡ 0 = ap (λ (s : Tallied). s.failed + s.cut + s.full) tally in
      record {
        placed = subst PlacedBy (sym path) (placed_start o (points w.cursor) at);
        ahead = ap (λ n. drop n (leaves out)) none ∙ leaves_at out o e ∙ sym (ahead_start o) ∙ ap (ahead_in out) (sym path);
        counted = counted_none out w.tally tally;
      }

  -- the walk w, gone down to the leaf at d, and past it to x
  pub visited_one : (w x : Walk P) (d : Cursor P) (e : Ending) → Tied out stands w → Descended out stands w.cursor d e
      → points x.cursor ≡ points d → levels x.cursor ≡ turned (left e (levels d)) → tallied x.tally ≡ noted w.tally e (levels d)
      → Visited out stands w x (Some e)
  visited_one w x d e t down kept path tally =
      let p = levels d in
      let ns = p.numbers in
      let bs = p.bounds in
      let k = left_depth e p.depth in
      let xs = leaves out in
      let v = visited w.tally in
      let few : p.depth ≤ 64 = d.few in
      let wide : length ns ≡ 64 = d.numbers_wide in
      let less : k ≤ p.depth = left_le e p.depth in
      let rows : drop v xs ≡ leaf_of d ∷ after out ns bs k = t.ahead ∙ sym down.ahead ∙ ahead_leaf out ns bs p.depth e down.some (omega arith) down.ends in
      let nx = next_of xs (after out ns bs k) v (leaf_of d) rows in
      let PlacedBy : Levels → Type 0 = λ q. Placed stands (points d) q.numbers q.depth in
      let PlacedOn : List P → Type 0 = λ ps. Placed stands ps (levels x.cursor).numbers x.cursor.depth in
      let moved : ahead_of out x.cursor ≡ after out ns bs k = ap (ahead_in out) path ∙ ahead_turned out ns bs k (omega arith) in
      let u : visited x.tally ≡ v + 1 = noted_visited w.tally p e x.tally tally in
      record {
        tied = record {
          placed = subst PlacedOn (sym kept) (subst PlacedBy (sym path) (placed_turned stands (points d) ns bs p.depth k less down.placed));
          ahead = ap (λ n. drop n xs) u ∙ nx.1 ∙ sym moved;
          counted = counted_one out w.tally x.tally p e tally t.counted nx.0 (nx.2 []) down.ends;
        };
        ending = sym (ap (next_outcome out) rows ∙ ap Some down.ends);
      }

  pub none_left : (w : Walk P) → Tied out stands w → w.cursor.depth ≡ 0 → drop (visited w.tally) (leaves out) ≡ []
  none_left w t z =
      let p = levels w.cursor in
      t.ahead ∙ ap (ahead out p.numbers p.bounds) z ∙ ahead_none out p.numbers p.bounds

  pub some_left : Lawful out → (w : Walk P) → Tied out stands w → 0 < w.cursor.depth → visited w.tally < length (leaves out)
  some_left laws w t some =
      let p = levels w.cursor in
      let more : 0 < length (ahead_of out w.cursor) = ahead_some out p.numbers p.bounds laws p.depth some w.cursor.few (omega (arith, w.cursor.numbers_wide)) in
      let e : length (leaves out) - visited w.tally ≡ length (ahead_of out w.cursor) = sym (length-drop (visited w.tally) (leaves out)) ∙ ap length t.ahead in
      omega (arith, more, e)
