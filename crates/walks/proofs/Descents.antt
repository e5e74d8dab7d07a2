-- One level further down, and that there is room for it.
use Rattle.std.proofs.Common.{◌≡◌, ℕ, ◌+◌, ◌<◌, ◌≤◌, List, length, sym, ap, ◌∙◌, subst, subst₂, arith}
use Rattle.std.proofs.lemmas.List.{length-take-le}
use Rattle.walks.specs.declared.cursor.Cursor.{Cursor}
use Rattle.walks.specs.declared.outcome.Outcome.{Outcome}
use Rattle.walks.specs.declared.outcome.Outcome.TheVariants.{Open}
use Rattle.walks.specs.Cursors.{Placed, PlacedAt, ahead_in, ahead_of, leaf_of}
use Rattle.walks.specs.Outcomes.{IsOpen}
use Rattle.walks.specs.Paths.{Levels, levels, points, pushed}
use Rattle.walks.specs.Runs.{Lawful}
use Rattle.walks.proofs.Aheads.{ahead_pushed}
use Rattle.walks.proofs.Levels.{bounds_wide}
use Rattle.walks.proofs.Points.{placed_set}

-- a list of 64 numbers is not open
pub no_room : {P : Type 0} (out : List ℕ → Outcome) → Lawful out → (c : Cursor P) (b : ℕ) → c.depth ≡ 64 → out (leaf_of c) ≡ Open b → ⊥
no_room out laws c b full opens =
    let long : length (leaf_of c) ≡ 64 = length-take-le c.depth (levels c).numbers (omega (arith, full, c.numbers_wide)) ∙ full in
    laws.short (leaf_of c) long (subst IsOpen (sym opens) tt)

-- the cursor s, which has the levels of c, with a level pushed
module _ {P : Type 0} (c s q : Cursor P) (b : ℕ) (same : levels s ≡ levels c) (some : 0 < c.depth) (room : s.depth ≡ 64 → ⊥) (push : levels q ≡ pushed (levels s) b) where
  pub deeper : (q.depth ≡ c.depth + 1) × (c.depth < 64)
  deeper =
      let deep : s.depth ≡ c.depth = ap (λ (x : Levels). x.depth) same in
      let more : q.depth ≡ s.depth + 1 = ap (λ (x : Levels). x.depth) push in
      let few : s.depth ≤ 64 = s.few in
      (omega arith, omega arith)

  pub goes_down : (out : List ℕ → Outcome) (stands : P → List ℕ → Type 0) → points q ≡ points s → out (leaf_of s) ≡ Open b → Placed stands (points s) (levels s).numbers (s.depth + 1)
      → PlacedAt stands q × (ahead_of out q ≡ ahead_of out c)
  goes_down out stands kept opens placed =
      let p = levels s in
      let deep : s.depth ≡ c.depth = ap (λ (x : Levels). x.depth) same in
      let less : c.depth < 64 = deeper.1 in
      let ln = s.numbers_wide in
      let lb = bounds_wide s in
      let Goal : List P → Levels → Type 0 = λ ps x. Placed stands ps x.numbers x.depth × (ahead_in out x ≡ ahead_in out (levels c)) in
      subst₂ Goal (sym kept) (sym push) (
        placed_set stands (points s) p.numbers (s.depth + 1) s.depth 0 (omega arith) placed,
        ahead_pushed out p.numbers p.bounds s.depth b (omega arith) (omega arith) (omega arith) (omega arith) opens ∙ ap (ahead_in out) same,
      )
