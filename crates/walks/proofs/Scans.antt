-- One step of a scan and of a level, and that an open list has a leaf.
use Rattle.std.proofs.Common.{◌≡◌, ℕ, zero, suc, ◌+◌, ◌<◌, List, [], ◌∷◌, ◌++◌, length, sym, refl, ap, subst, arith}
use Rattle.std.proofs.lemmas.List.{length-append}
use Rattle.walks.specs.declared.outcome.Outcome.{Outcome}
use Rattle.walks.specs.declared.outcome.Outcome.TheVariants.{Open, Ended}
use Rattle.walks.specs.Leaves.{from_start, leaves, here, scan, level}
use Rattle.walks.specs.Outcomes.{IsOpen}
use Rattle.walks.specs.Runs.{Lawful}

module _ (out : List ℕ → Outcome) where
  pub scan_none : (below : List ℕ → ℕ → List (List ℕ)) (l : List ℕ) (n : ℕ) → scan out below l 0 n ≡ []
  unfolding scan
  scan_none below l n = refl

  pub scan_at : (below : List ℕ → ℕ → List (List ℕ)) (l : List ℕ) (k n : ℕ) (o : Outcome) → out (l ++ n ∷ []) ≡ o
      → scan out below l (suc k) n ≡ here below (l ++ n ∷ []) (scan out below l k (suc n)) o
  unfolding scan
  scan_at below l k n o e = ap (here below (l ++ n ∷ []) (scan out below l k (suc n))) e

  pub level_suc : (f : ℕ) (l : List ℕ) (b : ℕ) → level out (suc f) l b ≡ scan out (level out f) l (suc b) 0
  unfolding level
  level_suc f l b = refl

  pub leaves_at : (o : Outcome) → out [] ≡ o → leaves out ≡ from_start out o
  unfolding leaves
  leaves_at o e = ap (from_start out) e

  pub here_some : (below : List ℕ → ℕ → List (List ℕ)) (s : List ℕ) (more : List (List ℕ)) (o : Outcome) → ((b : ℕ) → o ≡ Open b → 0 < length (below s b)) → 0 < length (here below s more o)
  here_some below s more (Open b) h = omega (arith, length-append (below s b) more, h b refl)
  here_some below s more (Ended e) h = omega arith

  pub level_some : Lawful out → (f : ℕ) (l : List ℕ) (b : ℕ) → f + length l ≡ 64 → out l ≡ Open b → 0 < length (level out f l b)
  unfolding level scan
  level_some laws zero l b len e = absurd (laws.short l (omega arith) (subst IsOpen (sym e) tt))
  level_some laws (suc f) l b len e =
      here_some (level out f) (l ++ 0 ∷ []) (scan out (level out f) l b 1) (out (l ++ 0 ∷ [])) (λ c x. level_some laws f (l ++ 0 ∷ []) c (omega (arith, length-append l (0 ∷ []))) x)
