-- The levels that have a next number.
use Rattle.std.proofs.Common.{◌≡◌, ℕ, zero, suc, ◌+◌, ◌-◌, ◌<◌, ◌≤◌, true, false, cond, ltb, List, get_or, set, sym, ap, ◌∙◌, arith, le-ltb, lt-ltb, eq-eqb, ne_eqb}
use Rattle.walks.specs.Paths.{Levels, unspent, raised, turned}

module _ (ns bs : List ℕ) where
  pub unspent_le : (d : ℕ) → unspent ns bs d ≤ d
  unfolding unspent
  unspent_le zero = omega arith
  unspent_le (suc d) =
      let less = unspent_le d in
      elim (ltb (get_or ns d 0) (get_or bs d 0)) as (λ b. cond b (suc d) (unspent ns bs d) ≤ suc d) [ true ↦ omega arith | false ↦ omega arith ]

  pub unspent_none : (d : ℕ) → d ≡ 0 → unspent ns bs d ≡ d
  unfolding unspent
  unspent_none d e = rw e

  pub unspent_more : (d : ℕ) → get_or ns d 0 < get_or bs d 0 → unspent ns bs (suc d) ≡ suc d
  unfolding unspent
  unspent_more d lt = ap (λ b. cond b (suc d) (unspent ns bs d)) (lt-ltb _ _ lt)

  pub unspent_less : (d : ℕ) → get_or bs d 0 ≤ get_or ns d 0 → unspent ns bs (suc d) ≡ unspent ns bs d
  unfolding unspent
  unspent_less d le = ap (λ b. cond b (suc d) (unspent ns bs d)) (le-ltb _ _ le)

  pub unspent_here : (d : ℕ) → 0 < d → get_or ns (d - 1) 0 < get_or bs (d - 1) 0 → unspent ns bs d ≡ d
  unspent_here d h lt = let e : d ≡ suc (d - 1) = omega arith in ap (unspent ns bs) e ∙ unspent_more (d - 1) lt ∙ sym e

  pub unspent_back : (d : ℕ) → 0 < d → get_or bs (d - 1) 0 ≤ get_or ns (d - 1) 0 → unspent ns bs (d - 1) ≡ unspent ns bs d
  unspent_back d h le = let e : d ≡ suc (d - 1) = omega arith in sym (ap (unspent ns bs) e ∙ unspent_less (d - 1) le)

pub raised_none : (ns : List ℕ) (d : ℕ) → d ≡ 0 → raised ns d ≡ ns
raised_none ns d z = ap (λ b. cond b ns (set ns (d - 1) (get_or ns (d - 1) 0 + 1))) (eq-eqb d 0 z)

pub raised_some : (ns : List ℕ) (d : ℕ) → 0 < d → raised ns d ≡ set ns (d - 1) (get_or ns (d - 1) 0 + 1)
raised_some ns d h = ap (λ b. cond b ns (set ns (d - 1) (get_or ns (d - 1) 0 + 1))) (ne_eqb d 0 (omega arith))

-- the levels that a turn leaves, before the last goes on
module _ (p : Levels) (ns bs : List ℕ) (d : ℕ) (en : ns ≡ p.numbers) (eb : bs ≡ p.bounds) (same : unspent ns bs d ≡ unspent p.numbers p.bounds p.depth) where
  at_last : unspent ns bs d ≡ d → record { numbers = raised ns d; bounds = bs; depth = d } ≡ turned p
  at_last u = let ed : d ≡ unspent p.numbers p.bounds p.depth = sym u ∙ same in rw (en, eb, ed)

  pub turns_up : 0 < d → get_or ns (d - 1) 0 < get_or bs (d - 1) 0 → record { numbers = set ns (d - 1) (get_or ns (d - 1) 0 + 1); bounds = bs; depth = d } ≡ turned p
  turns_up h lt = ap (λ xs. record { numbers = xs; bounds = bs; depth = d }) (sym (raised_some ns d h)) ∙ at_last (unspent_here ns bs d h lt)

  pub turns_out : d ≡ 0 → record { numbers = ns; bounds = bs; depth = 0 } ≡ turned p
  turns_out z = ap (λ k. record { numbers = ns; bounds = bs; depth = k }) (sym z) ∙ ap (λ xs. record { numbers = xs; bounds = bs; depth = d }) (sym (raised_none ns d z)) ∙ at_last (unspent_none ns bs d z)
