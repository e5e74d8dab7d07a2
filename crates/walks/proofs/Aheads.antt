-- What is ahead of a path, as its levels change.
use Rattle.std.proofs.Common.{◌≡◌, ℕ, zero, suc, ◌+◌, ◌-◌, ◌<◌, ◌≤◌, ◌≢◌, List, [], ◌∷◌, ◌++◌, length, get_or, take, set, sym, refl, ap, ◌∙◌, ⊎_elim, append_assoc, append-nil, add-one, arith}
use Rattle.std.proofs.lemmas.List.{take-set-le, take-set, take_more, length-append, length-take-le, get_or-set_same, get_or-set_other}
use Rattle.std.proofs.lemmas.Bool.{cases_lt}
use Rattle.walks.specs.declared.outcome.Ending.{Ending}
use Rattle.walks.specs.declared.outcome.Ending.TheVariants.{Failed, Cut, Full}
use Rattle.walks.specs.declared.outcome.Outcome.{Outcome}
use Rattle.walks.specs.declared.outcome.Outcome.TheVariants.{Open, Ended}
use Rattle.walks.specs.Cursors.{after, ahead}
use Rattle.walks.specs.Leaves.{past, here, scan, level}
use Rattle.walks.specs.Paths.{unspent, left_depth, raised}
use Rattle.walks.specs.Runs.{Lawful}
use Rattle.walks.proofs.Scans.{scan_at, level_suc, here_some, level_some}
use Rattle.walks.proofs.Turns.{unspent_more, unspent_less, raised_some}

module _ (out : List ℕ → Outcome) (ns bs : List ℕ) where
  after_suc : (d : ℕ) → after out ns bs (suc d) ≡ scan out (level out (63 - d)) (take d ns) (get_or bs d 0 - get_or ns d 0) (suc (get_or ns d 0)) ++ after out ns bs d
  unfolding after
  after_suc d = refl

  ahead_suc : (d : ℕ) → ahead out ns bs (suc d) ≡ scan out (level out (63 - d)) (take d ns) (suc (get_or bs d 0 - get_or ns d 0)) (get_or ns d 0) ++ after out ns bs d
  unfolding ahead
  ahead_suc d = refl

  nothing_turned : ahead out (raised ns (unspent ns bs 0)) bs (unspent ns bs 0) ≡ after out ns bs 0
  unfolding unspent ahead after
  nothing_turned = refl

  pub ahead_none : ahead out ns bs 0 ≡ []
  unfolding ahead
  ahead_none = refl

  -- the first level, at its first number
  pub ahead_first : (b : ℕ) → get_or ns 0 0 ≡ 0 → get_or bs 0 0 ≡ b → ahead out ns bs 1 ≡ level out 64 [] b
  unfolding ahead after level
  ahead_first b zn zb =
      let z : b - 0 ≡ b = omega arith in
      rw (zn, zb, z) (append-nil _)

  -- writes at or past level d leave what is after it
  after_set : (i x y d : ℕ) → d ≤ i → after out (set ns i x) (set bs i y) d ≡ after out ns bs d
  unfolding after
  after_set i x y zero h = refl
  after_set i x y (suc d) h =
      let ne : d ≢ i = omega arith in
      let le : d ≤ i = omega arith in
      rw (get_or-set_other ns i d x 0 ne, get_or-set_other bs i d y 0 ne, take-set-le d ns i x le, after_set i x y d le)

  after_raised : (i x d : ℕ) → d ≤ i → after out (set ns i x) bs d ≡ after out ns bs d
  unfolding after
  after_raised i x zero h = refl
  after_raised i x (suc d) h =
      let ne : d ≢ i = omega arith in
      let le : d ≤ i = omega arith in
      rw (get_or-set_other ns i d x 0 ne, take-set-le d ns i x le, after_raised i x d le)

  -- a level at its bound has nothing left
  after_spent : (d : ℕ) → get_or bs d 0 ≤ get_or ns d 0 → after out ns bs (suc d) ≡ after out ns bs d
  unfolding after scan
  after_spent d le = let z : get_or bs d 0 - get_or ns d 0 ≡ 0 = omega arith in rw z

  -- the next number of a level below its bound
  ahead_raised : (d : ℕ) → d < length ns → get_or ns d 0 < get_or bs d 0 → ahead out (set ns d (get_or ns d 0 + 1)) bs (suc d) ≡ after out ns bs (suc d)
  unfolding after ahead
  ahead_raised d h lt =
      let x = get_or ns d 0 + 1 in
      let at : get_or (set ns d x) d 0 ≡ suc (get_or ns d 0) = get_or-set_same ns d x 0 h ∙ add-one _ in
      let k : suc (get_or bs d 0 - suc (get_or ns d 0)) ≡ get_or bs d 0 - get_or ns d 0 = omega arith in
      rw (at, k, take-set ns d x, after_raised d x d (omega arith))

  -- a turn goes on to what is after the levels
  pub ahead_turned : (d : ℕ) → d ≤ length ns → ahead out (raised ns (unspent ns bs d)) bs (unspent ns bs d) ≡ after out ns bs d
  ahead_turned zero h = nothing_turned
  ahead_turned (suc d) h =
      ⊎_elim
      (λ (lt : get_or ns d 0 < get_or bs d 0).
      let u : unspent ns bs (suc d) ≡ suc d = unspent_more ns bs d lt in
      let k : suc d - 1 ≡ d = omega arith in
      let up : raised ns (suc d) ≡ set ns d (get_or ns d 0 + 1) = raised_some ns (suc d) (omega arith) ∙ rw k in
      ap (λ n. ahead out (raised ns n) bs n) u ∙ ap (λ xs. ahead out xs bs (suc d)) up ∙ ahead_raised d h lt)
      (λ (le : get_or bs d 0 ≤ get_or ns d 0). ap (λ n. ahead out (raised ns n) bs n) (unspent_less ns bs d le) ∙ ahead_turned d (omega arith) ∙ sym (after_spent d le))
      (cases_lt (get_or ns d 0) (get_or bs d 0))

  -- the list tried, by its last number
  tried : (d : ℕ) → d < length ns → take (suc d) ns ≡ take d ns ++ get_or ns d 0 ∷ []
  tried d h = ap (λ k. take k ns) (sym (add-one d)) ∙ take_more ns d 0 h

  ahead_open : (d b : ℕ) → d < length ns → out (take (suc d) ns) ≡ Open b → ahead out ns bs (suc d) ≡ level out (63 - d) (take (suc d) ns) b ++ after out ns bs (suc d)
  ahead_open d b h e =
      let t = tried d h in
      let below = level out (63 - d) in
      let k = get_or bs d 0 - get_or ns d 0 in
      let n = get_or ns d 0 in
      ahead_suc d
      ∙ ap (λ x. x ++ after out ns bs d) (scan_at out below (take d ns) k n (Open b) (ap out (sym t) ∙ e))
      ∙ append_assoc (below (take d ns ++ n ∷ []) b) (scan out below (take d ns) k (suc n)) (after out ns bs d)
      ∙ ap (λ s. below s b ++ (scan out below (take d ns) k (suc n) ++ after out ns bs d)) (sym t)
      ∙ ap (λ x. below (take (suc d) ns) b ++ x) (sym (after_suc d))

  past_after : (d : ℕ) (e : Ending)
      → past e (scan out (level out (63 - d)) (take d ns) (get_or bs d 0 - get_or ns d 0) (suc (get_or ns d 0))) ++ after out ns bs d ≡ after out ns bs (left_depth e (suc d))
  past_after d Failed = ap (after out ns bs) (let z : d ≡ suc d - 1 = omega arith in z)
  past_after d Cut = sym (after_suc d)
  past_after d Full = sym (after_suc d)

  leaf_suc : (d : ℕ) (e : Ending) → d < length ns → out (take (suc d) ns) ≡ Ended e → ahead out ns bs (suc d) ≡ take (suc d) ns ∷ after out ns bs (left_depth e (suc d))
  leaf_suc d e h x =
      let t = tried d h in
      ahead_suc d
      ∙ ap (λ r. r ++ after out ns bs d) (scan_at out (level out (63 - d)) (take d ns) (get_or bs d 0 - get_or ns d 0) (get_or ns d 0) (Ended e) (ap out (sym t) ∙ x))
      ∙ ap (λ r. (take d ns ++ get_or ns d 0 ∷ []) ∷ r) (past_after d e)
      ∙ ap (λ p. p ∷ after out ns bs (left_depth e (suc d))) (sym t)

  -- a list that ends is the next leaf
  pub ahead_leaf : (d : ℕ) (e : Ending) → 0 < d → d ≤ length ns → out (take d ns) ≡ Ended e → ahead out ns bs d ≡ take d ns ∷ after out ns bs (left_depth e d)
  ahead_leaf zero e p h x = absurd (let z : ⊥ = omega arith in z)
  ahead_leaf (suc d) e p h x = leaf_suc d e h x

  -- from an open list there is a leaf ahead
  pub ahead_some : Lawful out → (d : ℕ) → 0 < d → d ≤ 64 → 64 ≤ length ns → 0 < length (ahead out ns bs d)
  unfolding ahead scan
  ahead_some laws zero p le len = absurd (let z : ⊥ = omega arith in z)
  ahead_some laws (suc d) p le len =
      let below = level out (63 - d) in
      let s = take d ns ++ get_or ns d 0 ∷ [] in
      let more = scan out below (take d ns) (get_or bs d 0 - get_or ns d 0) (suc (get_or ns d 0)) in
      let first : 0 < length (here below s more (out s)) = here_some out below s more (out s) (λ c x. level_some out laws (63 - d) s c (omega (arith, length-append (take d ns) (get_or ns d 0 ∷ []), length-take-le d ns (omega arith))) x) in
      omega (arith, length-append (here below s more (out s)) (after out ns bs d), first)

module _ (out : List ℕ → Outcome) (ns bs : List ℕ) where
  pushed_suc : (d b : ℕ) → suc d < length ns → suc d < length bs → suc d < 64
      → ahead out (set ns (suc d) 0) (set bs (suc d) b) (suc (suc d)) ≡ level out (63 - d) (take (suc d) ns) b ++ after out ns bs (suc d)
  pushed_suc d b hn hb hd =
      let f : 63 - d ≡ suc (63 - suc d) = omega arith in
      let z : b - 0 ≡ b = omega arith in
      ahead_suc out (set ns (suc d) 0) (set bs (suc d) b) (suc d)
      ∙ rw (get_or-set_same ns (suc d) 0 0 hn, get_or-set_same bs (suc d) b 0 hb, take-set ns (suc d) 0, after_set out ns bs (suc d) 0 b (suc d) (omega arith), z, f, level_suc out (63 - suc d) (take (suc d) ns) b)

  -- one level more, where the list is open
  pub ahead_pushed : (d b : ℕ) → 0 < d → d < length ns → d < length bs → d < 64 → out (take d ns) ≡ Open b → ahead out (set ns d 0) (set bs d b) (d + 1) ≡ ahead out ns bs d
  ahead_pushed zero b p hn hb hd e = absurd (let z : ⊥ = omega arith in z)
  ahead_pushed (suc d) b p hn hb hd e =
      ap (ahead out (set ns (suc d) 0) (set bs (suc d) b)) (add-one (suc d)) ∙ pushed_suc d b hn hb hd ∙ sym (ahead_open out ns bs d b (omega arith) e)
