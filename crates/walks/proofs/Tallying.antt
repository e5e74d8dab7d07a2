-- One leaf more is counted.
use Rattle.std.proofs.Common.{◌≡◌, ℕ, suc, ◌+◌, ◌<◌, Bool, cond, List, [], length, get_or, take, Some, sym, refl, ap, ◌∙◌, add-one, arith}
use Rattle.std.proofs.lemmas.List.Sums.{sum_by_more}
use Rattle.walks.specs.declared.outcome.Ending.{Ending}
use Rattle.walks.specs.declared.outcome.Ending.TheVariants.{Failed, Cut, Full}
use Rattle.walks.specs.declared.outcome.Outcome.{Outcome}
use Rattle.walks.specs.declared.outcome.Outcome.TheVariants.{Ended}
use Rattle.walks.specs.declared.tally.Tally.{Tally}
use Rattle.walks.specs.Leaves.{leaves}
use Rattle.walks.specs.Paths.{Levels, list_of}
use Rattle.walks.specs.Tallies.{fails, cuts, fills, ends_so, count, latest, visited, Tallied, tallied, nothing, noted, found, Counted}

one : Bool → ℕ
one b = cond b 1 0

all : Tallied → ℕ
all s = s.failed + s.cut + s.full

-- what the tally has of a leaf that ends so
module _ (t : Tally) (p : Levels) where
  noted_all : (e : Ending) → all (noted t e p) ≡ visited t + 1
  unfolding all
  noted_all Failed = omega arith
  noted_all Cut = omega arith
  noted_all Full = omega arith

  pub noted_visited : (e : Ending) (u : Tally) → tallied u ≡ noted t e p → visited u ≡ visited t + 1
  unfolding all
  noted_visited e u same = ap all same ∙ noted_all e

  noted_failed : (e : Ending) → (noted t e p).failed ≡ t.failed + one (fails e)
  unfolding one
  noted_failed Failed = refl
  noted_failed Cut = omega arith
  noted_failed Full = omega arith

  noted_cut : (e : Ending) → (noted t e p).cut ≡ t.cut + one (cuts e)
  unfolding one
  noted_cut Failed = omega arith
  noted_cut Cut = refl
  noted_cut Full = omega arith

  noted_full : (e : Ending) → (noted t e p).full ≡ t.full + one (fills e)
  unfolding one
  noted_full Failed = omega arith
  noted_full Cut = omega arith
  noted_full Full = refl

  noted_found : (e : Ending) → (noted t e p).latest ≡ cond (fails e) (Some (record { position = visited t + 1; numbers = list_of p })) (found t)
  noted_found Failed = refl
  noted_found Cut = refl
  noted_found Full = refl

module _ (out : List ℕ → Outcome) (rows : List (List ℕ)) (v : ℕ) (s : List ℕ) (e : Ending) (at : get_or rows v [] ≡ s) (ends : out s ≡ Ended e) where
  count_more : (test : Ending → Bool) → v < length rows → count test out (take (v + 1) rows) ≡ count test out (take v rows) + one (test e)
  unfolding one
  count_more test lt = sum_by_more (λ x. one (ends_so test (out x))) rows v [] lt ∙ ap (λ x. count test out (take v rows) + one (ends_so test x)) (ap out at ∙ ends)

  latest_more : latest out rows (v + 1) ≡ cond (fails e) (Some (record { position = v + 1; numbers = s })) (latest out rows v)
  unfolding latest
  latest_more =
      let o : out (get_or rows v []) ≡ Ended e = ap out at ∙ ends in
      ap (latest out rows) (add-one v)
      ∙ ap (λ x. cond (ends_so fails x) (Some (record { position = suc v; numbers = get_or rows v [] })) (latest out rows v)) o
      ∙ ap (λ x. cond (fails e) (Some (record { position = suc v; numbers = x })) (latest out rows v)) at
      ∙ ap (λ n. cond (fails e) (Some (record { position = n; numbers = s })) (latest out rows v)) (sym (add-one v))

pub counted_none : (out : List ℕ → Outcome) (t : Tally) → tallied t ≡ nothing → Counted out t
unfolding latest
counted_none out t same =
    let none : visited t ≡ 0 = ap (λ (s : Tallied). s.failed + s.cut + s.full) same in
    let counts : (test : Ending → Bool) → 0 ≡ count test out (take (visited t) (leaves out)) = λ test. ap (λ n. count test out (take n (leaves out))) (sym none) in
    record {
      within = omega (arith, none);
      failed = ap (λ (s : Tallied). s.failed) same ∙ counts fails;
      cut = ap (λ (s : Tallied). s.cut) same ∙ counts cuts;
      full = ap (λ (s : Tallied). s.full) same ∙ counts fills;
      latest = ap (λ (s : Tallied). s.latest) same ∙ ap (latest out (leaves out)) (sym none);
    }

pub counted_one : (out : List ℕ → Outcome) (t u : Tally) (p : Levels) (e : Ending) → tallied u ≡ noted t e p → Counted out t → visited t < length (leaves out)
    → get_or (leaves out) (visited t) [] ≡ list_of p → out (list_of p) ≡ Ended e → Counted out u
counted_one out t u p e same c lt at ends =
    let xs = leaves out in
    let v = visited t in
    let next : visited u ≡ v + 1 = noted_visited t p e u same in
    let more : (test : Ending → Bool) → count test out (take v xs) + one (test e) ≡ count test out (take (visited u) xs) =
    λ test. sym (ap (λ n. count test out (take n xs)) next ∙ count_more out xs v (list_of p) e at ends test lt) in
    record {
      within = omega arith;
      failed = ap (λ (s : Tallied). s.failed) same ∙ noted_failed t p e ∙ ap (λ n. n + one (fails e)) c.failed ∙ more fails;
      cut = ap (λ (s : Tallied). s.cut) same ∙ noted_cut t p e ∙ ap (λ n. n + one (cuts e)) c.cut ∙ more cuts;
      full = ap (λ (s : Tallied). s.full) same ∙ noted_full t p e ∙ ap (λ n. n + one (fills e)) c.full ∙ more fills;
      latest =
          ap (λ (s : Tallied). s.latest) same
          ∙ noted_found t p e
          ∙ ap (λ x. cond (fails e) (Some (record { position = v + 1; numbers = list_of p })) x) c.latest
          ∙ sym (ap (latest out xs) next ∙ latest_more out xs v (list_of p) e at ends);
    }
