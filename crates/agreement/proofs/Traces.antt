-- One slot by count and by label: the numbers that stay open or are full, and the least that fails, correspond in order.
use Rattle.std.proofs.Common.{◌≡◌, ℕ, zero, suc, ◌+◌, ◌-◌, ◌<◌, ◌≤◌, List, [], ◌∷◌, ◌++◌, sym, refl, ap, ◌∙◌, subst, append_assoc, arith, Ok, Err}
use Rattle.std.specs.List.{AllZip}
use Rattle.std.proofs.lemmas.List.{append-nil}
use Rattle.kinds.specs.Meaning.{Meaning}
use Rattle.states.specs.declared.state.State.{State}
use Rattle.states.specs.States.{label}
use Rattle.tables.specs.Program.{Program, size}
use Rattle.tables.specs.WellFormed.{WellFormed}
use Rattle.walks.specs.declared.outcome.Ending.TheVariants as ending
use Rattle.walks.specs.declared.outcome.Outcome.{Outcome}
use Rattle.walks.specs.declared.outcome.Outcome.TheVariants.{Open, Ended}
use Rattle.walks.specs.Leaves.{scan}
use Rattle.reports.specs.Stops.{End}
use Rattle.reports.specs.declared.stop.Stop.TheVariants.{Failed, Cut}
use Rattle.threads.specs.Plays.{rounds, serve, bound, thread, cells_of}
use Rattle.threads.specs.Slots.{Ran, run}
use Rattle.guesses.specs.Answers.{Answer, played_so}
use Rattle.guesses.specs.Paces.{until, pace, paces}
use Rattle.agreement.proofs.Steps.{Later, Left, width, leaves_next}
use Rattle.guesses.specs.Slots.{behind, outcome, run_next, run_none, until_next, until_at, until_past}
use Rattle.agreement.proofs.Pairs.{Rows, Agree, kept, cut_run, all_cut, agree_both, agree_fail}
use Rattle.guesses.specs.Rules.{none_left, no_counts}
use Rattle.agreement.proofs.Stands.{Same, Stand, counted, counted_more, over}

module _ (k : Meaning) (p : Program) (w : WellFormed k p) (A₁ A₂ : List ℕ → Answer) (below₁ below₂ : List ℕ → ℕ → Rows) (i : ℕ) (rest : List ℕ) (s₀ : State) (l₁ l₂ : List ℕ) where
  abbrev out₁ : List ℕ → Outcome
  out₁ l = (A₁ l).outcome

  abbrev out₂ : List ℕ → Outcome
  out₂ l = (A₂ l).outcome

  abbrev Fit : Rows → Rows → Type 0
  Fit = Agree (Same A₁ A₂) out₁ out₂

  abbrev base : ℕ
  base = label s₀ i

  abbrev top : ℕ
  top = bound p s₀ i

  abbrev by_count : ℕ → ℕ → State → Ran
  by_count n d s = run k p (thread i) n d s

  abbrev by_label : ℕ → ℕ → ℕ → State → Ran
  by_label cs n d s = until k p (thread i) cs n d s

  -- after j statements of the slot the thread stands g labels on
  record Along (j g : ℕ) (s : State) : Type 0 where
    wide : width s ≡ width s₀
    at : label s i ≡ base + g
    low : j ≤ g
    within : g ≤ top
    ran₁ : (m : ℕ) → by_count (j + m) 0 s₀ ≡ by_count m j s
    ran₂ : (cs f : ℕ) → label s i ≤ cs → by_label cs (j + f) 0 s₀ ≡ by_label cs f j s

  module _ (has : i < width s₀)
      (on₁ : (n : ℕ) (m : List ℕ) → n ≤ top → A₁ (l₁ ++ n ∷ m) ≡ counted l₁ (over p (by_count n 0 s₀) (λ s. rounds k p rest s m)))
      (on₂ : (g : ℕ) (m : List ℕ) → g ≤ top → A₂ (l₂ ++ g ∷ m) ≡ counted l₁ (over p (by_label (base + g) g 0 s₀) (λ s. paces k p rest s m)))
      (deep : (s : State) (m₁ m₂ : List ℕ) (b : ℕ) → width s ≡ width s₀ → Stand k p A₁ A₂ rest s m₁ m₂ → out₁ m₁ ≡ Open b → out₂ m₂ ≡ Open b → Fit (below₁ m₁ b) (below₂ m₂ b)) where
    module _ (j g : ℕ) (s : State) (along : Along j g s) where
      -- what the number u comes to by count, if the rest of the slot does this; and by label
      count_from : (u n : ℕ) (m : List ℕ) (r : Ran) → u ≤ top → u ≡ j + n → by_count n j s ≡ r → A₁ (l₁ ++ u ∷ m) ≡ counted l₁ (over p r (λ s. rounds k p rest s m))
      count_from u n m r le e q = on₁ u m le ∙ ap (λ r. counted l₁ (over p r (λ s. rounds k p rest s m))) (ap (λ n. by_count n 0 s₀) e ∙ along.ran₁ n ∙ q)

      label_from : (u n : ℕ) (m : List ℕ) (r : Ran) → g ≤ u → u ≤ top → u ≡ j + n → by_label (base + u) n j s ≡ r → A₂ (l₂ ++ u ∷ m) ≡ counted l₁ (over p r (λ s. paces k p rest s m))
      label_from u n m r lo le e q =
          on₂ u m le ∙ ap (λ r. counted l₁ (over p r (λ s. paces k p rest s m))) (ap (λ n. by_label (base + u) n 0 s₀) e ∙ along.ran₂ (base + u) n (omega (arith, along.at)) ∙ q)

      done₁ : (m : List ℕ) → A₁ (l₁ ++ j ∷ m) ≡ counted (l₁ ++ j ∷ []) (played_so p (rounds k p rest s m))
      done₁ m = count_from j 0 m _ (omega (arith, along.low, along.within)) (omega arith) (run_none k p i s j) ∙ counted_more l₁ j (played_so p (rounds k p rest s m))

      done₂ : (m : List ℕ) → A₂ (l₂ ++ g ∷ m) ≡ counted (l₁ ++ j ∷ []) (played_so p (paces k p rest s m))
      done₂ m = label_from g (g - j) m _ (omega arith) along.within (omega (arith, along.low)) (until_at k p i s (base + g) (g - j) j along.at) ∙ counted_more l₁ j (played_so p (paces k p rest s m))

      stand : Stand k p A₁ A₂ rest s (l₁ ++ j ∷ []) (l₂ ++ g ∷ [])
      stand = record {
        on₁ = λ m. ap A₁ (append_assoc l₁ (j ∷ []) m) ∙ done₁ m;
        on₂ = λ m. ap A₂ (append_assoc l₂ (g ∷ []) m) ∙ done₂ m;
      }

      same : Same A₁ A₂ (l₁ ++ j ∷ []) (l₂ ++ g ∷ [])
      same = (
        done₁ [] ∙ ap (λ r. counted (l₁ ++ j ∷ []) (played_so p r)) (none_left (serve k p) (pace k p) (bound p) rest s) ∙ sym (done₂ []),
        ap (λ (a : Answer). a.counts) (done₂ []) ∙ ap (λ cs. (l₁ ++ j ∷ []) ++ cs) (no_counts (pace k p) (bound p) rest s) ∙ append-nil (l₁ ++ j ∷ []),
      )

      -- the number j by count and g by label are a pair: what follows it is left
      pair : (kk jj : ℕ) → Fit (scan out₁ below₁ l₁ kk (suc j)) (scan out₂ below₂ l₂ jj (suc g)) → Fit (scan out₁ below₁ l₁ (suc kk) j) (scan out₂ below₂ l₂ (suc jj) g)
      pair kk jj =
          let e : out₁ (l₁ ++ j ∷ []) ≡ out₂ (l₂ ++ g ∷ []) = ap (λ (a : Answer). a.outcome) same.0 in
          agree_both (Same A₁ A₂) out₁ out₂ below₁ below₂ l₁ l₂ kk jj j g (out₂ (l₂ ++ g ∷ [])) e refl same (λ c o. deep s (l₁ ++ j ∷ []) (l₂ ++ g ∷ []) c along.wide stand (e ∙ o) o)

      -- the state behind the statement that is due
      abbrev s⁺ : State
      s⁺ = behind k p i s

      -- that fails
      failed : (kk jj : ℕ) → outcome k p i s ≡ (Err Failed) → label s i < size p i → j + kk ≡ top → g + jj ≡ top → Fit (scan out₁ below₁ l₁ kk (suc j)) (scan out₂ below₂ l₂ jj (suc g))
      failed zero jj e lt ek ej = absurd (let z : ⊥ = omega (arith, along.at, along.low) in z)
      failed (suc kk) zero e lt ek ej = absurd (let z : ⊥ = omega (arith, along.at, along.low) in z)
      failed (suc kk) (suc jj) e lt ek ej =
          let a : Answer = record { outcome = Ended ending.Failed; counts = l₁ ++ suc j ∷ []; cells = cells_of p s⁺ } in
          let a₁ : A₁ (l₁ ++ suc j ∷ []) ≡ a = count_from (suc j) 1 [] _ (omega arith) (omega arith) (run_next k p i s 0 j (Err Failed) e) in
          let a₂ : A₂ (l₂ ++ suc g ∷ []) ≡ a = label_from (suc g) (suc (g - j)) [] _ (omega arith) (omega arith) (omega (arith, along.low)) (until_next k p i s (base + suc g) (g - j) j (Err Failed) (omega (arith, along.at)) e) in
          agree_fail (Same A₁ A₂) out₁ out₂ below₁ below₂ l₁ l₂ kk jj (suc j) (suc g) (ap (λ (a : Answer). a.outcome) a₁) (ap (λ (a : Answer). a.outcome) a₂) (a₁ ∙ sym a₂, ap (λ (a : Answer). a.counts) a₂)

      -- it blocks, or there is none
      blocked : (kk jj : ℕ) → outcome k p i s ≡ (Err Cut) → j + kk ≡ top → g + jj ≡ top → Fit (scan out₁ below₁ l₁ kk (suc j)) (scan out₂ below₂ l₂ jj (suc g))
      blocked kk jj e ek ej =
          let c₁ : (u : ℕ) → suc j ≤ u → u < suc j + kk → out₁ (l₁ ++ u ∷ []) ≡ Ended ending.Cut =
          λ u a b. ap (λ (a : Answer). a.outcome) (count_from u (suc (u - suc j)) [] _ (omega arith) (omega arith) (run_next k p i s (u - suc j) j (Err Cut) e)) in
          let c₂ : (u : ℕ) → suc g ≤ u → u < suc g + jj → out₂ (l₂ ++ u ∷ []) ≡ Ended ending.Cut =
          λ u a b. ap (λ (a : Answer). a.outcome) (label_from u (suc (u - suc j)) [] _ (omega arith) (omega arith) (omega (arith, along.low)) (until_next k p i s (base + u) (u - suc j) j (Err Cut) (omega (arith, along.at)) e)) in
          rw (all_cut out₁ below₁ l₁ kk (suc j) c₁, all_cut out₂ below₂ l₂ jj (suc g) c₂) tt

      module _ (e : outcome k p i s ≡ (Ok tt)) (later : Later p i s s⁺) where
        -- how far on the thread then stands
        abbrev g⁺ : ℕ
        g⁺ = label s⁺ i - base

        farther : Along (suc j) g⁺ s⁺
        farther = record {
          wide = later.wide ∙ along.wide;
          at = omega (arith, later.up, along.at);
          low = omega (arith, later.up, along.at, along.low);
          within = omega (arith, later.in_text);
          ran₁ = λ m.
              let z : suc j + m ≡ j + suc m = omega arith in
              ap (λ n. by_count n 0 s₀) z ∙ along.ran₁ (suc m) ∙ run_next k p i s m j (Ok tt) e;
          ran₂ = λ cs f h.
              let z : suc j + f ≡ j + suc f = omega arith in
              let lt : label s i < cs = omega (arith, later.up) in
              ap (λ n. by_label cs n 0 s₀) z ∙ along.ran₂ cs (suc f) (omega arith) ∙ until_next k p i s cs f j (Ok tt) lt e;
        }

        -- the labels jumped over cut
        between : (u : ℕ) → suc g ≤ u → u < g⁺ → out₂ (l₂ ++ u ∷ []) ≡ Ended ending.Cut
        between u a b =
            ap (λ (a : Answer). a.outcome)
            (label_from u (suc (u - suc j)) [] _ (omega arith) (omega (arith, later.in_text)) (omega (arith, along.low))
            (until_next k p i s (base + u) (u - suc j) j (Ok tt) (omega (arith, along.at)) e ∙ until_past k p i s⁺ (base + u) (u - suc j) (suc j) (omega arith)))

      abbrev Rest : Type 0
      Rest =
          (s' : State) (g' kk' jj' : ℕ) → label s i < label s' i → label s' i ≤ size p i → Along (suc j) g' s' → suc j + kk' ≡ top → g' + jj' ≡ top
          → Fit (scan out₁ below₁ l₁ (suc kk') (suc j)) (scan out₂ below₂ l₂ (suc jj') g')

      onward : (kk jj : ℕ) (o : End) → outcome k p i s ≡ o → Left k p i s s⁺ o → j + kk ≡ top → g + jj ≡ top → Rest
          → Fit (scan out₁ below₁ l₁ kk (suc j)) (scan out₂ below₂ l₂ jj (suc g))
      onward kk jj (Err Failed) e a ek ej rec = failed kk jj e a ek ej
      onward kk jj (Err Cut) e a ek ej rec = blocked kk jj e ek ej
      onward zero jj (Ok tt) e a ek ej rec = absurd (let z : ⊥ = omega (arith, along.at, along.low, a.up, a.in_text) in z)
      onward (suc kk) jj (Ok tt) e a ek ej rec =
          let n : ℕ = g⁺ e a in
          let c : ℕ = n - suc g in
          let jj⁺ : ℕ = top - n in
          let size_jj : jj ≡ c + suc jj⁺ = omega (arith, along.at, a.up, a.in_text) in
          let from : suc g + c ≡ n = omega (arith, along.at, a.up) in
          let cuts : kept out₂ (scan out₂ below₂ l₂ jj (suc g)) ≡ kept out₂ (scan out₂ below₂ l₂ (suc jj⁺) n) =
          ap (λ m. kept out₂ (scan out₂ below₂ l₂ m (suc g))) size_jj
          ∙ cut_run out₂ below₂ l₂ c (suc jj⁺) (suc g) (λ u lo hi. between e a u lo (omega arith))
          ∙ ap (λ m. kept out₂ (scan out₂ below₂ l₂ (suc jj⁺) m)) from in
          subst (AllZip (Same A₁ A₂) (kept out₁ (scan out₁ below₁ l₁ (suc kk) (suc j)))) (sym cuts)
          (rec s⁺ n kk jj⁺ a.up a.in_text (farther e a) (omega arith) (omega (arith, along.at, a.up, a.in_text)))

      -- of the statement that is due
      left : Left k p i s s⁺ (outcome k p i s)
      left = leaves_next k p i s (omega (arith, has, along.wide)) w

    -- The numbers from a pair on correspond. The labels rise to the size of the text, so h statements more are enough.
    claim : (h j g : ℕ) (s : State) → Along j g s → size p i < label s i + h → (kk jj : ℕ) → j + kk ≡ top → g + jj ≡ top
        → Fit (scan out₁ below₁ l₁ (suc kk) j) (scan out₂ below₂ l₂ (suc jj) g)
    claim zero j g s along fuel kk jj ek ej =
        pair j g s along kk jj (onward j g s along kk jj (outcome k p i s) refl (left j g s along) ek ej (λ s' g' kk' jj' lt le more xk xj. absurd (let z : ⊥ = omega arith in z)))
    claim (suc h) j g s along fuel kk jj ek ej =
        pair j g s along kk jj (onward j g s along kk jj (outcome k p i s) refl (left j g s along) ek ej (λ s' g' kk' jj' lt le more xk xj. claim h (suc j) g' s' more (omega arith) kk' jj' xk xj))

    -- the whole slot
    pub slot : Fit (scan out₁ below₁ l₁ (suc top) 0) (scan out₂ below₂ l₂ (suc top) 0)
    slot =
        claim (suc (size p i)) 0 0 s₀
        (record {
          wide = refl;
          at = omega arith;
          low = omega arith;
          within = omega arith;
          ran₁ = λ m. (let z : 0 + m ≡ m = omega arith in ap (λ n. by_count n 0 s₀) z);
          ran₂ = λ cs f h. (let z : 0 + f ≡ f = omega arith in ap (λ n. by_label cs n 0 s₀) z);
        })
        (omega arith) top top (omega arith) (omega arith)
