-- A call that walks on: refused, or by so many leaves.
use Rattle.std.proofs.Common.{◌≡◌, ℕ, ◌+◌, ◌<◌, ◌≤◌, min, Bool, true, false, cond, leb, List, Some, None, Ok, Err, Option, sym, refl, ap, ◌∙◌, ap₂, ⊎_elim, arith}
use Rattle.std.proofs.lemmas.Bool.{cases_lt, lt-leb, le-leb, lt-ltb, le-ltb}
use Rattle.records.specs.declared.refusal.Refusal.{Refusal}
use Rattle.reports.specs.Reports.{answered, unless}
use Rattle.walks.specs.declared.counts.Counts.{Counts}
use Rattle.walks.specs.declared.outcome.Outcome.{Outcome}
use Rattle.walks.specs.declared.walk.Answer.{Answer}
use Rattle.walks.specs.declared.walk.Answer.TheVariants.{Done, Spent}
use Rattle.walks.specs.declared.walk.Walk.{Walk}
use Rattle.walks.specs.Counts.{tally_counts}
use Rattle.walks.specs.Runs.{Lawful}
use Rattle.walks.specs.Tallies.{visited}
use Rattle.walks.specs.Walks.{Tied, Advanced, answer_at}
use Rattle.walks.proofs.Advances.{answers}
use Rattle.reports.specs.Counts.{yes_or, over, limit_no, visits, total, counts_at, onward, walk_no, Walked}

-- a refusal, or none, from an answer to the questions
pub no_is : (o : Option Refusal) (e : Refusal) → Err e ≡ yes_or o → o ≡ Some e
no_is None e h = absurd (let z : ◌≡◌ {A = ℕ} 0 1 = cc in omega arith)
no_is (Some x) e h = let same : e ≡ x = cc in ap Some (sym same)

pub none_is : (o : Option Refusal) → Ok tt ≡ yes_or o → o ≡ None
none_is None h = refl
none_is (Some x) h = absurd (let z : ◌≡◌ {A = ℕ} 0 1 = cc in omega arith)

-- a flag that answers as the leaves do
flag_is : (b : Bool) (v n : ℕ) → cond b Done Spent ≡ answer_at v n → b ≡ leb n v
flag_is b v n e =
    ⊎_elim
    (λ (lt : v < n). spent b (e ∙ ap (λ c. cond c Spent Done) (lt-ltb v n lt)) ∙ sym (lt-leb n v lt))
    (λ (le : n ≤ v). done b (e ∙ ap (λ c. cond c Spent Done) (le-ltb v n le)) ∙ sym (le-leb n v le))
    (cases_lt v n)
  where
    spent : (b : Bool) → cond b Done Spent ≡ Spent → b ≡ false
    spent true h = absurd (let z : ◌≡◌ {A = ℕ} 0 1 = cc in omega arith)
    spent false h = refl

    done : (b : Bool) → cond b Done Spent ≡ Done → b ≡ true
    done true h = refl
    done false h = absurd (let z : ◌≡◌ {A = ℕ} 0 1 = cc in omega arith)

-- none is visited where none is left
visits_onward : (v n b : ℕ) → v ≤ n → min (v + visits (leb n v) b) n ≡ min (v + b) n
visits_onward v n b le =
    ⊎_elim
    (λ (lt : v < n). ap (λ c. min (v + visits c b) n) (lt-leb n v lt))
    (λ (ge : n ≤ v). ap (λ c. min (v + visits c b) n) (le-leb n v ge) ∙ (let z : min (v + 0) n ≡ min (v + b) n = omega arith in z))
    (cases_lt v n)

module _ {P : Type 0} (out : List ℕ → Outcome) (stands : P → List ℕ → Type 0) (laws : Lawful out) (w : Walk P) (t : Tied out stands w) (b : ℕ) where
  abbrev v : ℕ
  v = visited w.tally

  over_is : over w ≡ leb (total out) v
  over_is = flag_is (over w) v (total out) (answers out stands w 0 laws w (cond (over w) Done Spent) (omega arith) t refl).answer

  asked_is : limit_no (over w) v b ≡ walk_no out v b
  asked_is = ap (λ d. limit_no d v b) over_is

  pub refused : (e : Refusal) → Err e ≡ yes_or (limit_no (over w) v b) → Walked out stands w b w (Err e)
  refused e h =
      let no : walk_no out v b ≡ Some e = sym asked_is ∙ no_is (limit_no (over w) v b) e h in
      record {
        tied = t;
        answer = sym (ap (λ o. answered o (counts_at out (onward out v b))) no);
        visited = sym (ap (λ o. unless o (onward out v b) v) no);
      }

  abbrev counts_so : ℕ → Answer → (f c u : ℕ) → Counts
  counts_so n a f c u = record { answer = a; visited = n; failed = f; cut = c; full = u }

  pub walked : (x : Walk P) (n : ℕ) (a : Answer) (c : Counts) → Ok tt ≡ yes_or (limit_no (over w) v b) → n ≡ visits (over w) b → Advanced out stands w x n a → c ≡ tally_counts a x.tally → Walked out stands w b x (Ok c)
  walked x n a c h en adv e =
      let none : walk_no out v b ≡ None = sym asked_is ∙ none_is (limit_no (over w) v b) h in
      let came : visited x.tally ≡ onward out v b = adv.moved ∙ ap (λ m. min (v + m) (total out)) (en ∙ ap (λ d. visits d b) over_is) ∙ visits_onward v (total out) b t.counted.within in
      let all = counts_at out (visited x.tally) in
      let told = adv.tied.counted in
      let whole : tally_counts a x.tally ≡ all =
      ap₂ (λ a f. counts_so (visited x.tally) a f x.tally.cut x.tally.full) adv.answer told.failed ∙ ap₂ (λ c u. counts_so (visited x.tally) all.answer all.failed c u) told.cut told.full in
      record {
        tied = adv.tied;
        answer = ap Ok (e ∙ whole ∙ ap (counts_at out) came) ∙ sym (ap (λ o. answered o (counts_at out (onward out v b))) none);
        visited = came ∙ sym (ap (λ o. unless o (onward out v b) v) none);
      }
