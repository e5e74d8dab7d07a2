-- What is said, from what the calls answer.
use Rattle.std.proofs.Common.{◌≡◌, ℕ, ◌≤◌, Bool, true, false, ◌&&◌, leb, List, length, get_or, drop, is_ok, IfOk, Ok, Err, Result, sym, refl, ap, ◌∙◌, inl, inr, arith}
use Rattle.std.proofs.lemmas.Bool.{cases_lt, le-leb, lt-leb, cond-true, cond-false}
use Rattle.hosts.specs.Knowns.{kind_of}
use Rattle.kinds.specs.Meaning.{Meaning}
use Rattle.records.specs.declared.refusal.LoadError.{LoadError}
use Rattle.records.specs.declared.refusal.Refusal.{Refusal}
use Rattle.records.specs.declared.refusal.Refusal.TheVariants.{BufferShort, Rounds}
use Rattle.records.specs.Lines.{Bytes}
use Rattle.records.specs.Numbers.{number}
use Rattle.records.specs.Wrote.{counted}
use Rattle.questions.specs.Answer.{Answer, accepted}
use Rattle.questions.specs.Question.{question}
use Rattle.tables.specs.Program.{decoded}
use Rattle.tables.proofs.Wells.{well}
use Rattle.sections.specs.Digits.{two_digits}
use Rattle.sections.specs.Emitted.{emitted}
use Rattle.sections.proofs.Longs.{emitted_few}
use Rattle.takeaways.specs.Replies.{Taken, rounds_asked, taken, after_rounds, after_load, carried, answered, left_in, spoken, said}

module _ (k : Meaning) (r : ℕ) (f : List ℕ) where
  abbrev file : List ℕ
  file = emitted k.byte (decoded f) r

  pub load_refused : (e : LoadError) → ◌≡◌ {A = Answer} (Err e) (question k f) → Err e.refusal ≡ carried k r f
  unfolding carried
  load_refused e q = ap (λ a. after_load a (after_rounds (rounds_asked r) file)) q

  pub rounds_refused : (e : Refusal) → ◌≡◌ {A = Answer} accepted (question k f) → Err e ≡ rounds_asked r → Err e ≡ carried k r f
  unfolding carried
  rounds_refused e q a = ap (λ b. after_rounds b file) a ∙ ap (λ b. after_load b (after_rounds (rounds_asked r) file)) q

  pub carried_whole : ◌≡◌ {A = Answer} accepted (question k f) → Ok tt ≡ rounds_asked r → Ok file ≡ carried k r f
  unfolding carried
  carried_whole q a = ap (λ b. after_rounds b file) a ∙ ap (λ b. after_load b (after_rounds (rounds_asked r) file)) q

-- at most as many bytes as the largest file has
abbrev pub Few : Taken → Type 0
Few (Ok bs) = length bs ≤ 22110
Few (Err e) = Unit {0}

few_if : (a : Result (Unit {0}) Refusal) (bs : List ℕ) → (a ≡ Ok tt → length bs ≤ 22110) → Few (after_rounds a bs)
few_if (Ok u) bs h = h refl
few_if (Err e) bs h = tt

neither : (a : Bool) → (a && false) ≡ false
neither true = refl
neither false = refl

at_most : (r : ℕ) → rounds_asked r ≡ Ok tt → r ≤ 8
at_most r a =
    elim (cases_lt 8 r) [
      | inl h ↦
          let n : (leb 1 r && leb r 8) ≡ false = ap (λ x. leb 1 r && x) (lt-leb r 8 h) ∙ neither (leb 1 r) in
          let b : rounds_asked r ≡ Err Rounds = cond-false _ _ _ n in
          let z : ◌≡◌ {A = ℕ} 0 1 = cc (a, b) in
          absurd (omega arith)
      | inr h ↦ h
    ]

module _ (k : Meaning) (r : ℕ) (f : List ℕ) (bytes : Bytes f) where
  rounds_few : question k f ≡ accepted → Few (after_rounds (rounds_asked r) (emitted k.byte (decoded f) r))
  rounds_few q = few_if (rounds_asked r) _ (λ a. emitted_few k (decoded f) r (well k f bytes q) (at_most r a))

  load_few : (a : Answer) → question k f ≡ a → Few (after_load a (after_rounds (rounds_asked r) (emitted k.byte (decoded f) r)))
  load_few (Ok u) q = rounds_few q
  load_few (Err e) q = tt

  pub carried_few : Few (carried k r f)
  unfolding carried
  carried_few = load_few (question k f) refl

module _ (out out₁ : List ℕ) where
  -- a refusal, with nothing written
  pub wrote_none : (t : Taken) (e : Refusal) → ◌≡◌ {A = Result ℕ Refusal} (Err e) (answered out t) → out₁ ≡ left_in out t → (out₁ ≡ out) × (two_digits (number e) ≡ said out t)
  wrote_none (Ok bs) e a b =
      elim (cases_lt (length out) (length bs)) [
        | inl h ↦
            let l = lt-leb (length bs) (length out) h in
            let f = a ∙ cond-false _ _ _ l in
            let m : e ≡ BufferShort = cc f in
            (b ∙ cond-false _ _ _ l, ap (λ x. two_digits (number x)) m ∙ sym (cond-false _ _ _ l))
        | inr h ↦
            let f = a ∙ cond-true _ _ _ (le-leb (length bs) (length out) h) in
            let z : ◌≡◌ {A = ℕ} 0 1 = cc f in
            absurd (omega arith)
      ]
  wrote_none (Err x) e a b = let m : e ≡ x = cc a in (b, ap (λ y. two_digits (number y)) m)

  pub said_whole : (t : Taken) → Few t → 22110 ≤ length out → said out t ≡ spoken t
  said_whole (Ok bs) few h = cond-true _ _ _ (le-leb (length bs) (length out) (omega arith))
  said_whole (Err e) few h = refl

-- the answer of a call that writes some bytes
module _ (out bs : List ℕ) where
  pub counted_within : (r : Result ℕ Refusal) → r ≡ counted out bs → IfOk r (λ n. n ≤ length out)
  counted_within (Ok n) e =
      elim (cases_lt (length out) (length bs)) [
        | inl h ↦
            let f = e ∙ cond-false _ _ _ (lt-leb (length bs) (length out) h) in
            let z : ◌≡◌ {A = ℕ} 0 1 = cc f in
            absurd (omega arith)
        | inr h ↦
            let f = e ∙ cond-true _ _ _ (le-leb (length bs) (length out) h) in
            let m : n ≡ length bs = cc f in
            omega arith
      ]
  counted_within (Err e) q = tt

  pub counted_some : length bs ≤ length out → is_ok (counted out bs) ≡ true
  counted_some h = ap is_ok (cond-true _ _ _ (le-leb (length bs) (length out) h))

pub taken_by : (input f : List ℕ) (k : ℕ) → k ≡ get_or input 0 0 → f ≡ drop 1 input → carried (kind_of f) k f ≡ taken input
taken_by input f k ek ef = ap (λ r. carried (kind_of f) r f) ek ∙ ap (λ g. carried (kind_of g) (get_or input 0 0) g) ef
