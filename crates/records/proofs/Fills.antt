-- A call that fills the front of a buffer, where there is room and where there is none.
use Rattle.std.proofs.Common.{◌≡◌, ℕ, ◌+◌, ◌≤◌, leb, List, ◌++◌, length, drop, Ok, Err, Result, sym, ap, ◌∙◌, inl, inr, arith}
use Rattle.std.proofs.lemmas.Bool.{cases_lt, lt-leb, le-leb, cond-true, cond-false}
use Rattle.records.specs.declared.refusal.Refusal.{Refusal}
use Rattle.records.specs.declared.refusal.Refusal.TheVariants.{BufferShort}
use Rattle.records.specs.Wrote.{wrote, counted, filled, room_for}

pub no_room : (out bs : List ℕ) (n : ℕ) (e : Refusal) → n ≡ length bs → ◌≡◌ {A = Result (Unit {0}) Refusal} (Err e) (room_for n (length out)) → (Err e ≡ counted out bs) × (out ≡ filled out bs)
no_room out bs n e l q =
    elim (cases_lt (length out) n) [
      | inl h ↦
          let s : leb n (length out) ≡ leb (length bs) (length out) = ap (λ m. leb m (length out)) l in
          let b = lt-leb (length bs) (length out) (omega arith) in
          let f = q ∙ cond-false (leb n (length out)) (Ok tt) (Err BufferShort) (s ∙ b) in
          let r : e ≡ BufferShort = cc f in
          (ap (λ x. Err x) r ∙ sym (cond-false (leb (length bs) (length out)) (Ok (length bs)) (Err BufferShort) b), sym (cond-false (leb (length bs) (length out)) (bs ++ drop (length bs) out) out b))
      | inr h ↦
          let f = q ∙ cond-true (leb n (length out)) (Ok tt) (Err BufferShort) (le-leb n (length out) h) in
          cc f
    ]

pub has_room : (n len : ℕ) → ◌≡◌ {A = Result (Unit {0}) Refusal} (Ok tt) (room_for n len) → n ≤ len
has_room n len q =
    elim (cases_lt len n) [
      | inl h ↦ let f = q ∙ cond-false (leb n len) (Ok tt) (Err BufferShort) (lt-leb n len h) in cc f
      | inr h ↦ h
    ]

pub fills : (out bs : List ℕ) (n : ℕ) → n ≡ length bs → n ≤ length out → (Ok n ≡ counted out bs) × (wrote out 0 bs ≡ filled out bs)
fills out bs n e h =
    let l = le-leb (length bs) (length out) (omega arith) in
    let z : 0 + length bs ≡ length bs = omega arith in
    (ap (λ m. Ok m) e ∙ sym (cond-true (leb (length bs) (length out)) (Ok (length bs)) (Err BufferShort) l), ap (λ m. bs ++ drop m out) z ∙ sym (cond-true (leb (length bs) (length out)) (bs ++ drop (length bs) out) out l))
