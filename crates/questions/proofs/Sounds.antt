-- What is due stays within the counts, and a record whose mark none has.
use Rattle.std.proofs.Common.{◌≡◌, ℕ, ◌+◌, ◌<◌, false, ◌||◌, ltb, List, refl}
use Rattle.kinds.specs.Meaning.{Meaning}
use Rattle.std.proofs.lemmas.Bool.{cond_both, ltb-true, or_parts}
use Rattle.questions.specs.declared.context.Context.{Context}
use Rattle.questions.specs.declared.context.Due.{Due}
use Rattle.questions.specs.declared.context.Due.TheVariants as due
use Rattle.questions.proofs.Verdicts.{asked_false}
use Rattle.records.specs.Lines.{pg, sc, th, st, known, body}
use Rattle.questions.specs.Asks.{asks, ask_header, ask_cell, ask_thread, ask_statement, unmarked}
use Rattle.questions.specs.Past.{bounded, passes, past, from_thread, from_cell, from_statement, begun, past_thread, past_statement, due_next, Sound}
use Rattle.records.specs.declared.refusal.Refusal.TheVariants as no

text_bounded : (x : Context) (i : ℕ) → bounded x (from_thread x.threads i)
text_bounded x i =
    cond_both (ltb i x.threads) (due.Thread i) due.End (bounded x) (ltb-true i x.threads) (λ _. tt)

cell_bounded : (x : Context) (i : ℕ) → bounded x (from_cell x.cells x.threads i)
cell_bounded x i =
    cond_both (ltb i x.cells) (due.Cell i) (from_thread x.threads 0) (bounded x) (ltb-true i x.cells) (λ _. text_bounded x 0)

statement_bounded : (x : Context) (n : ℕ) → x.thread < x.threads → bounded x (from_statement x.size x.threads x.thread n)
statement_bounded x n h =
    cond_both (ltb n x.size) (due.Statement n) (from_thread x.threads (x.thread + 1)) (bounded x) (λ e. (ltb-true n x.size e, h)) (λ _. text_bounded x (x.thread + 1))

passes_sound : (x : Context) (e : Due) (r : List ℕ) → x.due ≡ e → bounded x e → Sound (passes x e r)
passes_sound x due.Header r q h = cell_bounded (begun (body r)) 0
passes_sound x (due.Cell i) r q h = cell_bounded (due_next x (from_cell x.cells x.threads (i + 1))) (i + 1)
passes_sound x (due.Thread i) r q h = statement_bounded (past_thread x i (body r)) 0 h
passes_sound x (due.Statement n) r q h = statement_bounded (past_statement x n (body r)) (n + 1) h.1
passes_sound x due.End r q h = let P : Due → Type 0 = bounded x in rw q tt

pub past_sound : (x : Context) (r : List ℕ) → Sound x → Sound (past x r)
past_sound x r h = passes_sound x x.due r refl h

pub no_mark : (r : List ℕ) → known r ≡ false → (pg r ≡ false) × (sc r ≡ false) × (th r ≡ false) × (st r ≡ false)
no_mark r h =
    let p = or_parts (pg r) (sc r || (th r || st r)) h in
    let q = or_parts (sc r) (th r || st r) p.1 in
    let s = or_parts (th r) (st r) q.1 in
    (p.0, q.0, s.0, s.1)

pub asks_unknown : (k : Meaning) (x : Context) (e : Due) (r : List ℕ) → known r ≡ false → asks k x e r ≡ unmarked e
asks_unknown k x due.Header r h = asked_false (pg r) no.Mark 0 (ask_header k (body r)) (no_mark r h).0
asks_unknown k x (due.Cell i) r h = asked_false (sc r) no.Mark 0 (ask_cell k i (body r)) (no_mark r h).1
asks_unknown k x (due.Thread i) r h = asked_false (th r) no.Mark 0 (ask_thread i (body r)) (no_mark r h).2
asks_unknown k x (due.Statement n) r h = asked_false (st r) no.Mark 0 (ask_statement k x n (body r)) (no_mark r h).3
asks_unknown k x due.End r h = refl
