-- A program grows record by record.
use Rattle.std.proofs.Common.{◌≡◌, ℕ, suc, ◌+◌, ◌/◌, ◌<◌, ◌≤◌, Bool, true, false, cond, List, [], ◌∷◌, ◌++◌, map, length, drop, filter, sym, refl, ap, ◌∙◌, append_assoc, append-nil, arith, length-append}
use lib.ListN.{length-map}
use Rattle.std.proofs.lemmas.Bool.{cond_both}
use Rattle.tables.specs.declared.text.ThreadText.{ThreadText}
use Rattle.records.specs.Bodies.{a}
use Rattle.records.specs.Lines.{line, lines, body, sc, th, st}
use Rattle.tables.specs.Program.{Program, code, told, text, texts, onto, with_record, behind, decoded}
use Rattle.questions.proofs.Follows.{lines_more, lines_all}

push : {X Y : Type 0} (g : X → Y) (x : X) (b : Bool) (ys : List Y) (rest : List X) → ys ++ map g (cond b (x ∷ rest) rest) ≡ cond b (ys ++ g x ∷ []) ys ++ map g rest
push g x true ys rest = sym (append_assoc ys (g x ∷ []) (map g rest))
push g x false ys rest = refl

push_text : (r : List ℕ) (b : Bool) (at : ℕ) (ys : List ThreadText) (rest : List (List ℕ)) → ys ++ texts at (cond b (r ∷ rest) rest) ≡ cond b (ys ++ text at r ∷ []) ys ++ texts (cond b (at + a (body r)) at) rest
push_text r true at ys rest = sym (append_assoc ys (text at r ∷ []) (texts (at + a (body r)) rest))
push_text r false at ys rest = refl

onto_cons : (p : Program) (at : ℕ) (r : List ℕ) (rs : List (List ℕ)) → onto p at (r ∷ rs) ≡ onto (with_record p at r) (behind at r) rs
onto_cons p at r rs =
    let e = push code r (sc r) p.cells (filter sc rs) in
    let f = push_text r (th r) at p.texts (filter th rs) in
    let g = push told r (st r) p.statements (filter st rs) in
    cc

pub onto_more : (p : Program) (at : ℕ) (f : List ℕ) (i : ℕ) → i < length f / 10 → onto p at (drop i (lines f)) ≡ onto (with_record p at (line f i)) (behind at (line f i)) (drop (i + 1) (lines f))
onto_more p at f i h = ap (onto p at) (lines_more f i h) ∙ onto_cons p at (line f i) (drop (i + 1) (lines f))

pub onto_all : (p : Program) (at : ℕ) (f : List ℕ) (i : ℕ) → length f / 10 ≤ i → onto p at (drop i (lines f)) ≡ p
onto_all p at f i h = ap (onto p at) (lines_all f i h) ∙ simp append-nil

room : {X Y : Type 0} (g : X → Y) (t : X → Bool) (ys : List Y) (x : X) (xs : List X) → t x ≡ true → length ys < length (ys ++ map g (filter t (x ∷ xs)))
room g t ys x xs e = rw e (simp length-append (omega arith))

pub length_texts : (at : ℕ) (rs : List (List ℕ)) → length (texts at rs) ≡ length rs
length_texts at [] = refl
length_texts at (r ∷ rs) = ap suc (length_texts (at + a (body r)) rs)

text_room : (at : ℕ) (ys : List ThreadText) (r : List ℕ) (rs : List (List ℕ)) → th r ≡ true → length ys < length (ys ++ texts at (filter th (r ∷ rs)))
text_room at ys r rs e =
    let ks = filter th (r ∷ rs) in
    let l : length ks ≡ suc (length (filter th rs)) = ap (λ b. length (cond b (r ∷ filter th rs) (filter th rs))) e in
    omega (arith, length-append ys (texts at ks), length_texts at ks)

pub cell_room : (p : Program) (at : ℕ) (f : List ℕ) (i : ℕ) → i < length f / 10 → onto p at (drop i (lines f)) ≡ decoded f → sc (line f i) ≡ true → length p.cells < length (filter sc (lines f))
cell_room p at f i h e q =
    let m = ap (λ rs. length (p.cells ++ map code (filter sc rs))) (lines_more f i h) in
    let r = room code sc p.cells (line f i) (drop (i + 1) (lines f)) q in
    let s : length (p.cells ++ map code (filter sc (drop i (lines f)))) ≡ length (map code (filter sc (lines f))) = ap (λ z. length z.cells) e in
    omega (arith, length-map (filter sc (lines f)) code)

pub thread_room : (p : Program) (at : ℕ) (f : List ℕ) (i : ℕ) → i < length f / 10 → onto p at (drop i (lines f)) ≡ decoded f → th (line f i) ≡ true → length p.texts < length (filter th (lines f))
thread_room p at f i h e q =
    let m = ap (λ rs. length (p.texts ++ texts at (filter th rs))) (lines_more f i h) in
    let r = text_room at p.texts (line f i) (drop (i + 1) (lines f)) q in
    let s : length (p.texts ++ texts at (filter th (drop i (lines f)))) ≡ length (texts 0 (filter th (lines f))) = ap (λ z. length z.texts) e in
    omega (arith, length_texts 0 (filter th (lines f)))

-- behind one record
pub grown : (p q : Program) (at n : ℕ) (f : List ℕ) (i : ℕ) → i < length f / 10 → onto p at (drop i (lines f)) ≡ decoded f → q ≡ with_record p at (line f i) → n ≡ behind at (line f i) → onto q n (drop (i + 1) (lines f)) ≡ decoded f
grown p q at n f i h e u v =
    ap (λ z. onto z n (drop (i + 1) (lines f))) u ∙ ap (λ z. onto (with_record p at (line f i)) z (drop (i + 1) (lines f))) v ∙ sym (onto_more p at f i h) ∙ e

pub statements_most : (p : Program) (at : ℕ) (r : List ℕ) (m : ℕ) → length p.statements ≤ m → length (with_record p at r).statements ≤ m + 1
statements_most p at r m h =
    cond_both (st r) (p.statements ++ told r ∷ []) p.statements (λ s. length s ≤ m + 1) (λ _. simp length-append (omega arith)) (λ _. omega arith)
