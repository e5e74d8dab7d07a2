-- A section runs as its thread does up to a label.
use Rattle.std.specs.Prelude.{◌≡◌, ℕ, zero, suc, ◌+◌, ◌-◌, ◌<◌, ◌≤◌, Bool, true, false, cond, ◌||◌, ◌⊎◌, List, [], ◌∷◌, ◌++◌, length, drop, nat_le, nat_lt, refl, Ok}
use Rattle.std.proofs.Common.{sym, ap, ◌∙◌, inl, inr, ⊎_elim, arith}
use Rattle.std.proofs.lemmas.Bool.{le-ltb, lt-ltb, le-leb, lt-leb, cases_lt, or_left, or_right, or_from}
use Rattle.kinds.specs.Meaning.{Meaning}
use Rattle.records.specs.declared.statement.Statement.{Statement}
use Rattle.states.specs.declared.state.State.{State}
use Rattle.states.specs.States.{label, go}
use Rattle.tables.specs.Program.{Program, size, own}
use Rattle.tables.specs.WellFormed.{WellFormed}
use Rattle.threads.specs.Effects.{effect, effect_of, next}
use Rattle.threads.specs.Plays.{thread}
use Rattle.threads.specs.Slots.{Ran}
use Rattle.sequences.specs.declared.act.Act.TheVariants.{On, To, Back, Stop}
use Rattle.sequences.specs.declared.instruction.Instruction.{Instruction}
use Rattle.sequences.specs.declared.instruction.Instruction.TheVariants as op
use Rattle.sequences.specs.declared.state.SeqState.{SeqState}
use Rattle.sequences.specs.Acts.{Called, called}
use Rattle.sequences.specs.Code as code
use Rattle.sequences.specs.Code.{inner, past, guards, names, address_in, behind, section, at}
use Rattle.sequences.specs.States.{word}
use Rattle.sequences.specs.Words.{saved, stop_at}
use Rattle.guesses.specs.Paces.{until}
use Rattle.guesses.specs.Bodies.{follows, body}
use Rattle.guesses.specs.Entries.{Sized, sized_go, lab, go_go, go_stay, go_label}
use Rattle.guesses.specs.Layouts.{guard_at, then, over, address_up, Stands, stands_next, next_guard, inner_past, begins}
use Rattle.guesses.specs.Onwards.{Onto, onto, named_above, named_guarded}
use Rattle.guesses.specs.Seen.{seen, seen_label, seen_stop}
use Rattle.guesses.specs.Dids.{Did, Fails, Blocks, Steps, did, counted, until_did}
use Rattle.guesses.specs.Slots.{until_at, until_past}
use Rattle.guesses.specs.Sweep.{sweep, sweep_at, skip_one, skip_over, past_up}
use Rattle.guesses.specs.Texts.{counts_of, fits, own_length, nth_drop}

drop_length : {A : Type 0} (xs : List A) (l : ℕ) (ys : List A) → l ≤ length xs → drop l xs ≡ ys → l + length ys ≡ length xs
drop_length xs zero ys h e = omega (arith, ap length e)
drop_length [] (suc l) ys h e = absurd (let z : ⊥ = omega arith in z)
drop_length (x ∷ xs) (suc l) ys h e = omega (arith, drop_length xs l ys (omega arith) e)

-- a slot of thread i as its section shows it: the label is put back to pc, for it is saved only behind the section
abbrev pub shown : (i pc cs : ℕ) → Ran → Called
shown i pc cs r = called r.slot.end r.slot.count.0 (seen (go r.state i (lab pc)) cs)

module _ (k : Meaning) (p : Program) (w : WellFormed k p) (i : ℕ) (has : i < 8) (A : ℕ → ℕ) where
  abbrev B : List Statement → ℕ → List Instruction
  B xs l = behind p i (guard_at p i) A xs l

  abbrev G : ℕ → List Instruction
  G l = guards (guard_at p i l) l

  abbrev St : List Statement → ℕ → ℕ → Type 0
  St = Stands p i A

  -- the HOP of the label l
  abbrev hop : ℕ → Instruction
  hop l = op.Hop (code.thread i) (code.label l) (at (over p i (suc l) (A (suc l))))

  -- a hop that is taken leads behind the next guard
  slide : (x : Statement) (xs : List Statement) (l h d : ℕ) (q : SeqState) → St (x ∷ xs) l h → (nat_lt l (word q (saved i)) || nat_le (word q stop_at) l) ≡ true
      → sweep k i (B (x ∷ xs) l) h 0 d q ≡ sweep k i (B xs (suc l)) (over p i (suc l) (then p i x h)) 0 d q
  slide x xs l h d q st e =
      let a : ℕ = over p i (suc l) (then p i x h) in
      let I = inner p i A x in
      let ends : past I (suc h) ≡ then p i x h = inner_past p i A x (suc h) in
      let none : a - a ≡ 0 = omega arith in
      sweep_at k i (hop l) (I ++ (G (suc l) ++ B xs (suc l))) h d q (To false (at a))
      (ap (λ b. cond b (To false (at (over p i (suc l) (A (suc l))))) (On false)) e ∙ ap (λ n. To false (at (over p i (suc l) n))) (next_guard p i A x xs l h st))
      ∙ skip_over k i I (G (suc l) ++ B xs (suc l)) (suc h) a d q (omega (arith, ends, past_up (G (suc l)) (then p i x h)))
      ∙ ap (λ n. sweep k i (G (suc l) ++ B xs (suc l)) n (a - n) d q) ends
      ∙ skip_over k i (G (suc l)) (B xs (suc l)) (then p i x h) a d q (omega arith)
      ∙ ap (λ n. sweep k i (B xs (suc l)) a n d q) none

  back : (l h d : ℕ) (q : SeqState) → sweep k i (B [] l) h 0 d q ≡ called (Ok tt) d q
  back l h d q = sweep_at k i op.Return [] h d q Back refl

  -- from the label cs on all hops are taken
  slide_after : (cs : ℕ) (xs : List Statement) (l h d : ℕ) (q : SeqState) → word q stop_at ≡ cs → St xs l h → cs ≤ l → sweep k i (B xs l) h 0 d q ≡ called (Ok tt) d q
  slide_after cs [] l h d q ec st le = back l h d q
  slide_after cs (x ∷ xs) l h d q ec st le =
      slide x xs l h d q st (or_right (nat_lt l (word q (saved i))) (nat_le (word q stop_at) l) (le-leb (word q stop_at) l (omega arith)))
      ∙ slide_after cs xs (suc l) (over p i (suc l) (then p i x h)) d q ec (stands_next p i A x xs l h st) (omega arith)

  module _ (cs pc : ℕ) (cs_in : cs ≤ size p i) where
    abbrev held : State → SeqState
    held x = seen (go x i (lab pc)) cs

    abbrev run_shown : ℕ → ℕ → State → Called
    run_shown f d s = shown i pc cs (until k p (thread i) cs f d s)

    held_stop : (s : State) → Sized s → word (held s) stop_at ≡ cs
    held_stop s z = seen_stop (go s i (lab pc)) cs (sized_go s i pc z)

    held_label : (s : State) → Sized s → word (held s) (saved i) ≡ pc
    held_label s z = seen_label (go s i (lab pc)) cs (sized_go s i pc z) i has ∙ go_label s i pc (omega (arith, z.entries))

    abbrev Body : List Statement → ℕ → Type 0
    Body xs l = (h d f : ℕ) (s : State) → St xs l h → label s i ≡ l → pc ≤ l → l ≤ cs → cs ≤ l + f → Sized s → sweep k i (B xs l) h 0 d (held s) ≡ run_shown f d s

    -- from the guard of the label l, with a jump to the label e further on
    abbrev Land : List Statement → ℕ → Type 0
    Land xs l =
        (h e d f : ℕ) (s : State) → St xs l (over p i l h) → A l ≡ h → label s i ≡ l + e → pc ≤ l + e → ((guard_at p i (l + e) ≡ true) ⊎ (l + e ≤ cs)) → cs ≤ l + e + f
        → l + e ≤ size p i → Sized s
        → sweep k i (G l ++ B xs l) h (A (l + e) - h) d (held s) ≡ run_shown f d s

    guard_act : (s : State) → Sized s → (l : ℕ) (b : Bool) → nat_le l cs ≡ b → cond (nat_le l (word (held s) stop_at)) (On false) Stop ≡ cond b (On false) Stop
    guard_act s z l b e = ap (λ n. cond (nat_le l n) (On false) Stop) (held_stop s z) ∙ ap (λ b. cond b (On false) Stop) e

    -- at the guard
    land_here : (xs : List Statement) (l : ℕ) → Body xs l → (b : Bool) (h d f : ℕ) (s : State) → St xs l (past (guards b l) h) → label s i ≡ l → pc ≤ l → ((b ≡ true) ⊎ (l ≤ cs)) → cs ≤ l + f
        → Sized s → sweep k i (guards b l ++ B xs l) h 0 d (held s) ≡ run_shown f d s
    land_here xs l goes false h d f s st at_l from either fuel z =
        let le : l ≤ cs = ⊎_elim (λ e. absurd (let z : ◌≡◌ {A = ℕ} 0 1 = cc in omega arith)) (λ x. x) either in
        goes h d f s st at_l from le fuel z
    land_here xs l goes true h d f s st at_l from either fuel z =
        ⊎_elim
        (λ (lt : cs < l).
        sweep_at k i (op.Guard (code.label l)) (B xs l) h d (held s) Stop (guard_act s z l false (lt-leb l cs lt))
        ∙ sym (ap (shown i pc cs) (until_past k p i s cs f d (omega arith))))
        (λ (le : l ≤ cs).
        sweep_at k i (op.Guard (code.label l)) (B xs l) h d (held s) (On false) (guard_act s z l true (le-leb l cs le))
        ∙ goes (suc h) d f s st at_l from le fuel z)
        (cases_lt cs l)

    landed : (xs : List Statement) (l : ℕ) → Body xs l → (h d f : ℕ) (s : State) → St xs l (over p i l h) → A l ≡ h → label s i ≡ l + 0 → pc ≤ l + 0 → ((guard_at p i (l + 0) ≡ true) ⊎ (l + 0 ≤ cs)) → cs ≤ l + 0 + f
        → Sized s → sweep k i (G l ++ B xs l) h (A (l + 0) - h) d (held s) ≡ run_shown f d s
    landed xs l goes h d f s st ah at_l from either fuel has' =
        let z : l + 0 ≡ l = omega arith in
        let nothing : A (l + 0) - h ≡ 0 = omega (arith, ap A z, ah) in
        ap (λ n. sweep k i (G l ++ B xs l) h n d (held s)) nothing
        ∙ land_here xs l goes (guard_at p i l) h d f s st (at_l ∙ z) (omega arith) (⊎_elim (λ e. inl (ap (guard_at p i) (sym z) ∙ e)) (λ (le : l + 0 ≤ cs). inr (omega arith)) either) (omega arith) has'

    -- how many statements are left
    left_length : (xs : List Statement) (l h : ℕ) → St xs l h → l ≤ size p i → l + length xs ≡ size p i
    left_length xs l h st le = drop_length (own p i) l xs (omega (arith, own_length k p w i)) st.left ∙ own_length k p w i

    land_end : (l : ℕ) → Body [] l → Land [] l
    land_end l goes h zero d f s st ah at_l from either fuel in_text z = landed [] l goes h d f s st ah at_l from either fuel z
    land_end l goes h (suc e) d f s st ah at_l from either fuel in_text z =
        absurd (let z : ⊥ = omega (arith, left_length [] l (over p i l h) st (omega arith)) in z)

    land_more : (x : Statement) (xs : List Statement) (l : ℕ) → Body (x ∷ xs) l → Land xs (suc l) → Land (x ∷ xs) l
    land_more x xs l goes L h zero d f s st ah at_l from either fuel in_text sz = landed (x ∷ xs) l goes h d f s st ah at_l from either fuel sz
    land_more x xs l goes L h (suc e) d f s st ah at_l from either fuel in_text sz =
        let z : l + suc e ≡ suc l + e = omega arith in
        let a : ℕ = A (l + suc e) in
        let H : ℕ = over p i l h in
        let I = inner p i A x in
        let R = G (suc l) ++ B xs (suc l) in
        let ends : past I (suc H) ≡ then p i x H = inner_past p i A x (suc H) in
        let reach : then p i x H ≤ a = omega (arith, ap A z, st.addresses e (omega arith), address_up p i x xs l H e) in
        let up : suc H ≤ then p i x H = past_up (inner p i (λ t. 0) x) (suc H) in
        skip_over k i (G l) (B (x ∷ xs) l) h a d (held s) (omega arith)
        ∙ skip_one k i (hop l) (I ++ R) H a d (held s) (omega arith)
        ∙ skip_over k i I R (suc H) a d (held s) (omega (arith, ends))
        ∙ ap (λ n. sweep k i R n (a - n) d (held s)) ends
        ∙ ap (λ n. sweep k i R (then p i x H) (A n - then p i x H) d (held s)) z
        ∙ L (then p i x H) e d f s (stands_next p i A x xs l H st) (next_guard p i A x xs l H st) (at_l ∙ z) (omega arith) (⊎_elim (λ y. inl (ap (guard_at p i) (sym z) ∙ y)) (λ (y : l + suc e ≤ cs). inr (omega arith)) either) (omega arith) (omega arith) sz

    body_end : (l : ℕ) → Body [] l
    body_end l h d f s st at_l from le fuel z =
        back l h d (held s) ∙ sym (ap (shown i pc cs) (until_at k p i s cs f d (omega (arith, left_length [] l h st (omega arith)))))

    module _ (x : Statement) (xs : List Statement) (l : ℕ) (L : Land xs (suc l)) where
      -- behind a statement that was carried out: at the next guard, or at a jump's
      carried_on : (h d f : ℕ) (s : State) → St (x ∷ xs) l h → label s i ≡ l → pc ≤ l → l < cs → cs ≤ l + suc f → Sized s → (r : Did) → Onto i s x r
          → follows k p i cs pc A s (G (suc l) ++ B xs (suc l)) (suc h) d (then p i x h) r ≡ shown i pc cs (counted i d s (until k p (thread i) cs f (d + 1)) r)
      carried_on h d f s st at_l from lt fuel z Fails o = refl
      carried_on h d f s st at_l from lt fuel z Blocks o = refl
      carried_on h d f s st at_l from lt fuel z (Steps s' t) o =
          let up : (l < t) × (t ≤ size p i) =
          ⊎_elim (λ (y : t ≡ suc (label s i)). (omega arith, omega arith)) (λ (y : names t x ≡ true). named_above k (counts_of p i) l t x (fits k p w i l x xs st.left) y) o.0 in
          let e : ℕ = t - suc l in
          let te : t ≡ suc l + e = omega (arith, up.0) in
          let z' : Sized s' = o.1 z in
          let R = G (suc l) ++ B xs (suc l) in
          let lands : label (go s' i (lab t)) i ≡ t = go_label s' i t (omega (arith, z'.entries)) in
          let either : (guard_at p i (suc l + e) ≡ true) ⊎ (suc l + e ≤ cs) =
          ⊎_elim (λ (y : t ≡ suc (label s i)). inr (omega arith)) (λ (y : names t x ≡ true). inl (ap (guard_at p i) (sym te) ∙ named_guarded (own p i) l t x xs st.left y)) o.0 in
          ap (λ q. sweep k i R (then p i x h) (A t - then p i x h) (d + 1) (seen q cs)) (sym (go_go s' i t pc))
          ∙ ap (λ n. sweep k i R (then p i x h) (A n - then p i x h) (d + 1) (held (go s' i (lab t)))) te
          ∙ L (then p i x h) e (d + 1) f (go s' i (lab t)) (stands_next p i A x xs l h st) (next_guard p i A x xs l h st) (lands ∙ te) (omega arith) either (omega arith) (omega (arith, up.1))
          (sized_go s' i t z')

      body_at : (h d f : ℕ) (s : State) → St (x ∷ xs) l h → label s i ≡ l → pc ≤ l → l < cs → cs ≤ l + f → Sized s → sweep k i (B (x ∷ xs) l) h 0 d (held s) ≡ run_shown f d s
      body_at h d zero s st at_l from lt fuel z = absurd (let z : ⊥ = omega arith in z)
      body_at h d (suc f) s st at_l from lt fuel z =
          let I = inner p i A x in
          let R = G (suc l) ++ B xs (suc l) in
          let comes : next k p (thread i) s ≡ effect k p (thread i) s x = ap (effect_of k p (thread i) s) (nth_drop (own p i) (label s i) x xs (ap (λ n. drop n (own p i)) at_l ∙ st.left)) in
          let ends : past I (suc h) ≡ then p i x h = inner_past p i A x (suc h) in
          let follow : A (suc (label s i)) ≡ past I (suc h) = ap (λ n. A (suc n)) at_l ∙ next_guard p i A x xs l h st ∙ sym ends in
          sweep_at k i (hop l) (I ++ R) h d (held s) (On false)
          (ap (λ b. cond b (To false (at (over p i (suc l) (A (suc l))))) (On false))
          (or_from (nat_lt l (word (held s) (saved i))) (nat_le (word (held s) stop_at) l) (le-ltb l (word (held s) (saved i)) (omega (arith, held_label s z))) (lt-leb (word (held s) stop_at) l (omega (arith, held_stop s z)))))
          ∙ body k p i cs pc A s R (suc h) d (omega arith) (omega arith) has z (counts_of p i) w.mutexes_few w.threads_few l x (fits k p w i l x xs st.left) follow
          ∙ ap (λ n. follows k p i cs pc A s R (suc h) d n (did i s (effect k p (thread i) s x))) ends
          ∙ carried_on h d f s st at_l from lt fuel z (did i s (effect k p (thread i) s x)) (onto k p i s x)
          ∙ sym (ap (shown i pc cs) (until_did k p i s cs f d (did i s (effect k p (thread i) s x)) (omega arith) (ap (did i s) comes)))

      body_more : Body (x ∷ xs) l
      body_more h d f s st at_l from le fuel z =
          ⊎_elim
          (λ (lt : l < cs). body_at h d f s st at_l from lt fuel z)
          (λ (ge : cs ≤ l). slide_after cs (x ∷ xs) l h d (held s) (held_stop s z) st ge ∙ sym (ap (shown i pc cs) (until_at k p i s cs f d (omega arith))))
          (cases_lt l cs)

    both : (xs : List Statement) (l : ℕ) → Body xs l × Land xs l
    both [] l = (body_end l, land_end l (body_end l))
    both (x ∷ xs) l =
        let more : Land xs (suc l) = (both xs (suc l)).1 in
        let here : Body (x ∷ xs) l = body_more x xs l more in
        (here, land_more x xs l here more)

  module _ (m : ℕ) (s : State) (within : m ≤ size p i - label s i) (z : Sized s) where
    abbrev cs : ℕ
    cs = label s i + m

    abbrev result : ℕ → Called
    result d = shown i (label s i) cs (until k p (thread i) cs m d s)

    stay : seen s cs ≡ seen (go s i (lab (label s i))) cs
    stay = ap (λ x. seen x cs) (sym (go_stay s i))

    -- before the thread's own label all hops are taken
    slide_before : (xs : List Statement) (l h d : ℕ) → St xs l h → l ≤ label s i → l + length xs ≡ size p i → sweep k i (B xs l) h 0 d (seen s cs) ≡ result d
    slide_before [] l h d st le all =
        back l h d (seen s cs) ∙ ap (called (Ok tt) d) stay ∙ sym (ap (shown i (label s i) cs) (until_at k p i s cs m d (omega arith)))
    slide_before (x ∷ xs) l h d st le all =
        ⊎_elim
        (λ (lt : l < label s i).
        slide x xs l h d (seen s cs) st (or_left (nat_lt l (word (seen s cs) (saved i))) (nat_le (word (seen s cs) stop_at) l) (lt-ltb l (word (seen s cs) (saved i)) (omega (arith, seen_label s cs z i has))))
        ∙ slide_before xs (suc l) (over p i (suc l) (then p i x h)) d (stands_next p i A x xs l h st) lt (omega arith))
        (λ (ge : label s i ≤ l).
        ap (λ q. sweep k i (B (x ∷ xs) l) h 0 d q) stay
        ∙ (both cs (label s i) (omega arith) (x ∷ xs) l).0 h d m s st (omega arith) (omega arith) (omega arith) (omega arith) z)
        (cases_lt l (label s i))

-- a section, run with cs so far beyond the thread's label
pub section_runs : (k : Meaning) (p : Program) → WellFormed k p → (i : ℕ) → i < 8 → (m : ℕ) (s : State) → m ≤ size p i - label s i → Sized s
    → sweep k i (section p i) 0 0 0 (seen s (label s i + m)) ≡ shown i (label s i) (label s i + m) (until k p (thread i) (label s i + m) m 0 s)
section_runs k p w i has m s within z =
    slide_before k p w i has (address_in p i) m s within z (own p i) 0 0 0 (begins p i) (omega arith) (omega (arith, own_length k p w i))
