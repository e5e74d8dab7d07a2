-- A section in one pass: jumps only go forward, so a run passes over its instructions once, and some are skipped.
use Rattle.std.specs.Prelude.{◌≡◌, ℕ, zero, suc, ◌+◌, ◌-◌, ◌<◌, ◌≤◌, Bool, true, false, cond, List, [], ◌∷◌, ◌++◌, length, drop, Ok, Err}
use Rattle.std.proofs.Math.Path.{refl, ap}
use Rattle.std.proofs.Common.{sym, ap₂, subst, ◌∙◌, zero-add, add-one, drop-drop}
use native.Mathlib.Omega.{arith}
use Rattle.std.proofs.lemmas.List.{drop_all}
use Rattle.kinds.specs.Meaning.{Meaning}
use Rattle.reports.specs.declared.stop.Stop.TheVariants as stop
use Rattle.sequences.specs.declared.act.Act.{Act}
use Rattle.sequences.specs.declared.act.Act.TheVariants.{On, Write, Mark, To, Back, Fail, Stop}
use Rattle.sequences.specs.declared.instruction.Instruction.{Instruction}
use Rattle.sequences.specs.declared.instruction.Instruction.TheVariants as op
use Rattle.sequences.specs.declared.state.SeqState.{SeqState}
use Rattle.sequences.specs.Acts as acts
use Rattle.sequences.specs.Acts.{Called, called, act, fetched, exec, call, whole}
use Rattle.sequences.specs.Code.{past}
use Rattle.sequences.specs.States.{put, with_word, value}

-- at the address h, after d statements; `more` is the run of what follows, with so many instructions skipped
abbrev pub carried : (i h d : ℕ) → SeqState → (ℕ → ℕ → SeqState → Called) → Act → Called
carried i h d q more (On c) = more 0 (cond c (d + 1) d) q
carried i h d q more (Write p c) = more 0 (d + 1) (put q i p c)
carried i h d q more (Mark w v) = more 0 (d + 1) (with_word q w.0 v)
carried i h d q more (To c a) = more (a.0 - suc h) (cond c (d + 1) d) q
carried i h d q more Back = called (Ok tt) d q
carried i h d q more Fail = called (Err stop.Failed) (d + 1) q
carried i h d q more Stop = called (Err stop.Cut) d q

-- a section's instructions from the address h on, the first `skip` of them passed over, after d statements
unfoldable pub sweep : Meaning → (i : ℕ) → List Instruction → (h skip d : ℕ) → SeqState → Called
sweep k i [] h skip d q = called (Err stop.Cut) d q
sweep k i (x ∷ xs) h (suc skip) d q = sweep k i xs (suc h) skip d q
sweep k i (x ∷ xs) h zero d q = carried i h d q (sweep k i xs (suc h)) (act k i q x)

pub past_up : (xs : List Instruction) (h : ℕ) → h ≤ past xs h
past_up [] h = omega arith
past_up (x ∷ xs) h = omega (arith, past_up xs (suc h))

module _ (k : Meaning) (i : ℕ) where
  pub sweep_at : (x : Instruction) (xs : List Instruction) (h d : ℕ) (q : SeqState) (a : Act) → act k i q x ≡ a → sweep k i (x ∷ xs) h 0 d q ≡ carried i h d q (sweep k i xs (suc h)) a
  unfolding sweep
  sweep_at x xs h d q a e = ap (carried i h d q (sweep k i xs (suc h))) e

  pub skip_one : (x : Instruction) (xs : List Instruction) (h a d : ℕ) (q : SeqState) → h < a → sweep k i (x ∷ xs) h (a - h) d q ≡ sweep k i xs (suc h) (a - suc h) d q
  unfolding sweep
  skip_one x xs h a d q lt = let z : a - h ≡ suc (a - suc h) = omega arith in ap (λ n. sweep k i (x ∷ xs) h n d q) z

  pub skip_over : (ys xs : List Instruction) (h a d : ℕ) (q : SeqState) → past ys h ≤ a → sweep k i (ys ++ xs) h (a - h) d q ≡ sweep k i xs (past ys h) (a - past ys h) d q
  skip_over [] xs h a d q le = refl
  skip_over (y ∷ ys) xs h a d q le = skip_one y (ys ++ xs) h a d q (omega (arith, past_up ys (suc h))) ∙ skip_over ys xs (suc h) a d q le

-- where an instruction at the address h leads, if it does not go on to the next
abbrev leads : ℕ → Instruction → ℕ
leads h (op.Jump to) = to.0
leads h (op.Branch a to) = to.0
leads h (op.Hop i t to) = to.0
leads h (op.Slot i to) = suc h
leads h (op.Set d c) = suc h
leads h (op.Copy d a) = suc h
leads h (op.Sum d a b) = suc h
leads h (op.Difference d a b) = suc h
leads h (op.Less d a b) = suc h
leads h (op.Same d a b) = suc h
leads h (op.Assume a) = suc h
leads h (op.Assert a) = suc h
leads h (op.Guard t) = suc h
leads h op.Return = suc h
leads h (op.Must w v) = suc h
leads h (op.MustNot w v) = suc h
leads h (op.Need w v) = suc h
leads h (op.Put w v) = suc h
leads h (op.Guess i n) = suc h
leads h (op.Call i) = suc h
leads h (op.Save i) = suc h
leads h op.End = suc h

-- all instructions from the address h on lead forward
abbrev pub Ahead : List Instruction → ℕ → Type 0
Ahead [] h = Unit {0}
Ahead (x ∷ xs) h = (h < leads h x) × Ahead xs (suc h)

abbrev Goes : ℕ → Instruction → Act → Type 0
Goes h x (On c) = Unit {0}
Goes h x (Write p c) = Unit {0}
Goes h x (Mark w v) = Unit {0}
Goes h x (To c a) = a.0 ≡ leads h x
Goes h x Back = Unit {0}
Goes h x Fail = Unit {0}
Goes h x Stop = Unit {0}

goes_either : (h : ℕ) (x : Instruction) (b : Bool) (u v : Act) → Goes h x u → Goes h x v → Goes h x (cond b u v)
goes_either h x true u v g k = g
goes_either h x false u v g k = k

goes : (k : Meaning) (i h : ℕ) (q : SeqState) (x : Instruction) → Goes h x (act k i q x)
goes k i h q (op.Set d c) = tt
goes k i h q (op.Copy d a) = tt
goes k i h q (op.Sum d a b) = tt
goes k i h q (op.Difference d a b) = tt
goes k i h q (op.Less d a b) = tt
goes k i h q (op.Same d a b) = tt
goes k i h q (op.Jump to) = refl
goes k i h q (op.Branch a to) = goes_either h (op.Branch a to) (k.holds (value k q i a)) (On true) (To true to) tt refl
goes k i h q (op.Assume a) = goes_either h (op.Assume a) (k.holds (value k q i a)) (On true) Stop tt tt
goes k i h q (op.Assert a) = goes_either h (op.Assert a) (k.holds (value k q i a)) (On true) Fail tt tt
goes k i h q (op.Hop j t to) = goes_either h (op.Hop j t to) _ (To false to) (On false) refl tt
goes k i h q (op.Guard t) = goes_either h (op.Guard t) _ (On false) Stop tt tt
goes k i h q op.Return = tt
goes k i h q (op.Must w v) = goes_either h (op.Must w v) _ (On false) Fail tt tt
goes k i h q (op.MustNot w v) = goes_either h (op.MustNot w v) _ Fail (On false) tt tt
goes k i h q (op.Need w v) = goes_either h (op.Need w v) _ (On (whole w.0)) Stop tt tt
goes k i h q (op.Put w v) = tt
goes k i h q (op.Slot j to) = tt
goes k i h q (op.Guess j n) = tt
goes k i h q (op.Call j) = tt
goes k i h q (op.Save j) = tt
goes k i h q op.End = tt

-- what follows the items dropped
pub drop_next : {A : Type 0} (xs : List A) (l : ℕ) (y : A) (ys : List A) → drop l xs ≡ y ∷ ys → drop (suc l) xs ≡ ys
drop_next [] zero y ys e = cc
drop_next [] (suc l) y ys e = cc
drop_next (x ∷ xs) zero y ys e = cc
drop_next (x ∷ xs) (suc l) y ys e = drop_next xs l y ys e

ahead_drop : (xs : List Instruction) (h n : ℕ) → Ahead xs h → Ahead (drop n xs) (h + n)
ahead_drop [] h zero a = tt
ahead_drop [] h (suc n) a = tt
ahead_drop (x ∷ xs) h zero a = let z : h ≡ h + 0 = omega arith in subst (Ahead (x ∷ xs)) z a
ahead_drop (x ∷ xs) h (suc n) a = let z : suc h + n ≡ h + suc n = omega arith in subst (Ahead (drop n xs)) z (ahead_drop xs (suc h) n a.1)

module _ (k : Meaning) (i : ℕ) where
  -- instructions that are passed over
  skipped : (xs : List Instruction) (h n d : ℕ) (q : SeqState) → sweep k i xs h n d q ≡ sweep k i (drop n xs) (h + n) 0 d q
  unfolding sweep
  skipped [] h zero d q = refl
  skipped [] h (suc n) d q = refl
  skipped (x ∷ xs) h zero d q = let z : h ≡ h + 0 = omega arith in ap (λ m. sweep k i (x ∷ xs) m 0 d q) z
  skipped (x ∷ xs) h (suc n) d q = let z : suc h + n ≡ h + suc n = omega arith in skipped xs (suc h) n d q ∙ ap (λ m. sweep k i (drop n xs) m 0 d q) z

  module _ (code : List Instruction) (ahead : Ahead code 0) where
    abbrev Agreed : ℕ → Type 0
    Agreed steps = (h d : ℕ) (q : SeqState) → length code ≤ h + steps → exec k i code steps h d q ≡ sweep k i (drop h code) h 0 d q

    module _ (steps h d : ℕ) (q : SeqState) (enough : length code ≤ h + suc steps) (more : Agreed steps) where
      module _ (x : Instruction) (xs : List Instruction) (e : drop h code ≡ x ∷ xs) (lt : h < leads h x) where
        -- on to the next instruction
        on : (d : ℕ) (q : SeqState) → exec k i code steps (h + 1) d q ≡ sweep k i xs (suc h) 0 d q
        on d q =
            ap (λ n. exec k i code steps n d q) (add-one h)
            ∙ more (suc h) d q (omega arith)
            ∙ ap (λ ys. sweep k i ys (suc h) 0 d q) (drop_next code h x xs e)

        step_agreed : (r : Act) → Goes h x r → acts.carried i h d q (exec k i code steps) r ≡ carried i h d q (sweep k i xs (suc h)) r
        step_agreed (On c) g = on (cond c (d + 1) d) q
        step_agreed (Write p c) g = on (d + 1) (put q i p c)
        step_agreed (Mark w v) g = on (d + 1) (with_word q w.0 v)
        step_agreed (To c a) g =
            let z : suc h + (a.0 - suc h) ≡ a.0 = omega arith in
            let there : drop (a.0 - suc h) xs ≡ drop a.0 code = ap (drop (a.0 - suc h)) (sym (drop_next code h x xs e)) ∙ drop-drop (a.0 - suc h) (suc h) code ∙ ap (λ n. drop n code) z in
            more a.0 (cond c (d + 1) d) q (omega arith)
            ∙ sym (skipped xs (suc h) (a.0 - suc h) (cond c (d + 1) d) q ∙ ap₂ (λ ys n. sweep k i ys n 0 (cond c (d + 1) d) q) there z)
        step_agreed Back g = refl
        step_agreed Fail g = refl
        step_agreed Stop g = refl

      at_agreed : (ys : List Instruction) → drop h code ≡ ys → Ahead ys h → fetched k i h d q (exec k i code steps) ys ≡ sweep k i ys h 0 d q
      unfolding sweep
      at_agreed [] e a = refl
      at_agreed (x ∷ xs) e a = step_agreed x xs e a.0 (act k i q x) (goes k i h q x)

    agreed : (steps : ℕ) → Agreed steps
    unfolding exec sweep
    agreed zero h d q enough = ap (λ ys. sweep k i ys h 0 d q) (sym (drop_all h code (omega arith)))
    agreed (suc steps) h d q enough = at_agreed steps h d q enough (agreed steps) (drop h code) refl (subst (Ahead (drop h code)) (zero-add h) (ahead_drop code 0 h ahead))

    pub call_sweep : (q : SeqState) → call k i code q ≡ sweep k i code 0 0 0 q
    call_sweep q = agreed (length code) 0 0 q (omega arith)
