-- A run whose instructions hold lawful codes only leaves lawful codes only.
use Rattle.std.proofs.Common.{◌≡◌, ℕ, zero, suc, ◌+◌, ◌-◌, Bool, true, false, cond, ◌||◌, eqb, ltb, leb, List, [], ◌∷◌, length, drop, replicate, Ok, Err}
use Rattle.std.proofs.ByRecursion.{All-set, All-take, All-drop}
use Rattle.kinds.specs.Meaning.{Meaning, Lawful}
use Rattle.records.specs.declared.statement.Place.{Place}
use Rattle.records.specs.declared.statement.Place.TheVariants.{Shared, Local}
use Rattle.states.specs.Codes.{LawfulCodes}
use Rattle.states.proofs.Codes.{all_or, all_replicate, lawful_padded}
use Rattle.walks.specs.declared.outcome.Ending.TheVariants as ending
use Rattle.walks.specs.declared.outcome.Outcome.{Outcome}
use Rattle.walks.specs.declared.outcome.Outcome.TheVariants.{Open, Ended}
use Rattle.reports.specs.Stops.{End}
use Rattle.sequences.specs.declared.act.Act.{Act}
use Rattle.sequences.specs.declared.act.Act.TheVariants.{On, Write, Mark, To, Back, Fail, Stop}
use Rattle.sequences.specs.declared.instruction.Instruction.{Instruction}
use Rattle.sequences.specs.declared.instruction.Instruction.TheVariants as op
use Rattle.sequences.specs.declared.point.SeqPoint.{SeqPoint}
use Rattle.sequences.specs.declared.state.SeqState.{SeqState}
use Rattle.sequences.specs.Acts.{Called, act, carried, fetched, exec, call, whole}
use Rattle.sequences.specs.Codes.{LawfulInstruction, LawfulSection, LawfulState}
use Rattle.sequences.specs.Drives.{Sequence, Moved, moved, Move, slot, guess, enter, save, finish, stray, first_move, returned, driven, proceed, proceeds, guessed, asked, turn, drive_from, drive_on, started_on, own_cells}
use Rattle.sequences.specs.States.{word, with_word, value, put, locals_of, begun}
use Rattle.sequences.specs.Words.{active, saved, stop_at}

-- the code that an act writes
abbrev LawfulAct : Meaning → Act → Type 0
LawfulAct k (On c) = Unit {0}
LawfulAct k (Write p c) = k.lawful c ≡ true
LawfulAct k (Mark w v) = Unit {0}
LawfulAct k (To c a) = Unit {0}
LawfulAct k Back = Unit {0}
LawfulAct k Fail = Unit {0}
LawfulAct k Stop = Unit {0}

module _ (k : Meaning) (laws : Lawful k) where
  lawful_value : (q : SeqState) (i : ℕ) (p : Place) → LawfulState k q → k.lawful (value k q i p) ≡ true
  lawful_value q i (Shared n) h = all_or (λ c. k.lawful c ≡ true) q.cells n k.fresh laws.fresh h.cells
  lawful_value q i (Local n) h = all_or (λ c. k.lawful c ≡ true) (locals_of q i) n k.fresh laws.fresh (all_or (LawfulCodes k) q.locals i [] tt h.locals)

  lawful_put : (q : SeqState) (i : ℕ) (p : Place) (c : ℕ) → k.lawful c ≡ true → LawfulState k q → LawfulState k (put q i p c)
  lawful_put q i (Shared n) c g h = record { cells = All-set (λ c. k.lawful c ≡ true) q.cells n c g h.cells; locals = h.locals }
  lawful_put q i (Local n) c g h =
      record {
        cells = h.cells;
        locals = All-set (LawfulCodes k) q.locals i _ (All-set (λ c. k.lawful c ≡ true) (locals_of q i) n c g (all_or (LawfulCodes k) q.locals i [] tt h.locals)) h.locals;
      }

  lawful_word : (q : SeqState) (w v : ℕ) → LawfulState k q → LawfulState k (with_word q w v)
  lawful_word q w v h = record { cells = h.cells; locals = h.locals }

  either : (b : Bool) (x y : Act) → LawfulAct k x → LawfulAct k y → LawfulAct k (cond b x y)
  either true x y g h = g
  either false x y g h = h

  lawful_act : (i : ℕ) (q : SeqState) → LawfulState k q → (x : Instruction) → LawfulInstruction k x → LawfulAct k (act k i q x)
  lawful_act i q h (op.Set d c) g = g
  lawful_act i q h (op.Copy d a) g = lawful_value q i a h
  lawful_act i q h (op.Sum d a b) g = laws.sum _ _ (lawful_value q i a h) (lawful_value q i b h)
  lawful_act i q h (op.Difference d a b) g = laws.difference _ _ (lawful_value q i a h) (lawful_value q i b h)
  lawful_act i q h (op.Less d a b) g = laws.less _ _ (lawful_value q i a h) (lawful_value q i b h)
  lawful_act i q h (op.Same d a b) g = laws.same _ _ (lawful_value q i a h) (lawful_value q i b h)
  lawful_act i q h (op.Jump to) g = tt
  lawful_act i q h (op.Branch a to) g = either (k.holds (value k q i a)) (On true) (To true to) tt tt
  lawful_act i q h (op.Assume a) g = either (k.holds (value k q i a)) (On true) Stop tt tt
  lawful_act i q h (op.Assert a) g = either (k.holds (value k q i a)) (On true) Fail tt tt
  lawful_act i q h (op.Hop j t to) g = either (ltb t.0 (word q (saved j.0)) || leb (word q stop_at) t.0) (To false to) (On false) tt tt
  lawful_act i q h (op.Guard t) g = either (leb t.0 (word q stop_at)) (On false) Stop tt tt
  lawful_act i q h op.Return g = tt
  lawful_act i q h (op.Must w v) g = either (eqb (word q w.0) v) (On false) Fail tt tt
  lawful_act i q h (op.MustNot w v) g = either (eqb (word q w.0) v) Fail (On false) tt tt
  lawful_act i q h (op.Need w v) g = either (eqb (word q w.0) v) (On (whole w.0)) Stop tt tt
  lawful_act i q h (op.Put w v) g = tt
  lawful_act i q h (op.Slot j to) g = tt
  lawful_act i q h (op.Guess j n) g = tt
  lawful_act i q h (op.Call j) g = tt
  lawful_act i q h (op.Save j) g = tt
  lawful_act i q h op.End g = tt

  -- the run from any address leaves a lawful state
  abbrev Keeps : (ℕ → ℕ → SeqState → Called) → Type 0
  Keeps more = (h d : ℕ) (q : SeqState) → LawfulState k q → LawfulState k (more h d q).state

  lawful_carried : (i h d : ℕ) (q : SeqState) (more : ℕ → ℕ → SeqState → Called) (a : Act) → Keeps more → LawfulAct k a → LawfulState k q → LawfulState k (carried i h d q more a).state
  lawful_carried i h d q more (On c) m g l = m _ _ q l
  lawful_carried i h d q more (Write p c) m g l = m _ _ (put q i p c) (lawful_put q i p c g l)
  lawful_carried i h d q more (Mark w v) m g l = m _ _ (with_word q w.0 v) (lawful_word q w.0 v l)
  lawful_carried i h d q more (To c a) m g l = m _ _ q l
  lawful_carried i h d q more Back m g l = l
  lawful_carried i h d q more Fail m g l = l
  lawful_carried i h d q more Stop m g l = l

  lawful_fetched : (i h d : ℕ) (q : SeqState) (more : ℕ → ℕ → SeqState → Called) (xs : List Instruction) → Keeps more → LawfulSection k xs → LawfulState k q → LawfulState k (fetched k i h d q more xs).state
  lawful_fetched i h d q more [] m g l = l
  lawful_fetched i h d q more (x ∷ xs) m g l = lawful_carried i h d q more (act k i q x) m (lawful_act i q l x g.0) l

  lawful_exec : (i : ℕ) (code : List Instruction) → LawfulSection k code → (steps : ℕ) → Keeps (exec k i code steps)
  unfolding exec
  lawful_exec i code g zero h d q l = l
  lawful_exec i code g (suc steps) h d q l =
      lawful_fetched i h d q (exec k i code steps) (drop h code) (lawful_exec i code g steps) (All-drop (LawfulInstruction k) h code g) l

  abbrev Leaves : (ℕ → ℕ → SeqState → Moved) → Type 0
  Leaves more = (h c : ℕ) (q : SeqState) → LawfulState k q → LawfulState k (more h c q).point.state

  lawful_returned : (h : ℕ) (more : ℕ → ℕ → SeqState → Moved) (r : Called) (e : End) → Leaves more → LawfulState k r.state → LawfulState k (returned h more r e).point.state
  lawful_returned h more r (Ok tt) m l = m _ _ r.state l
  lawful_returned h more r (Err e) m l = l

  module _ (s : Sequence) (codes : (i : ℕ) → LawfulSection k (s.sections i)) where
    lawful_driven : (h c : ℕ) (q : SeqState) (more : ℕ → ℕ → SeqState → Moved) (m : Move) → Leaves more → LawfulState k q → LawfulState k (driven k s.sections h c q more m).point.state
    lawful_driven h c q more (slot i to) m l =
        elim (eqb (word q (active i)) 0) as (λ b. LawfulState k (cond b (more to c q) (more (h + 1) c q)).point.state) [ true ↦ m to c q l | false ↦ m (h + 1) c q l ]
    lawful_driven h c q more (guess i n) m l = l
    lawful_driven h c q more (enter i) m l =
        let r = call k i (s.sections i) q in
        lawful_returned h more r r.end m (lawful_exec i (s.sections i) (codes i) (length (s.sections i)) 0 0 q l)
    lawful_driven h c q more (save i) m l = m _ _ _ (lawful_word q (saved i) (word q stop_at) l)
    lawful_driven h c q more finish m l = l
    lawful_driven h c q more stray m l = l

    lawful_proceed : (steps : ℕ) → Leaves (proceed k s steps)
    unfolding proceed
    lawful_proceed zero h c q l = l
    lawful_proceed (suc steps) h c q l = lawful_driven h c q (proceed k s steps) (first_move (drop h s.guide)) (lawful_proceed steps) l

    lawful_guessed : (h i n g : ℕ) (q : SeqState) → LawfulState k q → LawfulState k (guessed k s h i n g q).point.state
    lawful_guessed h i n g q l =
        let t = with_word q stop_at (word q (saved i) + g) in
        elim (ltb (n - word q (saved i)) g) as (λ b. LawfulState k (cond b (moved 0 (Ended ending.Cut) h q) (proceeds k s (h + 1) t)).point.state) [
          | true ↦ l
          | false ↦ lawful_proceed (length s.guide) (h + 1) 0 t (lawful_word q stop_at (word q (saved i) + g) l)
        ]

    lawful_asked : (p : SeqPoint) (g : ℕ) (m : Move) → LawfulState k p.state → LawfulState k (asked k s p g m).point.state
    lawful_asked p g (guess i n) l = lawful_guessed p.at.0 i n g p.state l
    lawful_asked p g (slot i to) l = l
    lawful_asked p g (enter i) l = l
    lawful_asked p g (save i) l = l
    lawful_asked p g finish l = l
    lawful_asked p g stray l = l

    lawful_from : (o : Outcome) (p : SeqPoint) (ns : List ℕ) → LawfulState k p.state → LawfulState k (drive_from k s o p ns).state
    unfolding drive_from
    lawful_from o p [] l = l
    lawful_from (Open b) p (n ∷ ns) l =
        let t = turn k s p n in
        lawful_from t.outcome t.point ns (lawful_asked p n (first_move (drop p.at.0 s.guide)) l)
    lawful_from (Ended e) p (n ∷ ns) l = l

    lawful_begun : (cs : List ℕ) → LawfulCodes k cs → LawfulState k (begun k cs)
    lawful_begun cs h =
        record {
          cells = lawful_padded k laws cs h;
          locals = all_replicate (LawfulCodes k) 8 (replicate 8 k.fresh) (all_replicate (λ c. k.lawful c ≡ true) 8 k.fresh laws.fresh);
        }

    pub lawful_drive : (cs ns : List ℕ) → LawfulCodes k cs → LawfulCodes k (own_cells cs (drive_on k s cs ns).state)
    lawful_drive cs ns h =
        let t = started_on k s cs in
        All-take (λ c. k.lawful c ≡ true) (length cs) (drive_on k s cs ns).state.cells
        (lawful_from t.outcome t.point ns (lawful_proceed (length s.guide) 0 0 (begun k cs) (lawful_begun cs h))).cells
