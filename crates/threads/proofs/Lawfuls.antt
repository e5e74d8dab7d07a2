-- A run of a well-formed program holds lawful codes only.
use Rattle.std.proofs.Common.{◌≡◌, ℕ, zero, suc, ◌+◌, Bool, true, false, cond, eqb, ltb, List, [], ◌∷◌, length, take, drop, replicate, Some, None, Option, sym, subst, Ok, Err}
use Rattle.std.specs.List.{AllByRecursion, slice_get}
use Rattle.std.proofs.ByRecursion.{All-append, All-set, All-take, All-drop}
use Rattle.std.proofs.lemmas.List.{take-append-drop}
use Rattle.kinds.specs.Meaning.{Meaning, Lawful}
use Rattle.records.specs.declared.statement.Place.{Place}
use Rattle.records.specs.declared.statement.Place.TheVariants.{Shared, Local}
use Rattle.records.specs.declared.statement.Statement.{Statement}
use Rattle.records.specs.declared.statement.Statement.TheVariants as op
use Rattle.records.specs.declared.statement.Thread.{Thread}
use Rattle.tables.specs.declared.text.ThreadText.{ThreadText}
use Rattle.tables.specs.Program.{Program, text_of, own, due}
use Rattle.tables.specs.WellFormed.{Counts, Fit, Numbered, Threads, WellFormed}
use Rattle.threads.specs.declared.effect.Effect.{Effect}
use Rattle.threads.specs.declared.effect.Effect.TheVariants.{Fail, Block, Pass, GoTo, Write, Mark, Create}
use Rattle.threads.specs.declared.slot.Slot.{Slot}
use Rattle.reports.specs.Stops.{End}
use Rattle.reports.specs.declared.stop.Stop.TheVariants as end
use Rattle.states.specs.declared.state.MutexState.{MutexState}
use Rattle.states.specs.declared.state.MutexState.TheVariants.{Free, Destroyed, Held}
use Rattle.states.specs.declared.state.State.{State}
use Rattle.states.specs.Codes.{LawfulCodes}
use Rattle.states.proofs.Codes.{all_or, all_replicate, lawful_padded}
use Rattle.threads.specs.Codes.{LawfulEntry, LawfulState}
use Rattle.threads.specs.Effects.{ended, taken, freed, effect, effect_of, next}
use Rattle.states.specs.Entries.{no_entry, asleep, awake, labelled, with_local}
use Rattle.tables.specs.Slots.{program_slots, slot_total}
use Rattle.threads.specs.Plays.{Played, closed, served, serve, rounds_by, rounds, bound, thread, play, cells_of}
use Rattle.threads.specs.Slots.{Ran, ran, run, stops, unless_stopped, slot_of}
use Rattle.states.specs.States.{entry, label, created, value, put, go, create, beginning, mutex}
use Rattle.threads.specs.Steps.{progress, after}

-- the code that stands in a statement
abbrev LawfulStatement : Meaning → Statement → Type 0
LawfulStatement k (op.Set d c) = k.lawful c ≡ true
LawfulStatement k (op.Copy d a) = Unit {0}
LawfulStatement k (op.Sum d a b) = Unit {0}
LawfulStatement k (op.Difference d a b) = Unit {0}
LawfulStatement k (op.Less d a b) = Unit {0}
LawfulStatement k (op.Same d a b) = Unit {0}
LawfulStatement k (op.Jump t) = Unit {0}
LawfulStatement k (op.Branch a t) = Unit {0}
LawfulStatement k (op.Assume a) = Unit {0}
LawfulStatement k (op.Assert a) = Unit {0}
LawfulStatement k (op.Init m) = Unit {0}
LawfulStatement k (op.Destroy m) = Unit {0}
LawfulStatement k (op.Lock m) = Unit {0}
LawfulStatement k (op.Unlock m) = Unit {0}
LawfulStatement k (op.Create j) = Unit {0}
LawfulStatement k (op.Join j) = Unit {0}

fit_lawful : (k : Meaning) (m : Counts) (n : ℕ) (s : Statement) → Fit k m n s → LawfulStatement k s
fit_lawful k m n (op.Set d c) f = f.1
fit_lawful k m n (op.Copy d a) f = tt
fit_lawful k m n (op.Sum d a b) f = tt
fit_lawful k m n (op.Difference d a b) f = tt
fit_lawful k m n (op.Less d a b) f = tt
fit_lawful k m n (op.Same d a b) f = tt
fit_lawful k m n (op.Jump t) f = tt
fit_lawful k m n (op.Branch a t) f = tt
fit_lawful k m n (op.Assume a) f = tt
fit_lawful k m n (op.Assert a) f = tt
fit_lawful k m n (op.Init m') f = tt
fit_lawful k m n (op.Destroy m') f = tt
fit_lawful k m n (op.Lock m') f = tt
fit_lawful k m n (op.Unlock m') f = tt
fit_lawful k m n (op.Create j) f = tt
fit_lawful k m n (op.Join j) f = tt

numbered_lawful : (k : Meaning) (m : Counts) (n : ℕ) (ss : List Statement) → Numbered k m n ss → AllByRecursion (LawfulStatement k) ss
numbered_lawful k m n [] f = tt
numbered_lawful k m n (s ∷ ss) f = (fit_lawful k m n s f.0, numbered_lawful k m (n + 1) ss f.1)

threads_lawful : (k : Meaning) (cs ms n at : ℕ) (ts : List ThreadText) (ss : List Statement) → Threads k cs ms n at ts ss → AllByRecursion (LawfulStatement k) ss
threads_lawful k cs ms n at [] ss e = subst (AllByRecursion (LawfulStatement k)) (sym e) tt
threads_lawful k cs ms n at (t ∷ ts) ss f =
    subst (AllByRecursion (LawfulStatement k)) (take-append-drop t.size ss)
    (All-append (LawfulStatement k) (take t.size ss) (drop t.size ss) (numbered_lawful k _ 0 (take t.size ss) f.5) (threads_lawful k cs ms n (at + t.size) ts (drop t.size ss) f.6))

abbrev OfSome : {X : Type 0} → (X → Type 0) → Option X → Type 0
OfSome P None = Unit {0}
OfSome P (Some x) = P x

all_nth : {X : Type 0} (P : X → Type 0) (xs : List X) (i : ℕ) → AllByRecursion P xs → OfSome P (slice_get xs i)
all_nth P [] i all = tt
all_nth P (x ∷ xs) zero all = all.0
all_nth P (x ∷ xs) (suc i) all = all_nth P xs i all.1

-- the code that an effect writes
abbrev LawfulEffect : Meaning → Effect → Type 0
LawfulEffect k Fail = Unit {0}
LawfulEffect k Block = Unit {0}
LawfulEffect k Pass = Unit {0}
LawfulEffect k (GoTo t) = Unit {0}
LawfulEffect k (Write d c) = k.lawful c ≡ true
LawfulEffect k (Mark m h) = Unit {0}
LawfulEffect k (Create j) = Unit {0}

module _ (k : Meaning) (laws : Lawful k) where
  lawful_entry : (s : State) (i : ℕ) → LawfulState k s → LawfulEntry k (entry s i)
  lawful_entry s i h = all_or (LawfulEntry k) s.threads.entries i no_entry tt h.locals

  lawful_value : (s : State) (i : ℕ) (p : Place) → LawfulState k s → k.lawful (value k s i p) ≡ true
  lawful_value s i (Shared n) h = all_or (λ c. k.lawful c ≡ true) s.cells n k.fresh laws.fresh h.cells
  lawful_value s i (Local n) h = all_or (λ c. k.lawful c ≡ true) (entry s i).locals n k.fresh laws.fresh (lawful_entry s i h)

  lawful_go : (s : State) (i : ℕ) (t : _) → LawfulState k s → LawfulState k (go s i t)
  lawful_go s i t h = record { cells = h.cells; locals = All-set (LawfulEntry k) s.threads.entries i (labelled (entry s i) t) (lawful_entry s i h) h.locals }

  lawful_create : (s : State) (j : ℕ) → LawfulState k s → LawfulState k (create s j)
  lawful_create s j h = record { cells = h.cells; locals = All-set (LawfulEntry k) s.threads.entries j (awake (entry s j)) (lawful_entry s j h) h.locals }

  lawful_put : (s : State) (i : ℕ) (p : Place) (c : ℕ) → k.lawful c ≡ true → LawfulState k s → LawfulState k (put s i p c)
  lawful_put s i (Shared n) c g h = record { cells = All-set (λ c. k.lawful c ≡ true) s.cells n c g h.cells; locals = h.locals }
  lawful_put s i (Local n) c g h =
      record {
        cells = h.cells;
        locals = All-set (LawfulEntry k) s.threads.entries i (with_local (entry s i) n c) (All-set (λ c. k.lawful c ≡ true) (entry s i).locals n c g (lawful_entry s i h)) h.locals;
      }

  lawful_after : (i : Thread) (e : Effect) (s : State) → LawfulEffect k e → LawfulState k s → LawfulState k (after i e s)
  lawful_after i Fail s g h = h
  lawful_after i Block s g h = h
  lawful_after i Pass s g h = lawful_go s i.0 _ h
  lawful_after i (GoTo t) s g h = lawful_go s i.0 t h
  lawful_after i (Write d c) s g h = lawful_go (put s i.0 d c) i.0 _ (lawful_put s i.0 d c g h)
  lawful_after i (Mark m x) s g h = lawful_go _ i.0 _ (record { cells = h.cells; locals = h.locals })
  lawful_after i (Create j) s g h = lawful_go (create s j.0) i.0 _ (lawful_create s j.0 h)

  either : (b : Bool) (e f : Effect) → LawfulEffect k e → LawfulEffect k f → LawfulEffect k (cond b e f)
  either true e f g h = g
  either false e f g h = h

  lawful_taken : (x : MutexState) (i : Thread) (m : _) → LawfulEffect k (taken x i m)
  lawful_taken Free i m = tt
  lawful_taken Destroyed i m = tt
  lawful_taken (Held j) i m = tt

  lawful_freed : (x : MutexState) (i : Thread) (m : _) → LawfulEffect k (freed x i m)
  lawful_freed Free i m = tt
  lawful_freed Destroyed i m = tt
  lawful_freed (Held j) i m = either (eqb j.0 i.0) (Mark m Free) Fail tt tt

  lawful_effect : (p : Program) (i : Thread) (s : State) → LawfulState k s → (x : Statement) → LawfulStatement k x → LawfulEffect k (effect k p i s x)
  lawful_effect p i s h (op.Set d c) g = g
  lawful_effect p i s h (op.Copy d a) g = lawful_value s i.0 a h
  lawful_effect p i s h (op.Sum d a b) g = laws.sum _ _ (lawful_value s i.0 a h) (lawful_value s i.0 b h)
  lawful_effect p i s h (op.Difference d a b) g = laws.difference _ _ (lawful_value s i.0 a h) (lawful_value s i.0 b h)
  lawful_effect p i s h (op.Less d a b) g = laws.less _ _ (lawful_value s i.0 a h) (lawful_value s i.0 b h)
  lawful_effect p i s h (op.Same d a b) g = laws.same _ _ (lawful_value s i.0 a h) (lawful_value s i.0 b h)
  lawful_effect p i s h (op.Jump t) g = tt
  lawful_effect p i s h (op.Branch a t) g = either (k.holds (value k s i.0 a)) Pass (GoTo t) tt tt
  lawful_effect p i s h (op.Assume a) g = either (k.holds (value k s i.0 a)) Pass Block tt tt
  lawful_effect p i s h (op.Assert a) g = either (k.holds (value k s i.0 a)) Pass Fail tt tt
  lawful_effect p i s h (op.Init m) g = tt
  lawful_effect p i s h (op.Destroy m) g = tt
  lawful_effect p i s h (op.Lock m) g = lawful_taken (mutex s m.0) i m
  lawful_effect p i s h (op.Unlock m) g = lawful_freed (mutex s m.0) i m
  lawful_effect p i s h (op.Create j) g = tt
  lawful_effect p i s h (op.Join j) g = either (ended p s j.0) Pass Block tt tt

  lawful_effect_of : (p : Program) (i : Thread) (s : State) (x : Option Statement) → LawfulState k s → OfSome (LawfulStatement k) x → LawfulEffect k (effect_of k p i s x)
  lawful_effect_of p i s None h g = tt
  lawful_effect_of p i s (Some x) h g = lawful_effect p i s h x g

  module _ (p : Program) (texts : AllByRecursion (LawfulStatement k) p.statements) where
    lawful_next : (i : Thread) (s : State) → LawfulState k s → LawfulState k (after i (next k p i s) s)
    lawful_next i s h =
        lawful_after i (next k p i s) s
        (lawful_effect_of p i s (due p i.0 (label s i.0)) h (all_nth (LawfulStatement k) (own p i.0) (label s i.0) (All-take (LawfulStatement k) (text_of p i.0).size (drop (text_of p i.0).first p.statements) (All-drop (LawfulStatement k) (text_of p i.0).first p.statements texts))))
        h

    lawful_stopped : (s : State) (more : Ran) (x : Option Slot) → LawfulState k s → LawfulState k more.state → LawfulState k (unless_stopped s more x).state
    lawful_stopped s more None g h = h
    lawful_stopped s more (Some x) g h = g

    lawful_run : (i : Thread) (n d : ℕ) (s : State) → LawfulState k s → LawfulState k (run k p i n d s).state
    unfolding run
    lawful_run i zero d s h = h
    lawful_run i (suc n) d s h =
        let h' = lawful_next i s h in
        lawful_stopped (after i (next k p i s) s) (run k p i n (d + 1) (after i (next k p i s) s)) (stops (progress (next k p i s)) d) h' (lawful_run i n (d + 1) (after i (next k p i s) s) h')

    lawful_serve : (i : ℕ) (s : State) (n : ℕ) → LawfulState k s → LawfulState k (serve k p i s n).state
    lawful_serve i s n h =
        elim (ltb (bound p s i) n) as (λ b. LawfulState k (cond b (ran (slot_of (Err end.Cut) 0) s) (run k p (thread i) n 0 s)).state) [ true ↦ h | false ↦ lawful_run (thread i) n 0 s h ]

    lawful_closed : (r : Ran) (more : State → Played) (e : End) → LawfulState k r.state → LawfulState k (more r.state).state → LawfulState k (closed r more e).state
    lawful_closed r more (Ok tt) g h = h
    lawful_closed r more (Err end.Failed) g h = g
    lawful_closed r more (Err end.Cut) g h = g

    lawful_served : (i : ℕ) (s : State) (more : State → List ℕ → Played) (ns : List ℕ) → ((s : State) (ns : List ℕ) → LawfulState k s → LawfulState k (more s ns).state) → LawfulState k s → LawfulState k (served k p i s more ns).state
    lawful_served i s more [] g h = h
    lawful_served i s more (n ∷ ns) g h =
        let r = serve k p i s n in
        let w = lawful_serve i s n h in
        lawful_closed r (λ s'. more s' ns) r.slot.end w (g r.state ns w)

    lawful_rounds : (l : List ℕ) (s : State) (ns : List ℕ) → LawfulState k s → LawfulState k (rounds k p l s ns).state
    unfolding rounds_by
    lawful_rounds [] s ns h = h
    lawful_rounds (i ∷ rest) s ns h =
        elim (created s i) as (λ b. LawfulState k (cond b (served k p i s (rounds k p rest) ns) (rounds k p rest s ns)).state) [
          | true ↦ lawful_served i s (rounds k p rest) ns (lawful_rounds rest) h
          | false ↦ lawful_rounds rest s ns h
        ]

  lawful_beginning : (p : Program) → WellFormed k p → LawfulState k (beginning k p)
  lawful_beginning p w =
      let f = all_replicate (λ c. k.lawful c ≡ true) 8 k.fresh laws.fresh in
      record {
        cells = lawful_padded k laws p.cells w.lawful;
        locals = All-set (LawfulEntry k) (replicate 8 (asleep k)) 0 (awake (asleep k)) f (all_replicate (LawfulEntry k) 8 (asleep k) f);
      }

  pub lawful_play : (p : Program) (n : ℕ) (ns : List ℕ) → WellFormed k p → LawfulCodes k (cells_of p (play k p n ns).state)
  lawful_play p n ns w =
      All-take (λ c. k.lawful c ≡ true) (length p.cells) (play k p n ns).state.cells (lawful_rounds p (threads_lawful k _ _ _ 0 p.texts p.statements w.threads) (program_slots p (slot_total p n)) (beginning k p) ns (lawful_beginning p w)).cells
