-- A run keeps the number of cells, so it leaves as many as the program has.
use Rattle.std.proofs.Common.{◌≡◌, ℕ, zero, suc, ◌+◌, Bool, true, false, cond, ltb, List, [], ◌∷◌, length, take, drop, replicate, Some, None, Option, refl, ◌∙◌, arith, Ok, Err}
use Rattle.std.proofs.lemmas.List.{length-set, length-append, length-take-le, take_at}
use Rattle.kinds.specs.Meaning.{Meaning}
use Rattle.records.specs.declared.statement.Place.{Place}
use Rattle.records.specs.declared.statement.Place.TheVariants.{Shared, Local}
use Rattle.records.specs.declared.statement.Thread.{Thread}
use Rattle.tables.specs.Program.{Program}
use Rattle.states.specs.declared.state.State.{State}
use Rattle.states.specs.States.{created, beginning, put}
use Rattle.threads.specs.declared.effect.Effect.{Effect}
use Rattle.threads.specs.declared.effect.Effect.TheVariants.{Fail, Block, Pass, GoTo, Write, Mark, Create}
use Rattle.threads.specs.declared.slot.Slot.{Slot}
use Rattle.reports.specs.Stops.{End}
use Rattle.reports.specs.declared.stop.Stop.TheVariants as end
use Rattle.threads.specs.Effects.{next}
use Rattle.tables.specs.Slots.{program_slots, slot_total}
use Rattle.threads.specs.Plays.{Played, bound, thread, serve, closed, served, rounds_by, rounds, play, cells_of}
use Rattle.reports.specs.Reports.{front}
use Rattle.threads.specs.Slots.{Ran, ran, run, slot_of, stops, unless_stopped}
use Rattle.threads.specs.Steps.{progress, after}

abbrev wide : State → ℕ
wide s = length s.cells

put_wide : (s : State) (i : ℕ) (d : Place) (c : ℕ) → wide (put s i d c) ≡ wide s
put_wide s i (Shared n) c = length-set s.cells n c
put_wide s i (Local n) c = refl

after_wide : (i : Thread) (e : Effect) (s : State) → wide (after i e s) ≡ wide s
after_wide i Fail s = refl
after_wide i Block s = refl
after_wide i Pass s = refl
after_wide i (GoTo t) s = refl
after_wide i (Write d c) s = put_wide s i.0 d c
after_wide i (Mark m h) s = refl
after_wide i (Create j) s = refl

stopped_wide : (n : ℕ) (s : State) (more : Ran) (o : Option Slot) → wide s ≡ n → wide more.state ≡ n → wide (unless_stopped s more o).state ≡ n
stopped_wide n s more None e f = f
stopped_wide n s more (Some x) e f = e

run_wide : (k : Meaning) (p : Program) (i : Thread) (n d : ℕ) (s : State) → wide (run k p i n d s).state ≡ wide s
unfolding run
run_wide k p i zero d s = refl
run_wide k p i (suc n) d s =
    let e = next k p i s in
    let s' = after i e s in
    let here = after_wide i e s in
    stopped_wide (wide s) s' (run k p i n (d + 1) s') (stops (progress e) d) here (run_wide k p i n (d + 1) s' ∙ here)

either_wide : (n : ℕ) (b : Bool) (x y : Ran) → wide x.state ≡ n → wide y.state ≡ n → wide (cond b x y).state ≡ n
either_wide n true x y e f = e
either_wide n false x y e f = f

serve_wide : (k : Meaning) (p : Program) (i : ℕ) (s : State) (n : ℕ) → wide (serve k p i s n).state ≡ wide s
serve_wide k p i s n =
    either_wide (wide s) (ltb (bound p s i) n) (ran (slot_of (Err end.Cut) 0) s) (run k p (thread i) n 0 s) refl (run_wide k p (thread i) n 0 s)

closed_wide : (n : ℕ) (r : Ran) (more : State → Played) (e : End) → wide r.state ≡ n → ((s : State) → wide (more s).state ≡ wide s) →
    wide (closed r more e).state ≡ n
closed_wide n r more (Ok tt) e f = f r.state ∙ e
closed_wide n r more (Err end.Failed) e f = e
closed_wide n r more (Err end.Cut) e f = e

served_wide : (k : Meaning) (p : Program) (i : ℕ) (s : State) (more : State → List ℕ → Played) (ns : List ℕ) →
    ((s' : State) (ms : List ℕ) → wide (more s' ms).state ≡ wide s') → wide (served k p i s more ns).state ≡ wide s
served_wide k p i s more [] f = refl
served_wide k p i s more (n ∷ ns) f =
    let r = serve k p i s n in
    closed_wide (wide s) r (λ s'. more s' ns) r.slot.end (serve_wide k p i s n) (λ s'. f s' ns)

choose_wide : (n : ℕ) (b : Bool) (x y : Played) → wide x.state ≡ n → wide y.state ≡ n → wide (cond b x y).state ≡ n
choose_wide n true x y e f = e
choose_wide n false x y e f = f

rounds_wide : (k : Meaning) (p : Program) (is : List ℕ) (s : State) (ns : List ℕ) → wide (rounds k p is s ns).state ≡ wide s
unfolding rounds_by
rounds_wide k p [] s ns = refl
rounds_wide k p (i ∷ rest) s ns =
    choose_wide (wide s) (created s i) (served k p i s (rounds k p rest) ns) (rounds k p rest s ns)
    (served_wide k p i s (rounds k p rest) ns (rounds_wide k p rest))
    (rounds_wide k p rest s ns)

-- the cells that a schedule leaves are as many as the program's
pub cells_long : (k : Meaning) (p : Program) (r : ℕ) (ns : List ℕ) → length (cells_of p (play k p r ns).state) ≡ length p.cells
cells_long k p r ns =
    let e : wide (play k p r ns).state ≡ wide (beginning k p) = rounds_wide k p (program_slots p (slot_total p r)) (beginning k p) ns in
    let l = length-append p.cells (drop (length p.cells) (replicate 16 k.fresh)) in
    length-take-le (length p.cells) (play k p r ns).state.cells (omega (arith, e, l))

-- what stands at the front of a buffer, cut off behind it
pub front_cut : (xs out : List ℕ) (n : ℕ) → length xs ≡ n → take n (front xs out) ≡ xs
front_cut xs out n e = take_at xs (drop (length xs) out) n e
