-- A run goes on from a point by one number.
use Rattle.std.specs.Prelude.{◌≡◌, ℕ, zero, suc, ◌+◌, ◌-◌, ◌%◌, ◌<◌, ◌≤◌, true, false, cond, List, [], ◌∷◌, drop, nat_lt, refl, Ok, Err}
use Rattle.std.proofs.Common.{sym, ◌∙◌, inl, inr, arith}
use Rattle.std.proofs.Math.Path.{ap}
use Rattle.std.proofs.lemmas.List.FromFn.{length-map-range_with_len, get_or-map-range_with_len}
use Rattle.std.proofs.lemmas.List.{drop_more, drop_all}
use Rattle.std.proofs.lemmas.Bool.{cases_Bool, cond_both, ltb-false, lt-ltb}
use Rattle.kinds.specs.Meaning.{Meaning}
use Rattle.tables.specs.Program.{Program}
use Rattle.walks.specs.declared.outcome.Ending.TheVariants.{Full}
use Rattle.walks.specs.declared.outcome.Outcome.{Outcome}
use Rattle.walks.specs.declared.outcome.Outcome.TheVariants.{Open, Ended}
use Rattle.reports.specs.Players.{Turned}
use Rattle.threads.specs.declared.point.Point.{Point}
use Rattle.reports.specs.Stops.{End}
use Rattle.reports.specs.declared.stop.Stop.TheVariants as end
use Rattle.states.specs.declared.state.State.{State}
use Rattle.tables.specs.Slots.{slots, program_slots}
use Rattle.threads.specs.Plays.{Played, played, prefixed, bound, serve, closed, served, rounds_by, rounds}
use Rattle.threads.specs.Slots.{Ran}
use Rattle.states.specs.States.{created}
use Rattle.threads.specs.Turns.{width, seek, point, landed, standing, turned_so, turn, Stands, rest}
use Rattle.threads.specs.Seeks.{seek_found, seek_past, seek_none}

pub slots_more : (t n q : ℕ) → q < n → drop q (slots t n) ≡ q % t ∷ drop (q + 1) (slots t n)
slots_more t n q h =
    let e = length-map-range_with_len (λ q. q % t) 0 n in
    let m = drop_more (slots t n) q 0 (omega arith) in
    let g = get_or-map-range_with_len (λ q. q % t) 0 n q q 0 h (omega arith) in
    cc

slots_all : (t n q : ℕ) → n ≤ q → drop q (slots t n) ≡ []
slots_all t n q h = let e = length-map-range_with_len (λ q. q % t) 0 n in drop_all q (slots t n) (omega arith)

module _ (k : Meaning) (p : Program) (n : ℕ) where
  -- a slot that exists
  pub rest_there : (at : Point) (ns : List ℕ) → at.slot < n → created at.state (at.slot % width p) ≡ true → rest k p n at ns ≡ served k p (at.slot % width p) at.state (rounds k p (drop (at.slot + 1) (program_slots p n))) ns
  unfolding rounds_by
  rest_there at ns h e =
      ap (λ l. rounds k p l at.state ns) (slots_more (width p) n at.slot h)
      ∙ ap (λ b. cond b (served k p (at.slot % width p) at.state (rounds k p (drop (at.slot + 1) (program_slots p n))) ns) (rounds k p (drop (at.slot + 1) (program_slots p n)) at.state ns)) e

  -- one that does not
  rest_skips : (q : ℕ) (s : State) (ns : List ℕ) → q < n → created s (q % width p) ≡ false → rest k p n (point q s) ns ≡ rest k p n (point (q + 1) s) ns
  unfolding rounds_by
  rest_skips q s ns h e =
      ap (λ l. rounds k p l s ns) (slots_more (width p) n q h)
      ∙ ap (λ b. cond b (served k p (q % width p) s (rounds k p (drop (q + 1) (program_slots p n))) ns) (rounds k p (drop (q + 1) (program_slots p n)) s ns)) e

  pub rest_full : (at : Point) (ns : List ℕ) → n ≤ at.slot → rest k p n at ns ≡ played (Ended Full) [] at.state
  unfolding rounds_by
  rest_full at ns h = ap (λ l. rounds k p l at.state ns) (slots_all (width p) n at.slot h)

  -- the slots that do not exist are passed over
  landing : (m q : ℕ) (s : State) (ns : List ℕ) → m + q ≡ n → rest k p n (point q s) ns ≡ rest k p n (point (seek p s (n - q) q) s) ns
  landing zero q s ns e = ap (λ j. rest k p n (point j s) ns) (sym (seek_none p s n q (omega arith)))
  landing (suc m) q s ns e =
      elim (cases_Bool (created s (q % width p))) [
        | inl c ↦ ap (λ j. rest k p n (point j s) ns) (sym (seek_found p s n q (omega arith) c))
        | inr c ↦ rest_skips q s ns (omega arith) c ∙ landing m (q + 1) s ns (omega arith) ∙ ap (λ j. rest k p n (point j s) ns) (sym (seek_past p s n q (omega arith) c))
      ]

  pub rest_landed : (q : ℕ) (s : State) (ns : List ℕ) → q ≤ n → rest k p n (point q s) ns ≡ rest k p n (landed p n q s) ns
  rest_landed q s ns h = landing (n - q) q s ns (omega arith)

  stands_at : (q : ℕ) (s : State) (j : ℕ) → Stands p n (point q s) → j ≡ q → Stands p n (point j s)
  stands_at q s j h e = rw e h

  lands : (m q : ℕ) (s : State) → m + q ≡ n → Stands p n (landed p n q s)
  lands zero q s e =
      let x = seek_none p s n q (omega arith) in
      stands_at q s _ (record { within = omega arith; exists = λ h. absurd (omega arith) }) x
  lands (suc m) q s e =
      elim (cases_Bool (created s (q % width p))) [
        | inl c ↦ stands_at q s _ (record { within = omega arith; exists = λ _. c }) (seek_found p s n q (omega arith) c)
        | inr c ↦ stands_at _ s _ (lands m (q + 1) s (omega arith)) (seek_past p s n q (omega arith) c)
      ]

  pub landed_stands : (q : ℕ) (s : State) → q ≤ n → Stands p n (landed p n q s)
  landed_stands q s h = lands (n - q) q s (omega arith)

  -- what follows a turn: `more` is the run from the point that it came to
  abbrev pub followed : Turned Point → (Point → Played) → Outcome → Played
  followed t more (Open b) = prefixed t.count (more t.point)
  followed t more (Ended e) = played (Ended e) (t.count ∷ []) t.point.state

  onward : (t : Turned Point) (ns : List ℕ) → t.outcome ≡ standing p n t.point → prefixed t.count (rest k p n t.point ns) ≡ followed t (λ at. rest k p n at ns) t.outcome
  onward t ns e =
      rw e
      (cond_both (nat_lt t.point.slot n) (Open (bound p t.point.state (t.point.slot % width p))) (Ended Full)
      (λ o. prefixed t.count (rest k p n t.point ns) ≡ followed t (λ at. rest k p n at ns) o)
      (λ _. refl)
      (λ l. ap (prefixed t.count) (rest_full t.point ns (ltb-false t.point.slot n l))))

  closing : (q : ℕ) (ns : List ℕ) (r : Ran) (e : End) → q < n → closed r (λ s. rounds k p (drop (q + 1) (program_slots p n)) s ns) e ≡ followed (turned_so p n q r e) (λ at. rest k p n at ns) (turned_so p n q r e).outcome
  closing q ns r (Ok tt) h =
      ap (prefixed r.slot.count.0) (rest_landed (q + 1) r.state ns (omega arith)) ∙ onward (turned_so p n q r (Ok tt)) ns refl
  closing q ns r (Err end.Failed) h = refl
  closing q ns r (Err end.Cut) h = refl

  pub turn_there : (at : Point) (g : ℕ) → at.slot < n → turn k p n at g ≡ turned_so p n at.slot (serve k p (at.slot % width p) at.state g) (serve k p (at.slot % width p) at.state g).slot.end
  turn_there at g h = rw (lt-ltb at.slot n h) refl

  pub rest_turn : (at : Point) (g : ℕ) (ns : List ℕ) → Stands p n at → at.slot < n → rest k p n at (g ∷ ns) ≡ followed (turn k p n at g) (λ at'. rest k p n at' ns) (turn k p n at g).outcome
  rest_turn at g ns w h =
      let r = serve k p (at.slot % width p) at.state g in
      rest_there at (g ∷ ns) h (w.exists h)
      ∙ closing at.slot ns r r.slot.end h
      ∙ ap (λ (t : Turned Point). followed t (λ at'. rest k p n at' ns) t.outcome) (sym (turn_there at g h))
