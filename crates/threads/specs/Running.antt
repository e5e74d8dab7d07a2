-- A run from a point is the rest of the run.
use Rattle.std.specs.Prelude.{◌≡◌, ℕ, ◌+◌, ◌%◌, ◌<◌, List, [], ◌∷◌, nat_lt, refl, Ok, Err}
use Rattle.std.proofs.Common.{sym, ap, subst, ◌∙◌, arith}
use Rattle.std.proofs.lemmas.Bool.{cond_both, ltb-true, ltb-false}
use Rattle.kinds.specs.Meaning.{Meaning}
use Rattle.reports.specs.Players.{Turned, Told, goes}
use Rattle.tables.specs.Program.{Program}
use Rattle.walks.specs.declared.outcome.Ending.TheVariants.{Full}
use Rattle.walks.specs.declared.outcome.Outcome.{Outcome}
use Rattle.walks.specs.declared.outcome.Outcome.TheVariants.{Open, Ended}
use Rattle.threads.specs.declared.point.Point.{Point}
use Rattle.reports.specs.Stops.{End}
use Rattle.reports.specs.declared.stop.Stop.TheVariants as end
use Rattle.threads.specs.Plays.{Played, played, prefixed, bound, serve}
use Rattle.threads.specs.Slots.{Ran}
use Rattle.threads.specs.Turns.{width, standing, turned_so, turn, Stands, rest, landed}
use Rattle.threads.specs.Turning.{rest_there, rest_full, rest_turn, landed_stands, followed, turn_there}

module _ (k : Meaning) (p : Program) (n : ℕ) where
  -- what is left of a run that has come to an outcome
  abbrev pub rest_of : Point → List ℕ → Outcome → Played
  rest_of at ns (Open b) = rest k p n at ns
  rest_of at ns (Ended e) = played (Ended e) [] at.state

  -- an open run stands at a slot that exists, with its bound
  abbrev pub Waits : Point → Outcome → Type 0
  Waits at (Open b) = (at.slot < n) × Stands p n at × (b ≡ bound p at.state (at.slot % width p))
  Waits at (Ended e) = Unit {0}

  standing_waits : (at : Point) → Stands p n at → Waits at (standing p n at)
  standing_waits at w =
      cond_both (nat_lt at.slot n) (Open (bound p at.state (at.slot % width p))) (Ended Full) (Waits at) (λ e. (ltb-true at.slot n e, w, refl)) (λ _. tt)

  standing_rest : (at : Point) (ns : List ℕ) → rest k p n at ns ≡ rest_of at ns (standing p n at)
  standing_rest at ns =
      cond_both (nat_lt at.slot n) (Open (bound p at.state (at.slot % width p))) (Ended Full) (λ o. rest k p n at ns ≡ rest_of at ns o) (λ _. refl)
      (λ e. rest_full k p n at ns (ltb-false at.slot n e))

  turned_waits : (q : ℕ) (r : Ran) (e : End) → q < n → Waits (turned_so p n q r e).point (turned_so p n q r e).outcome
  turned_waits q r (Ok tt) h = standing_waits (landed p n (q + 1) r.state) (landed_stands k p n (q + 1) r.state (omega arith))
  turned_waits q r (Err end.Failed) h = tt
  turned_waits q r (Err end.Cut) h = tt

  pub turn_waits : (at : Point) (g : ℕ) → at.slot < n → Waits (turn k p n at g).point (turn k p n at g).outcome
  turn_waits at g h =
      let r = serve k p (at.slot % width p) at.state g in
      subst (λ (t : Turned Point). Waits t.point t.outcome) (sym (turn_there k p n at g h)) (turned_waits at.slot r r.slot.end h)

  -- a run from a point, as the rules of slots have it
  abbrev pub as_played : Told Point → Played
  as_played r = played r.outcome r.counts r.point.state

  onward : (t : Turned Point) (ns : List ℕ) (o : Outcome) → prefixed t.count (rest_of t.point ns o) ≡ followed k p n t (λ at. rest k p n at ns) o
  onward t ns (Open b) = refl
  onward t ns (Ended e) = refl

  goes_rest : (ns : List ℕ) (o : Outcome) (at : Point) → Waits at o → as_played (goes (turn k p n) o at ns) ≡ rest_of at ns o
  unfolding goes
  goes_rest [] (Open b) at w = ap (λ y. played (Open y) [] at.state) w.2 ∙ sym (rest_there k p n at [] w.0 (w.1.exists w.0))
  goes_rest [] (Ended e) at w = refl
  goes_rest (g ∷ ns) (Ended e) at w = refl
  goes_rest (g ∷ ns) (Open b) at w =
      let t = turn k p n at g in
      ap (prefixed t.count) (goes_rest ns t.outcome t.point (turn_waits at g w.0)) ∙ onward t ns t.outcome ∙ sym (rest_turn k p n at g ns w.1 w.0)

  pub goes_standing : (ns : List ℕ) (at : Point) → Stands p n at → as_played (goes (turn k p n) (standing p n at) at ns) ≡ rest k p n at ns
  goes_standing ns at w = goes_rest ns (standing p n at) at (standing_waits at w) ∙ sym (standing_rest at ns)
