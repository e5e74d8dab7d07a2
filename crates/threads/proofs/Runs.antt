-- What one more statement makes of a slot.
use Rattle.std.proofs.Common.{sym, ◌≡◌, ℕ, suc, ◌+◌, ◌-◌, ◌<◌, ap, ◌∙◌, arith, Ok}
use Rattle.kinds.specs.Meaning.{Meaning}
use Rattle.records.specs.declared.statement.Thread.{Thread}
use Rattle.tables.specs.Program.{Program}
use Rattle.states.specs.declared.state.State.{State}
use Rattle.reports.specs.Stops.{End}
use Rattle.threads.specs.Effects.{next}
use Rattle.threads.specs.Steps.{progress, after}
use Rattle.threads.specs.Slots.{run, stops, unless_stopped, ran, slot_of}

module _ (k : Meaning) (p : Program) (i : Thread) (s : State) where
  run_more : (n d : ℕ) → d < n → run k p i (n - d) d s ≡ unless_stopped (after i (next k p i s) s) (run k p i (n - (d + 1)) (d + 1) (after i (next k p i s) s)) (stops (progress (next k p i s)) d)
  unfolding run
  run_more n d h =
      let e : n - d ≡ suc (n - (d + 1)) = omega arith in
      ap (λ m. run k p i m d s) e

  pub run_none : (n d : ℕ) → d ≡ n → run k p i (n - d) d s ≡ ran (slot_of (Ok tt) n) s
  unfolding run
  run_none n d h =
      let e : n - d ≡ 0 = omega arith in
      ap (λ m. run k p i m d s) e ∙ ap (λ m. ran (slot_of (Ok tt) m) s) h

  pub run_after : (n d : ℕ) → d < n → (o q : End) (t : State) → o ≡ q → o ≡ progress (next k p i s) → t ≡ after i (next k p i s) s → run k p i (n - d) d s ≡ unless_stopped t (run k p i (n - (d + 1)) (d + 1) t) (stops q d)
  run_after n d h o q t e eo et = rw (sym e, eo, et) (run_more n d h)
