-- A well-formed program is one that can be translated.
use Rattle.std.proofs.Common.{ℕ, zero, suc, ◌+◌, ◌≤◌, List, [], ◌∷◌, get_or, take, drop, sym, subst, arith}
use Rattle.std.specs.List.{AllByRecursion}
use Rattle.std.proofs.ByRecursion.{All-append}
use Rattle.std.proofs.lemmas.List.{take-append-drop}
use Rattle.kinds.specs.Meaning.{Meaning}
use Rattle.records.specs.declared.statement.Statement.{Statement}
use Rattle.records.specs.declared.statement.Statement.TheVariants.{Set, Copy, Sum, Difference, Less, Same, Jump, Branch, Assume, Assert, Init, Destroy, Lock, Unlock, Create, Join}
use Rattle.tables.specs.declared.text.ThreadText.{ThreadText}
use Rattle.tables.specs.Program.{Program, no_text}
use Rattle.tables.specs.WellFormed.{Counts, Fit, Numbered, Threads, WellFormed}
use Rattle.sequences.specs.Writes.{Low, Translatable}

module _ (k : Meaning) where
  fit_low : (m : Counts) (n : ℕ) (x : Statement) → m.mutexes ≤ 8 → m.threads ≤ 8 → Fit k m n x → Low x
  fit_low m n (Set d c) a b f = tt
  fit_low m n (Copy d x) a b f = tt
  fit_low m n (Sum d x y) a b f = tt
  fit_low m n (Difference d x y) a b f = tt
  fit_low m n (Less d x y) a b f = tt
  fit_low m n (Same d x y) a b f = tt
  fit_low m n (Jump t) a b f = tt
  fit_low m n (Branch x t) a b f = tt
  fit_low m n (Assume x) a b f = tt
  fit_low m n (Assert x) a b f = tt
  fit_low m n (Init x) a b f = omega arith
  fit_low m n (Destroy x) a b f = omega arith
  fit_low m n (Lock x) a b f = omega arith
  fit_low m n (Unlock x) a b f = omega arith
  fit_low m n (Create j) a b f = tt
  fit_low m n (Join j) a b f = omega arith

  numbered_low : (m : Counts) (n : ℕ) (ss : List Statement) → m.mutexes ≤ 8 → m.threads ≤ 8 → Numbered k m n ss → AllByRecursion Low ss
  numbered_low m n [] a b f = tt
  numbered_low m n (s ∷ ss) a b f = (fit_low m n s a b f.0, numbered_low m (n + 1) ss a b f.1)

  threads_low : (cs ms n at : ℕ) (ts : List ThreadText) (ss : List Statement) → ms ≤ 8 → n ≤ 8 → Threads k cs ms n at ts ss → AllByRecursion Low ss
  threads_low cs ms n at [] ss a b e = subst (AllByRecursion Low) (sym e) tt
  threads_low cs ms n at (t ∷ ts) ss a b f =
      subst (AllByRecursion Low) (take-append-drop t.size ss)
      (All-append Low (take t.size ss) (drop t.size ss) (numbered_low _ 0 (take t.size ss) a b f.5) (threads_low cs ms n (at + t.size) ts (drop t.size ss) a b f.6))

  threads_small : (cs ms n at : ℕ) (ts : List ThreadText) (ss : List Statement) → Threads k cs ms n at ts ss → (i : ℕ) → (get_or ts i no_text).size ≤ 48
  threads_small cs ms n at [] ss f i = omega arith
  threads_small cs ms n at (t ∷ ts) ss f zero = f.2
  threads_small cs ms n at (t ∷ ts) ss f (suc i) = threads_small cs ms n (at + t.size) ts (drop t.size ss) f.6 i

  pub well_translatable : (p : Program) → WellFormed k p → Translatable p
  well_translatable p w =
      record {
        sizes = threads_small _ _ _ 0 p.texts p.statements w.threads;
        low = threads_low _ _ _ 0 p.texts p.statements w.mutexes_few w.threads_few w.threads;
      }
