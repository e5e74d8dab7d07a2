-- Both machines on one program: their failing leaves correspond, and so do their full ones.
use Rattle.std.specs.Prelude.{◌≡◌, ℕ, ◌≤◌, ◌⊎◌, List, length}
use Rattle.std.specs.List.{ContainsAt as Has, AllByRecursion}
use Rattle.kinds.specs.Meaning.{Meaning}
use Rattle.tables.specs.Program.{Program}
use Rattle.tables.specs.WellFormed.{WellFormed}
use Rattle.reports.specs.declared.report.Report.{Report}
use Rattle.walks.specs.declared.outcome.Ending.{Ending}
use Rattle.walks.specs.declared.outcome.Ending.TheVariants.{Failed, Full}
use Rattle.walks.specs.declared.outcome.Outcome.{Outcome}
use Rattle.walks.specs.declared.outcome.Outcome.TheVariants.{Ended}
use Rattle.walks.specs.Leaves.{Leaf, Before, Ascending}
use Rattle.threads.specs.Plays as plays
use Rattle.threads.specs.Plays.{play}
use Rattle.threads.specs.Reports as threads
use Rattle.sequences.specs.Drives as drives
use Rattle.sequences.specs.Drives.{drive}
use Rattle.sequences.specs.Sequences as sequences

-- a leaf that ends so
abbrev pub LeafOf : Ending → (List ℕ → Outcome) → List ℕ → Type 0
LeafOf e out l = Leaf out l × (out l ≡ Ended e)

-- The rows are the lists with a property, all of them and each once, in dictionary order.
pub record Enumerates (P : List ℕ → Type 0) (rows : List (List ℕ)) : Type 0 where
  pub only : AllByRecursion P rows
  pub every : (s : List ℕ) → P s → Has rows s
  pub order : Ascending rows

-- x does not come after y in dictionary order
abbrev pub NotAfter : List ℕ → List ℕ → Type 0
NotAfter x y = Before y x → ⊥

-- All that a run is told: what is reported of it, its slot counts, and the codes in the program's cells.
pub record Told : Type 0 where
  pub report : Report
  pub counts : List ℕ
  pub cells : List ℕ

-- a program, and so many rounds
module _ (k : Meaning) (p : Program) (rounds : ℕ) where
  -- what Play tells of a schedule
  abbrev pub play_told : List ℕ → Told
  play_told s =
      let r = play k p rounds s in
      record { report = threads.reported r; counts = r.counts; cells = plays.cells_of p r.state }

  -- what Drive tells of a guess list
  abbrev pub drive_told : List ℕ → Told
  drive_told g =
      let r = drive k p rounds g in
      record { report = sequences.reported r; counts = r.counts; cells = drives.cells_of p r.state }

  -- the meaning of the thread machine, and that of the sequential program
  abbrev pub scheduled : List ℕ → Outcome
  scheduled s = (play k p rounds s).outcome

  abbrev pub guessed : List ℕ → Outcome
  guessed g = (drive k p rounds g).outcome

  -- the schedule of a guess list: its slot counts
  abbrev pub schedule : List ℕ → List ℕ
  schedule g = (drive k p rounds g).counts

  -- The leaves that end so are one to one: each guess list has its schedule, and each schedule one guess list, with the same told of both.
  pub record OneToOne (e : Ending) : Type 0 where
    pub made : (g : List ℕ) → LeafOf e guessed g → LeafOf e scheduled (schedule g)
    pub every : (s : List ℕ) → LeafOf e scheduled s → (g : List ℕ) × LeafOf e guessed g × (schedule g ≡ s)
    pub one : (g h : List ℕ) → LeafOf e guessed g → LeafOf e guessed h → schedule g ≡ schedule h → g ≡ h
    pub told : (g : List ℕ) → LeafOf e guessed g → drive_told g ≡ play_told (schedule g)

  -- As many leaves of one machine end so as of the other: in all, and up to a guess list that ends so and its schedule.
  pub record EquallyMany (e : Ending) : Type 0 where
    pub all : (gs ss : List (List ℕ)) → Enumerates (LeafOf e guessed) gs → Enumerates (LeafOf e scheduled) ss → length gs ≡ length ss
    pub up_to : (g : List ℕ) → LeafOf e guessed g → (gs ss : List (List ℕ))
        → Enumerates (λ x. LeafOf e guessed x × NotAfter x g) gs → Enumerates (λ x. LeafOf e scheduled x × NotAfter x (schedule g)) ss → length gs ≡ length ss

  -- a leaf that fails or is full
  abbrev pub Kept : List ℕ → Type 0
  Kept g = LeafOf Failed guessed g ⊎ LeafOf Full guessed g

  -- the one that comes first has the schedule that comes first
  abbrev pub InOrder : Type 0
  InOrder = (g h : List ℕ) → Kept g → Kept h → Before g h → Before (schedule g) (schedule h)

  pub record Agrees : Type 0 where
    pub failing : OneToOne Failed
    pub full : OneToOne Full
    pub order : InOrder
    pub failing_many : EquallyMany Failed
    pub full_many : EquallyMany Full

-- for every kind, every program that exists and every number of rounds
abbrev pub MachinesAgree : Type 0
MachinesAgree = (k : Meaning) (p : Program) (rounds : ℕ) → WellFormed k p → 1 ≤ rounds → rounds ≤ 8 → Agrees k p rounds
