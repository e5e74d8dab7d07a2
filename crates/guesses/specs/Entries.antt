-- A thread's label changed, beside the other changes of a state.
use Rattle.std.specs.Prelude.{◌≡◌, ℕ, zero, suc, ◌<◌, List, [], ◌∷◌, length, get_or, ◌≢◌, slice_index_or, slice_set, refl}
use Rattle.std.proofs.Common.{ap, ◌∙◌, arith, length-set}
use Rattle.kinds.specs.Meaning.{Meaning}
use Rattle.records.specs.declared.statement.Label.{Label}
use Rattle.records.specs.declared.statement.Place.{Place}
use Rattle.records.specs.declared.statement.Place.TheVariants.{Shared, Local}
use Rattle.states.specs.declared.entries.ThreadEntry.{ThreadEntry}
use Rattle.states.specs.declared.state.MutexState.{MutexState}
use Rattle.states.specs.declared.state.State.{State}
use Rattle.states.specs.Entries.{no_entry, labelled, with_local, awake}
use Rattle.states.specs.States.{label, go, value, put, mark, create}

abbrev pub lab : ℕ → Label
lab t = record { 0 = t }

-- one element changed
abbrev modify : {A : Type 0} → A → List A → ℕ → (A → A) → List A
modify d xs i f = slice_set xs i (f (slice_index_or xs i d))

module _ {A : Type 0} (d : A) where
  modify_comm : (f g : A → A) → ((x : A) → f (g x) ≡ g (f x)) → (xs : List A) (i j : ℕ) → modify d (modify d xs j g) i f ≡ modify d (modify d xs i f) j g
  modify_comm f g e [] i j = refl
  modify_comm f g e (x ∷ xs) zero zero = ap (λ y. y ∷ xs) (e x)
  modify_comm f g e (x ∷ xs) zero (suc j) = refl
  modify_comm f g e (x ∷ xs) (suc i) zero = refl
  modify_comm f g e (x ∷ xs) (suc i) (suc j) = ap (λ ys. x ∷ ys) (modify_comm f g e xs i j)

  modify_twice : (f g h : A → A) → ((x : A) → f (g x) ≡ h x) → (xs : List A) (i : ℕ) → modify d (modify d xs i g) i f ≡ modify d xs i h
  modify_twice f g h e [] i = refl
  modify_twice f g h e (x ∷ xs) zero = ap (λ y. y ∷ xs) (e x)
  modify_twice f g h e (x ∷ xs) (suc i) = ap (λ ys. x ∷ ys) (modify_twice f g h e xs i)

  -- a part that the change leaves alone
  get_d_part : {B : Type 0} (r : A → B) (f : A → A) → ((x : A) → r (f x) ≡ r x) → (xs : List A) (i j : ℕ) → r (slice_index_or (modify d xs i f) j d) ≡ r (slice_index_or xs j d)
  get_d_part r f e [] i j = refl
  get_d_part r f e (x ∷ xs) zero zero = e x
  get_d_part r f e (x ∷ xs) zero (suc j) = refl
  get_d_part r f e (x ∷ xs) (suc i) zero = refl
  get_d_part r f e (x ∷ xs) (suc i) (suc j) = get_d_part r f e xs i j

  getD_same : (f : A → A) (xs : List A) (i : ℕ) → i < length xs → slice_index_or (modify d xs i f) i d ≡ f (slice_index_or xs i d)
  getD_same f [] i h = absurd (let z : ⊥ = omega arith in z)
  getD_same f (x ∷ xs) zero h = refl
  getD_same f (x ∷ xs) (suc i) h = getD_same f xs i (omega arith)

  getD_other : (f : A → A) (xs : List A) (i j : ℕ) → (i ≢ j) → slice_index_or (modify d xs i f) j d ≡ slice_index_or xs j d
  getD_other f [] i j h = refl
  getD_other f (x ∷ xs) zero zero h = absurd (h refl)
  getD_other f (x ∷ xs) zero (suc j) h = refl
  getD_other f (x ∷ xs) (suc i) zero h = refl
  getD_other f (x ∷ xs) (suc i) (suc j) h = getD_other f xs i j (λ e. h (ap suc e))

  modify_none : (f : A → A) (xs : List A) (i : ℕ) → f (slice_index_or xs i d) ≡ slice_index_or xs i d → modify d xs i f ≡ xs
  modify_none f [] i e = refl
  modify_none f (x ∷ xs) zero e = ap (λ y. y ∷ xs) e
  modify_none f (x ∷ xs) (suc i) e = ap (λ ys. x ∷ ys) (modify_none f xs i e)

-- a state, but for its entries
abbrev with_entries : State → List ThreadEntry → State
with_entries s es = record { cells = s.cells; mutexes = s.mutexes; threads = record { entries = es } }

-- to the label t
abbrev at_label : ℕ → ThreadEntry → ThreadEntry
at_label t e = labelled e (lab t)

module _ (s : State) (i : ℕ) where
  pub go_go : (t u : ℕ) → go (go s i (lab t)) i (lab u) ≡ go s i (lab u)
  go_go t u = ap (with_entries s) (modify_twice no_entry (at_label u) (at_label t) (at_label u) (λ e. refl) s.threads.entries i)

  -- a thread that goes to its own label
  pub go_stay : go s i (lab (label s i)) ≡ s
  go_stay = ap (with_entries s) (modify_none no_entry (at_label (label s i)) s.threads.entries i refl)

  pub go_label : (t : ℕ) → i < length s.threads.entries → label (go s i (lab t)) i ≡ t
  go_label t h = ap (λ (e : ThreadEntry). e.label.0) (getD_same no_entry (at_label t) s.threads.entries i h)

  pub go_other : (t j : ℕ) → (i ≢ j) → label (go s i (lab t)) j ≡ label s j
  go_other t j ne = ap (λ (e : ThreadEntry). e.label.0) (getD_other no_entry (at_label t) s.threads.entries i j ne)

  pub go_value : (k : Meaning) (t j : ℕ) (a : Place) → value k (go s i (lab t)) j a ≡ value k s j a
  go_value k t j (Shared n) = refl
  go_value k t j (Local n) = ap (λ ls. get_or ls n k.fresh) (get_d_part no_entry (λ (e : ThreadEntry). e.locals) (at_label t) (λ e. refl) s.threads.entries i j)

  pub go_create : (t j : ℕ) → create (go s i (lab t)) j ≡ go (create s j) i (lab t)
  go_create t j = ap (with_entries s) (modify_comm no_entry awake (at_label t) (λ e. refl) s.threads.entries j i)

  pub go_put : (t j : ℕ) (d : Place) (c : ℕ) → put (go s i (lab t)) j d c ≡ go (put s j d c) i (lab t)
  go_put t j (Shared n) c = refl
  go_put t j (Local n) c = ap (with_entries s) (modify_comm no_entry (λ e. with_local e n c) (at_label t) (λ e. refl) s.threads.entries j i)

-- The tables of a state have eight places each.
pub record Sized (s : State) : Type 0 where
  pub entries : length s.threads.entries ≡ 8
  pub mutexes : length s.mutexes ≡ 8

pub sized_change : (s : State) (i : ℕ) (e : ThreadEntry) → Sized s → length (slice_set s.threads.entries i e) ≡ 8
sized_change s i e z = length-set s.threads.entries i e ∙ z.entries

pub sized_go : (s : State) (i t : ℕ) → Sized s → Sized (go s i (lab t))
sized_go s i t z = record { entries = sized_change s i _ z; mutexes = z.mutexes }

pub sized_put : (s : State) (i : ℕ) (d : Place) (c : ℕ) → Sized s → Sized (put s i d c)
sized_put s i (Shared n) c z = record { entries = z.entries; mutexes = z.mutexes }
sized_put s i (Local n) c z = record { entries = sized_change s i _ z; mutexes = z.mutexes }

pub sized_create : (s : State) (j : ℕ) → Sized s → Sized (create s j)
sized_create s j z = record { entries = sized_change s j _ z; mutexes = z.mutexes }

pub sized_mark : (s : State) (m : ℕ) (h : MutexState) → Sized s → Sized (mark s m h)
sized_mark s m h z = record { entries = z.entries; mutexes = length-set s.mutexes m h ∙ z.mutexes }
