-- The thread machine's state as the sequential program holds it: its words, cells and locals.
use Rattle.std.specs.Prelude.{◌≡◌, ℕ, ◌+◌, ◌-◌, ◌<◌, cond, List, [], ◌∷◌, ◌++◌, map, length, set, slice_index, slice_index_or, slice_set, refl}
use Rattle.std.proofs.Common.{sym, ap, ap₂, ◌∙◌, arith}
use Rattle.std.proofs.Math.ListN.{get_or-map}
use Rattle.std.proofs.Math.Seq.{map-set_same}
use Rattle.std.proofs.lemmas.List.{get_or_append_left, get_or-append_right, set-append_right, length-map, map-set, set-append_left}
use Rattle.kinds.specs.Meaning.{Meaning}
use Rattle.records.specs.declared.statement.Place.{Place}
use Rattle.records.specs.declared.statement.Place.TheVariants.{Shared, Local}
use Rattle.states.specs.declared.entries.ThreadEntry.{ThreadEntry}
use Rattle.states.specs.declared.state.MutexState.{MutexState}
use Rattle.states.specs.declared.state.MutexState.TheVariants.{Free, Destroyed, Held}
use Rattle.states.specs.declared.state.State.{State}
use Rattle.states.specs.Entries.{no_entry, labelled, with_local, awake}
use Rattle.states.specs.States as threads
use Rattle.states.specs.States.{label, created, mutex, entry, go, mark, create, beginning}
use Rattle.tables.specs.Program.{Program}
use Rattle.sequences.specs.declared.state.SeqState.{SeqState}
use Rattle.sequences.specs.States.{word, with_word, value, put, begun}
use Rattle.sequences.specs.Words.{active, saved, lock, stop_at}
use Rattle.guesses.specs.Entries.{Sized, lab}

-- the number in the word of a thread's activity, and in that of a mutex
abbrev pub active_word : ThreadEntry → ℕ
active_word e = cond e.created 1 0

abbrev pub label_word : ThreadEntry → ℕ
label_word e = e.label.0

abbrev pub lock_word : MutexState → ℕ
lock_word Free = 0
lock_word Destroyed = 1
lock_word (Held j) = 2 + j.0

abbrev locals_in : ThreadEntry → List ℕ
locals_in e = e.locals

-- the state, with cs in the word that says where the thread that runs is to stop
abbrev pub seen : State → ℕ → SeqState
seen s cs = record {
  words = map active_word s.threads.entries ++ (map label_word s.threads.entries ++ (map lock_word s.mutexes ++ cs ∷ []));
  cells = s.cells;
  locals = map locals_in s.threads.entries;
}

-- four parts of which the first three have eight numbers each
module _ (xs ys zs : List ℕ) (c : ℕ) (ex : length xs ≡ 8) (ey : length ys ≡ 8) (ez : length zs ≡ 8) where
  abbrev joined : List ℕ
  joined = xs ++ (ys ++ (zs ++ c ∷ []))

  second : (j : ℕ) → (8 + j) - 8 ≡ j
  second j = omega arith

  third : (j : ℕ) → ((16 + j) - 8) - 8 ≡ j
  third j = omega arith

  first_part : (j : ℕ) → j < 8 → slice_index joined j ≡ slice_index xs j
  first_part j h = get_or_append_left xs (ys ++ (zs ++ c ∷ [])) 0 j (omega arith)

  second_part : (j : ℕ) → j < 8 → slice_index joined (8 + j) ≡ slice_index ys j
  second_part j h =
      get_or-append_right xs (ys ++ (zs ++ c ∷ [])) 8 (8 + j) 0 ex (omega arith)
      ∙ ap (λ n. slice_index (ys ++ (zs ++ c ∷ [])) n) (second j)
      ∙ get_or_append_left ys (zs ++ c ∷ []) 0 j (omega arith)

  third_part : (j : ℕ) → j < 8 → slice_index joined (16 + j) ≡ slice_index zs j
  third_part j h =
      get_or-append_right xs (ys ++ (zs ++ c ∷ [])) 8 (16 + j) 0 ex (omega arith)
      ∙ get_or-append_right ys (zs ++ c ∷ []) 8 ((16 + j) - 8) 0 ey (omega arith)
      ∙ ap (λ n. slice_index (zs ++ c ∷ []) n) (third j)
      ∙ get_or_append_left zs (c ∷ []) 0 j (omega arith)

  last_part : slice_index_or joined 24 0 ≡ c
  last_part =
      get_or-append_right xs (ys ++ (zs ++ c ∷ [])) 8 24 0 ex (omega arith)
      ∙ get_or-append_right ys (zs ++ c ∷ []) 8 16 0 ey (omega arith)
      ∙ get_or-append_right zs (c ∷ []) 8 8 0 ez (omega arith)

  set_first : (j v : ℕ) → j < 8 → slice_set joined j v ≡ slice_set xs j v ++ (ys ++ (zs ++ c ∷ []))
  set_first j v h = set-append_left xs (ys ++ (zs ++ c ∷ [])) j v (omega arith)

  set_second : (j v : ℕ) → j < 8 → slice_set joined (8 + j) v ≡ xs ++ (slice_set ys j v ++ (zs ++ c ∷ []))
  set_second j v h =
      set-append_right xs (ys ++ (zs ++ c ∷ [])) 8 (8 + j) v ex (omega arith)
      ∙ ap (λ n. xs ++ slice_set (ys ++ (zs ++ c ∷ [])) n v) (second j)
      ∙ ap (λ r. xs ++ r) (set-append_left ys (zs ++ c ∷ []) j v (omega arith))

  set_third : (j v : ℕ) → j < 8 → slice_set joined (16 + j) v ≡ xs ++ (ys ++ (slice_set zs j v ++ c ∷ []))
  set_third j v h =
      set-append_right xs (ys ++ (zs ++ c ∷ [])) 8 (16 + j) v ex (omega arith)
      ∙ ap (λ r. xs ++ r) (set-append_right ys (zs ++ c ∷ []) 8 ((16 + j) - 8) v ey (omega arith)
      ∙ ap (λ n. ys ++ slice_set (zs ++ c ∷ []) n v) (third j)
      ∙ ap (λ r. ys ++ r) (set-append_left zs (c ∷ []) j v (omega arith)))

  set_last : (v : ℕ) → slice_set joined 24 v ≡ xs ++ (ys ++ (zs ++ v ∷ []))
  set_last v =
      set-append_right xs (ys ++ (zs ++ c ∷ [])) 8 24 v ex (omega arith)
      ∙ ap (λ r. xs ++ r) (set-append_right ys (zs ++ c ∷ []) 8 16 v ey (omega arith)
      ∙ ap (λ r. ys ++ r) (set-append_right zs (c ∷ []) 8 8 v ez (omega arith)))

-- a state of the sequential program, but for its words, or for its words and locals
abbrev with_words : SeqState → List ℕ → SeqState
with_words q ws = record { words = ws; cells = q.cells; locals = q.locals }

abbrev with_both : SeqState → List ℕ → List (List ℕ) → SeqState
with_both q ws ls = record { words = ws; cells = q.cells; locals = ls }

module _ (s : State) (cs : ℕ) where
  abbrev es : List ThreadEntry
  es = s.threads.entries

  abbrev actives : List ℕ
  actives = map active_word es

  abbrev labels : List ℕ
  labels = map label_word es

  abbrev locks : List ℕ
  locks = map lock_word s.mutexes

  -- an entry changed in its label only, or in other parts only
  entry_words : (i : ℕ) (e : ThreadEntry) → e.created ≡ (entry s i).created → e.label ≡ (entry s i).label → (seen (threads.change s i e) cs).words ≡ (seen s cs).words
  entry_words i e c l =
      ap₂ (λ a b. a ++ (b ++ (locks ++ cs ∷ [])))
      (map-set_same active_word es i e no_entry (ap (λ b. cond b 1 0) c)) (map-set_same label_word es i e no_entry (ap (λ t. t.0) l))

  -- what is read
  pub seen_value : (k : Meaning) (i : ℕ) (a : Place) → value k (seen s cs) i a ≡ threads.value k s i a
  seen_value k i (Shared n) = refl
  seen_value k i (Local n) = ap (λ ls. slice_index_or ls n k.fresh) (get_or-map locals_in es i no_entry)

  pub seen_put : (i : ℕ) (d : Place) (c : ℕ) → put (seen s cs) i d c ≡ seen (threads.put s i d c) cs
  seen_put i (Shared n) c = refl
  seen_put i (Local n) c =
      let e = with_local (entry s i) n c in
      ap₂ (with_both (seen s cs)) (sym (entry_words i e refl refl))
      (ap (λ ls. set (map locals_in es) i (slice_set ls n c)) (get_or-map locals_in es i no_entry) ∙ sym (map-set locals_in es i e))

  module _ (z : Sized s) where
    len_actives : length actives ≡ 8
    len_actives = length-map es active_word ∙ z.entries

    len_labels : length labels ≡ 8
    len_labels = length-map es label_word ∙ z.entries

    len_locks : length locks ≡ 8
    len_locks = length-map s.mutexes lock_word ∙ z.mutexes

    pub seen_active : (j : ℕ) → j < 8 → word (seen s cs) (active j) ≡ cond (created s j) 1 0
    seen_active j h = first_part actives labels locks cs len_actives len_labels len_locks j h ∙ get_or-map active_word es j no_entry

    pub seen_label : (j : ℕ) → j < 8 → word (seen s cs) (saved j) ≡ label s j
    seen_label j h = second_part actives labels locks cs len_actives len_labels len_locks j h ∙ get_or-map label_word es j no_entry

    pub seen_lock : (m : ℕ) → m < 8 → word (seen s cs) (lock m) ≡ lock_word (mutex s m)
    seen_lock m h = third_part actives labels locks cs len_actives len_labels len_locks m h ∙ get_or-map lock_word s.mutexes m Free

    pub seen_stop : word (seen s cs) stop_at ≡ cs
    seen_stop = last_part actives labels locks cs len_actives len_labels len_locks

    pub save_label : (j t : ℕ) → j < 8 → with_word (seen s cs) (saved j) t ≡ seen (go s j (lab t)) cs
    save_label j t h =
        let e = labelled (entry s j) (lab t) in
        ap₂ (with_both (seen s cs))
        (set_second actives labels locks cs len_actives len_labels len_locks j t h
        ∙ ap₂ (λ a b. a ++ (b ++ (locks ++ cs ∷ []))) (sym (map-set_same active_word es j e no_entry refl)) (sym (map-set label_word es j e)))
        (sym (map-set_same locals_in es j e no_entry refl))

    pub wake : (j : ℕ) → j < 8 → with_word (seen s cs) (active j) 1 ≡ seen (create s j) cs
    wake j h =
        let e = awake (entry s j) in
        ap₂ (with_both (seen s cs))
        (set_first actives labels locks cs len_actives len_labels len_locks j 1 h
        ∙ ap₂ (λ a b. a ++ (b ++ (locks ++ cs ∷ []))) (sym (map-set active_word es j e)) (sym (map-set_same label_word es j e no_entry refl)))
        (sym (map-set_same locals_in es j e no_entry refl))

    pub set_lock : (m v : ℕ) (h : MutexState) → m < 8 → v ≡ lock_word h → with_word (seen s cs) (lock m) v ≡ seen (mark s m h) cs
    set_lock m v h lt e =
        ap (with_words (seen s cs))
        (set_third actives labels locks cs len_actives len_labels len_locks m v lt
        ∙ ap (λ r. actives ++ (labels ++ (r ++ cs ∷ []))) (ap (set locks m) e ∙ sym (map-set lock_word s.mutexes m h)))

    pub set_stop : (c : ℕ) → with_word (seen s cs) stop_at c ≡ seen s c
    set_stop c = ap (with_words (seen s cs)) (set_last actives labels locks cs len_actives len_labels len_locks c)

-- both machines begin alike
pub seen_start : (k : Meaning) (p : Program) → begun k p.cells ≡ seen (beginning k p) 0
seen_start k p = refl

pub sized_start : (k : Meaning) (p : Program) → Sized (beginning k p)
sized_start k p = record { entries = refl; mutexes = refl }
