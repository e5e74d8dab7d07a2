-- What the words of a line say.
use Rattle.std.specs.Prelude.{◌≡◌, ℕ, ◌<◌, ◌≤◌, min, cond, List, [], map, length, take, drop, Some, vec_items, codes, ◌==◌, slice_index_or}
use Rattle.std.specs.Borrow.{Bor}
use Rattle.std.specs.List.{join_with_byte}
use Rattle.hosts.specs.Numerals.{numeral}
use Rattle.replay.specs.declared.call.Call.{Call}
use Rattle.replay.specs.declared.call.Call.TheVariants.{Load, Translate, Survey, Play, Save}
use Rattle.hosts.specs.declared.known.KnownKind.TheVariants.{Words, Truth}
use Rattle.replay.specs.declared.call.Line.{Line}
use Rattle.replay.specs.declared.call.Line.TheVariants as line
use Rattle.replay.specs.Hex.{bytes}

abbrev pub Word : Type 0
Word = Bor (List ℕ)

-- what stands where a line has no word
abbrev pub no_word : Word
no_word = record { ref_ptr = (0, 0); now = [] }

-- the text of the i-th word
abbrev pub word : List Word → ℕ → List ℕ
word ws i = (slice_index_or ws i no_word).now

abbrev pub spelt : Word → ℕ
spelt w = numeral w.now

-- the length of the buffer that a word asks for; none is longer than 65536
abbrev pub room : List ℕ → ℕ
room w = min (numeral w) 65536

-- the length that the i-th word asks for, and an ample one where there are no words
abbrev pub room_at : List Word → ℕ → ℕ
room_at ws i = cond (length ws == 0) 65536 (room (word ws i))

-- a place of a slash, or that behind the last word
abbrev pub Slash : List Word → ℕ → Type 0
Slash ws n = (n ≤ length ws) × (n < length ws → word ws n ≡ codes "/")

-- what the words behind the name of a call say
abbrev pub Loads : List Word → Call → Type 0
Loads ws (Load file) = Some (vec_items file) ≡ bytes (word ws 0)
Loads ws (Translate rounds) = ⊥
Loads ws (Survey b) = ⊥
Loads ws (Play numbers counts cells) = ⊥
Loads ws (Save out) = ⊥

abbrev pub Translates : List Word → Call → Type 0
Translates ws (Load file) = ⊥
Translates ws (Translate rounds) = rounds ≡ numeral (word ws 0)
Translates ws (Survey b) = ⊥
Translates ws (Play numbers counts cells) = ⊥
Translates ws (Save out) = ⊥

abbrev pub Surveys : List Word → Call → Type 0
Surveys ws (Load file) = ⊥
Surveys ws (Translate rounds) = ⊥
Surveys ws (Survey b) = b ≡ numeral (word ws 0)
Surveys ws (Play numbers counts cells) = ⊥
Surveys ws (Save out) = ⊥

abbrev pub Plays : List Word → Call → Type 0
Plays ws (Load file) = ⊥
Plays ws (Translate rounds) = ⊥
Plays ws (Survey b) = ⊥
Plays ws (Play numbers counts cells) =
    (n : ℕ) × Slash ws n × (vec_items numbers ≡ map spelt (take n ws)) × (counts ≡ room_at (drop n ws) 1) × (cells ≡ room_at (drop n ws) 2)
Plays ws (Save out) = ⊥

abbrev pub Saves : List Word → Call → Type 0
Saves ws (Load file) = ⊥
Saves ws (Translate rounds) = ⊥
Saves ws (Survey b) = ⊥
Saves ws (Play numbers counts cells) = ⊥
Saves ws (Save out) = out ≡ room_at ws 1

-- what a call is named by, and what its words say
abbrev pub Calls : List ℕ → List Word → Call → Type 0
Calls name ws (Load file) = (name ≡ codes "load") × Loads ws (Load file)
Calls name ws (Translate rounds) = (name ≡ codes "translate") × Translates ws (Translate rounds)
Calls name ws (Survey b) = (name ≡ codes "survey") × Surveys ws (Survey b)
Calls name ws (Play numbers counts cells) = (name ≡ codes "play") × Plays ws (Play numbers counts cells)
Calls name ws (Save out) = (name ≡ codes "save") × Saves ws (Save out)

abbrev pub News : List Word → Line → Type 0
News ws (line.New Words) = (length ws ≡ 1) × (word ws 0 ≡ codes "words")
News ws (line.New Truth) = (length ws ≡ 1) × (word ws 0 ≡ codes "truth")
News ws (line.Call c) = ⊥

abbrev pub Named : List ℕ → List Word → Line → Type 0
Named name ws (line.New k) = (name ≡ codes "new") × News ws (line.New k)
Named name ws (line.Call c) = Calls name ws c

-- what a line says: a name, and the words behind it
abbrev pub Says : List Word → Line → Type 0
Says ws l = Named (word ws 0) (drop 1 ws) l

-- a text that blanks cut into such words
abbrev pub LineSays : List ℕ → Line → Type 0
LineSays t l = (ws : List Word) × (t ≡ join_with_byte 32 (map (λ (w : Word). w.now) ws)) × Says ws l
