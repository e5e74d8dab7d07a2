-- The kind of value that a file is for.
use Rattle.std.specs.Prelude.{ℕ, cond, List, ◌==◌, slice_index}
use Rattle.kinds.specs.Meaning.{Meaning}
use Rattle.kinds.specs.Truth.{truth}
use Rattle.kinds.specs.Words.{words}
use Rattle.hosts.specs.declared.known.KnownKind.{KnownKind}
use Rattle.hosts.specs.declared.known.KnownKind.TheVariants.{Words, Truth}

-- truth values where the file says so, words otherwise
abbrev pub known : List ℕ → KnownKind
known f = cond (slice_index f 2 == 2) Truth Words

abbrev pub meaning_of : KnownKind → Meaning
meaning_of Words = words
meaning_of Truth = truth

abbrev pub kind_of : List ℕ → Meaning
kind_of f = meaning_of (known f)
