-- What the words of a command line name.
use Rattle.std.specs.Prelude.{◌≡◌, ℕ, ◌≤◌, vec_len}
use Rattle.look.specs.declared.request.Task.{Task}
use Rattle.look.specs.declared.request.Task.TheVariants.{Play, Survey}

-- a schedule has a number for each word; a survey has none, or a flag and a number
abbrev pub Named : ℕ → Task → Type 0
Named words (Play numbers) = vec_len numbers ≡ words
Named words (Survey most) = words ≤ 2
