use Rattle.std.proofs.Common.{◌≡◌, ◌*◌, drop, vec_items, vec_len}
use Rattle.replay.specs.Hex.{bytes}
use Rattle.replay.proofs.Hexes.{behind}
use Rattle.replay.proofs.hex.bytes_of.Given as goal

abbrev pub invariant-loop-i : goal.invariant-loop-i
invariant-loop-i l = (vec_len l.spelt ≡ l.i) × (behind (vec_items l.spelt) (bytes (drop (2 * l.i) l.digits)) ≡ bytes l.digits)
