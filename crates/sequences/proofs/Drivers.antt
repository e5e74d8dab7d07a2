-- How long a driver is.
use Rattle.std.proofs.Common.{◌≡◌, ℕ, zero, suc, ◌+◌, ◌*◌, ◌%◌, ◌≤◌, List, [], ◌∷◌, map, length, take, arith}
use Rattle.std.specs.List.{range_with_len}
use Rattle.std.proofs.lemmas.Nat.{mul-le}
use Rattle.std.proofs.lemmas.List.{take_all}
use Rattle.tables.specs.Program.{Program}
use Rattle.tables.specs.Slots.{slot_total, program_slots}
use Rattle.sequences.specs.Code.{driver_from, driver}

driver_long : (p : Program) (is : List ℕ) (h : ℕ) → length (driver_from p is h) ≡ 4 * length is + 1
driver_long p [] h = omega arith
driver_long p (i ∷ is) h = let e = driver_long p is (4 + h) in omega arith

slots_long : (f : ℕ → ℕ) (a n : ℕ) → length (map f (range_with_len a n)) ≡ n
slots_long f a zero = omega arith
slots_long f a (suc n) = let e = slots_long f (a + 1) n in omega arith

pub driver_few : (p : Program) (rounds : ℕ) → slot_total p rounds ≤ 64 → length (driver p rounds) ≤ 257
driver_few p rounds h =
    let n = slot_total p rounds in
    let a = driver_long p (program_slots p n) 0 in
    let b = slots_long (λ q. q % length p.texts) 0 n in
    omega arith

pub driver_fits : (p : Program) (rounds : ℕ) → rounds ≤ 8 → length p.texts ≤ 8 → take 257 (driver p rounds) ≡ driver p rounds
driver_fits p rounds r t = take_all 257 (driver p rounds) (driver_few p rounds (mul-le rounds (length p.texts) 8 8 r t))
