-- What a kind of value means: its functions on codes, and the law that it keeps.
use Rattle.std.specs.Prelude.{◌≡◌, ℕ, Bool, true}

-- One record for a whole kind, so that a statement over every kind is a statement over every record that keeps the law.
pub record Meaning : Type 0 where
  pub byte : ℕ
  pub fresh : ℕ
  pub sum : ℕ → ℕ → ℕ
  pub difference : ℕ → ℕ → ℕ
  pub less : ℕ → ℕ → ℕ
  pub same : ℕ → ℕ → ℕ
  pub holds : ℕ → Bool
  pub lawful : ℕ → Bool

-- a function of two codes gives lawful codes for lawful ones
abbrev pub Closed : (ℕ → Bool) → (ℕ → ℕ → ℕ) → Type 0
Closed lawful f = (a b : ℕ) → lawful a ≡ true → lawful b ≡ true → lawful (f a b) ≡ true

-- The law: the fresh code is lawful, and lawful codes give lawful codes.
pub record Lawful (k : Meaning) : Type 0 where
  pub fresh : k.lawful k.fresh ≡ true
  pub sum : Closed k.lawful k.sum
  pub difference : Closed k.lawful k.difference
  pub less : Closed k.lawful k.less
  pub same : Closed k.lawful k.same
