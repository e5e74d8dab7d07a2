-- Steps along the digits of a text.
use Rattle.std.proofs.Common.{◌≡◌, ℕ, ◌+◌, ◌*◌, ◌%◌, ◌<◌, ◌≤◌, List, [], ◌∷◌, ◌++◌, length, get_or, drop, Some, None, Option, sym, refl, ap, ◌∙◌, arith}
use Rattle.std.specs.Option.{option_map}
use Rattle.std.proofs.lemmas.List.{append_assoc, append-nil, drop_more, drop_all}
use Rattle.replay.specs.Hex.{byte, consed, bytes}

-- bytes in front of those that are left
abbrev pub behind : List ℕ → Option (List ℕ) → Option (List ℕ)
behind xs o = option_map (λ ys. xs ++ ys) o

consed_none : (o : Option ℕ) → consed o None ≡ None
consed_none None = refl
consed_none (Some b) = refl

-- an odd number of digits spells no bytes
pub odd : (t : List ℕ) → (length t % 2 ≡ 0 → ⊥) → bytes t ≡ None
unfolding bytes
odd [] h = absurd (h refl)
odd (a ∷ []) h = refl
odd (a ∷ b ∷ r) h = rw (odd r (λ e. h (omega arith))) (consed_none (byte a b))

start : (o : Option (List ℕ)) → behind [] o ≡ o
start None = refl
start (Some ys) = refl

pub none : (t : List ℕ) → behind [] (bytes (drop 0 t)) ≡ bytes t
none t = start (bytes t)

-- two digits on
pub two : (t : List ℕ) (i : ℕ) → 2 * i + 1 < length t →
    bytes (drop (2 * i) t) ≡ consed (byte (get_or t (2 * i) 0) (get_or t (2 * i + 1) 0)) (bytes (drop (2 * (i + 1)) t))
unfolding bytes
two t i h =
    let one = drop_more t (2 * i) 0 (omega arith) in
    let next = drop_more t (2 * i + 1) 0 h in
    let e : 2 * i + 1 + 1 ≡ 2 * (i + 1) = omega arith in
    ap bytes (one ∙ ap (λ r. get_or t (2 * i) 0 ∷ r) (next ∙ ap (λ n. get_or t (2 * i + 1) 0 ∷ drop n t) e))

joins : (xs : List ℕ) (b : ℕ) (o : Option (List ℕ)) → behind xs (consed (Some b) o) ≡ behind (xs ++ b ∷ []) o
joins xs b None = refl
joins xs b (Some ys) = ap Some (sym (append_assoc xs (b ∷ []) ys))

-- a byte more
pub more : (t xs : List ℕ) (i b : ℕ) → 2 * i + 1 < length t → byte (get_or t (2 * i) 0) (get_or t (2 * i + 1) 0) ≡ Some b →
    behind xs (bytes (drop (2 * i) t)) ≡ bytes t → behind (xs ++ b ∷ []) (bytes (drop (2 * (i + 1)) t)) ≡ bytes t
more t xs i b h e p =
    let left = bytes (drop (2 * (i + 1)) t) in
    sym (joins xs b left) ∙ ap (λ o. behind xs (consed o left)) (sym e) ∙ ap (behind xs) (sym (two t i h)) ∙ p

-- two digits that are none
pub stop : (t xs : List ℕ) (i : ℕ) → 2 * i + 1 < length t → byte (get_or t (2 * i) 0) (get_or t (2 * i + 1) 0) ≡ None →
    behind xs (bytes (drop (2 * i) t)) ≡ bytes t → bytes t ≡ None
stop t xs i h e p =
    sym p ∙ ap (behind xs) (two t i h) ∙ ap (λ o. behind xs (consed o (bytes (drop (2 * (i + 1)) t)))) e

-- no digit left
pub all : (t xs : List ℕ) (i : ℕ) → length t ≤ 2 * i → behind xs (bytes (drop (2 * i) t)) ≡ bytes t → Some xs ≡ bytes t
unfolding bytes
all t xs i h p =
    ap Some (sym (append-nil xs)) ∙ ap (λ r. behind xs (bytes r)) (sym (drop_all (2 * i) t h)) ∙ p

-- no digits spell no bytes
pub blank : (t : List ℕ) → t ≡ [] → Some [] ≡ bytes t
unfolding bytes
blank t e = rw e refl
