-- Lists that are cut at the end of their room.
use Rattle.std.proofs.Common.{◌≡◌, ℕ, zero, suc, ◌+◌, ◌<◌, ◌≤◌, List, [], ◌∷◌, ◌++◌, length, take, slice_index_or, sym, refl, ap, ◌∙◌, append_assoc, append-nil}
use Rattle.std.proofs.lemmas.List.{take_all, take_more}

module _ {X : Type 0} where
  take_twice : (n : ℕ) (us ys : List X) → take n (take n us ++ ys) ≡ take n (us ++ ys)
  take_twice zero us ys = refl
  take_twice (suc n) [] ys = refl
  take_twice (suc n) (u ∷ us) ys = ap (λ l. u ∷ l) (take_twice n us ys)

  -- one piece behind another
  pub room_more : (n : ℕ) (old mid new xs ys : List X) → mid ≡ take n (old ++ xs) → new ≡ take n (mid ++ ys) → new ≡ take n (old ++ (xs ++ ys))
  room_more n old mid new xs ys em en =
      en ∙ ap (λ l. take n (l ++ ys)) em ∙ take_twice n (old ++ xs) ys ∙ ap (take n) (append_assoc old xs ys)

  -- what is left behind a piece comes to the whole
  pub room_left : (n : ℕ) (old new xs ys : List X) → new ≡ take n (old ++ xs) → take n (new ++ ys) ≡ take n (old ++ (xs ++ ys))
  room_left n old new xs ys e = room_more n old new (take n (new ++ ys)) xs ys e refl

  -- no piece
  pub room_same : (n : ℕ) (old : List X) → length old ≤ n → old ≡ take n (old ++ [])
  room_same n old l = sym (ap (take n) (append-nil old) ∙ take_all n old l)

  -- the next item of a piece
  pub room_next : (n : ℕ) (old now new xs : List X) (i : ℕ) (x : X) → i < length xs → x ≡ slice_index_or xs i x → now ≡ take n (old ++ take i xs) → new ≡ take n (now ++ x ∷ []) → new ≡ take n (old ++ take (i + 1) xs)
  room_next n old now new xs i x l e en ew =
      room_more n old now new (take i xs) (x ∷ []) en ew
      ∙ ap (λ (y : X). take n (old ++ (take i xs ++ y ∷ []))) e
      ∙ ap (λ l. take n (old ++ l)) (sym (take_more xs i x l))
