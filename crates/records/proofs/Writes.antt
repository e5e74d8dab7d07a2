-- One write behind another.
use Rattle.std.proofs.Common.{◌≡◌, ℕ, ◌+◌, ◌-◌, ◌≤◌, List, [], ◌++◌, length, take, drop, ap, append_assoc, add-zero, arith, length-append}
use Rattle.std.proofs.lemmas.List.{take-append-drop, take_at, drop_at, drop-drop, length-take-le, length-drop}
use borrow.Rule.Slice.PartMut.{put_mid}
use Rattle.records.specs.Wrote.{wrote}

pub wrote_none : (out : List ℕ) (at : ℕ) → wrote out at [] ≡ out
wrote_none out at = rw add-zero (take-append-drop at out)

pub length_wrote : (out : List ℕ) (at : ℕ) (bs : List ℕ) → at + length bs ≤ length out → length (wrote out at bs) ≡ length out
length_wrote out at bs h =
    omega (arith, length-append (take at out) (bs ++ drop (at + length bs) out), length-append bs (drop (at + length bs) out), length-take-le at out (omega arith), length-drop (at + length bs) out)

pub wrote_more : (out : List ℕ) (at : ℕ) (bs cs : List ℕ) → at + length (bs ++ cs) ≤ length out → wrote (wrote out at bs) (at + length bs) cs ≡ wrote out at (bs ++ cs)
wrote_more out at bs cs h =
    let l = length-append bs cs in
    let n = at + length bs in
    let m = n + length cs in
    let p = take at out ++ bs in
    let lp : length p ≡ n = omega (arith, length-append (take at out) bs, length-take-le at out (omega arith)) in
    let w = append_assoc (take at out) bs (drop n out) in
    let e1 = take_at p (drop n out) n lp in
    let e2 = drop_at p (drop n out) n lp in
    let e3 = drop-drop (length cs) n (wrote out at bs) in
    let e4 = drop-drop (length cs) n out in
    let e5 : at + length (bs ++ cs) ≡ m = omega arith in
    let e6 = append_assoc (take at out) bs (cs ++ drop m out) in
    let e7 = append_assoc bs cs (drop m out) in
    cc

-- what `put` writes
pub put_is : (out : List ℕ) (at : ℕ) (r ys : List ℕ) → length r ≡ 10 → ys ≡ r → put_mid at (at + 10 - at) out ys ≡ wrote out at r
put_is out at r ys l u =
    let e : at + 10 - at ≡ 10 = omega arith in
    let g : at + 10 ≡ at + length r = omega arith in
    let d = drop-drop 10 at out in
    cc

-- a writer's turn: of the bytes that are left, the first are written
module _ (out out' : List ℕ) (at at' : ℕ) (bs rest all W : List ℕ) (n : ℕ) (parts : all ≡ bs ++ rest) (ends : at + length all ≡ n) where
  pub room : n ≤ length out → at + length bs ≤ length out
  room h = omega (arith, ap length parts, length-append bs rest)

  pub advance : n ≤ length out → out' ≡ wrote out at bs → at' ≡ at + length bs → wrote out at all ≡ W → (wrote out' at' rest ≡ W) × (at' + length rest ≡ n)
  advance h u v w =
      let l = length-append bs rest in
      let m = wrote_more out at bs rest (omega (arith, ap length parts)) in
      ((cc), omega (arith, ap length parts))

pub done : (out : List ℕ) (at : ℕ) (all W : List ℕ) (n : ℕ) → all ≡ [] → at + length all ≡ n → wrote out at all ≡ W → (out ≡ W) × (at ≡ n)
done out at all W n e l w =
    let z = wrote_none out at in
    ((cc), omega (arith, ap length e))

-- a record, and bytes behind it
pub both : (out out₁ out₂ : List ℕ) (at at₁ : ℕ) (r row bs : List ℕ) → r ≡ row → length row ≡ 10 → out₁ ≡ wrote out at r → at₁ ≡ at + 10 → out₂ ≡ wrote out₁ at₁ bs → at + length (row ++ bs) ≤ length out → out₂ ≡ wrote out at (row ++ bs)
both out out₁ out₂ at at₁ r row bs e l u v w h =
    let m = wrote_more out at row bs h in
    let z : at₁ ≡ at + length row = omega arith in
    cc
