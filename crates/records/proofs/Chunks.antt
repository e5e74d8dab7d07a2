-- A file cut into records.
use Rattle.std.proofs.Common.{◌≡◌, ℕ, zero, suc, ◌+◌, ◌*◌, ◌/◌, List, ◌∷◌, map, length, drop, refl, ap, ◌∙◌, arith}
use Rattle.std.specs.List.{range_with_len}
use Rattle.std.proofs.lemmas.List.{drop-drop}
use Rattle.std.specs.Simd.{first_chunks}
use Rattle.records.specs.Lines.{line, lines}

chunks_from : (k i : ℕ) (f : List ℕ) → first_chunks 10 k (drop (10 * i) f) ≡ map (line f) (range_with_len i k)
chunks_from zero i f = refl
chunks_from (suc k) i f =
    let e : 10 * i + 10 ≡ 10 * (i + 1) = omega arith in
    ap (λ rs. line f i ∷ rs) (ap (first_chunks 10 k) (drop-drop 10 (10 * i) f ∙ ap (λ n. drop n f) e) ∙ chunks_from k (i + 1) f)

pub chunks_lines : (f : List ℕ) → first_chunks 10 (length f / 10) f ≡ lines f
chunks_lines f = chunks_from (length f / 10) 0 f
