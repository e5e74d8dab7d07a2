-- What the three calls of Quick come to.
use Rattle.std.proofs.Common.{◌≡◌, ℕ, Bool, true, false, cond, List, Some, None, Ok, Err, Result, sym, refl, ap, ◌∙◌, subst, arith}
use Rattle.kinds.specs.declared.kind.Kind.{Ghosts}
use Rattle.kinds.specs.Meaning.{Meaning}
use Rattle.agreement.specs.Agreement.{guessed}
use Rattle.walks.specs.declared.counts.Counts.{Counts}
use Rattle.jobs.specs.declared.job.Job.{Job}
use Rattle.reports.specs.Counts.{yes_or, walk_answer}
use Rattle.jobs.specs.Keeps.{Keeps}
use Rattle.jobs.specs.Models.{Model, loaded, translated, few, load_next, rounds_no, translate_answer, translate_next, walk_reply}
use Rattle.questions.specs.Answer.{Answer, accepted}
use Rattle.questions.specs.Question.{question}
use Rattle.records.specs.declared.refusal.LoadError.{LoadError}
use Rattle.records.specs.declared.refusal.Refusal.{Refusal}
use Rattle.records.specs.declared.refusal.Refusal.TheVariants.{Rounds}
use Rattle.tables.specs.Program.{decoded}
use Rattle.hosts.specs.declared.problem.Problem.{Problem}
use Rattle.hosts.specs.declared.problem.Problem.TheVariants.{File, Call}
use Rattle.burner.specs.Quicks.{after_load, after_rounds, after_walk, counts_of}

module _ (k : Meaning) (f : List ℕ) (r b : ℕ) where
  abbrev walked : Result Counts Problem
  walked = after_walk (walk_answer (guessed k (decoded f) r) 0 b)

  pub load_refused : (e : LoadError) → ◌≡◌ {A = Answer} (Err e) (question k f) → Err (File e) ≡ counts_of k f r b
  unfolding counts_of
  load_refused e q = ap (λ a. after_load a (after_rounds (yes_or (rounds_no r)) walked)) q

  pub rounds_refused : (e : Refusal) → ◌≡◌ {A = Answer} accepted (question k f) → Err e ≡ translate_answer (loaded (decoded f)) r → Err (Call e) ≡ counts_of k f r b
  unfolding counts_of
  rounds_refused e q a = ap (λ x. after_rounds x walked) a ∙ ap (λ x. after_load x (after_rounds (yes_or (rounds_no r)) walked)) q

  few_is : (c : Bool) → ◌≡◌ {A = Result (Unit {0}) Refusal} (Ok tt) (yes_or (cond c None (Some Rounds))) → c ≡ true
  few_is true e = refl
  few_is false e = absurd (let z : ◌≡◌ {A = ℕ} 0 1 = cc in omega arith)

  pub walk_told : (a : Result Counts Refusal) → ◌≡◌ {A = Answer} accepted (question k f) → ◌≡◌ {A = Result (Unit {0}) Refusal} (Ok tt) (translate_answer (loaded (decoded f)) r) → a ≡ walk_reply k (translate_next (loaded (decoded f)) r) b → after_walk a ≡ counts_of k f r b
  unfolding counts_of
  walk_told a q t e =
      ap after_walk e
      ∙ ap (λ c. after_walk (walk_reply k (cond c (translated (decoded f) r 0 0) (loaded (decoded f))) b)) (few_is (few r) t)
      ∙ ap (λ x. after_rounds x walked) t
      ∙ ap (λ x. after_load x (after_rounds (yes_or (rounds_no r)) walked)) q

  -- the job behind an accepted Load
  pub has_loaded : {V : Type 0} {G : Ghosts V} (j : Job V G) (m : Model) → ◌≡◌ {A = Answer} accepted (question k f) → Keeps k j (load_next (question k f) f m) → Keeps k j (loaded (decoded f))
  has_loaded j m q h = subst (λ a. Keeps k j (load_next a f m)) (sym q) h
