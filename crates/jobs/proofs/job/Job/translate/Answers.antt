use Rattle.std.proofs.Common.{◌≡◌, Err, Result, ◌∙◌, rules}
use Rattle.records.specs.declared.refusal.Refusal.{Refusal}
use Rattle.jobs.proofs.Making.{rounds_answered, job_refused, job_made}
use Rattle.jobs.proofs.Standing.{session_keeps}
use Rattle.jobs.proofs.job.Job.translate.Goals as goal

pub returns-in_err-translate : goal.returns-in_err-translate
returns-in_err-translate g c m h =
    let k = g.V.Kind.meaning in
    let j = c.args.self.now in
    let e = c.in_err-translate.ensures in
    let s = session_keeps k j m h in
    let x : ◌≡◌ {A = Result (Unit {0}) Refusal} c.from_residual.result (Err c.in_err-translate.field-0.0) = search rules in
    let answer = e.answer ∙ rounds_answered k j.session c.args.rounds m s in
    (x ∙ answer, job_refused k j c.translate.new.self c.in_err-translate.field-0.0 m c.args.rounds answer h (e.keeps m s))

pub returns : goal.returns
returns g c m h =
    let k = g.V.Kind.meaning in
    let j = c.args.self.now in
    let e = c.in_ok-translate.ensures in
    let s = session_keeps k j m h in
    let answer = e.answer ∙ rounds_answered k j.session c.args.rounds m s in
    (answer, job_made k c.translate.new.self c.translated.new.self c.translated.ensures m c.args.rounds answer (e.keeps m s))
