use Rattle.jobs.proofs.Standing.{with_schedules, survey_goes, surveyed_so}
use Rattle.jobs.proofs.session.Session.survey.Goals as goal

pub returns-in-Translated-clause-goes : goal.returns-in-Translated-clause-goes
returns-in-Translated-clause-goes g c =
    let k = g.V.Kind.meaning in
    let s = c.args.self.now in
    with_schedules k s _ c.in-Translated.is (survey_goes k s c.args.b c.go_on.new.walk c.go_on.result c.go_on.ensures.walked)

pub returns-in-Translated-clause-says : goal.returns-in-Translated-clause-says
returns-in-Translated-clause-says g c =
    surveyed_so g.V.Kind.meaning c.args.self.now c.args.b c.go_on.new.walk c.go_on.result c.in-Translated.is c.go_on.ensures.went
