use Rattle.std.proofs.Common.{refl, rules}
use Rattle.jobs.proofs.Making.{session_refused, session_made}
use Rattle.jobs.proofs.session.Session.translate.Goals as goal

pub returns-in_err-set_rounds-clause-keeps : goal.returns-in_err-set_rounds-clause-keeps
returns-in_err-set_rounds-clause-keeps g c =
    let e = c.in_err-set_rounds.ensures in
    session_refused g.V.Kind.meaning c.args.self.now c.set_rounds.new.self c.args.rounds c.in_err-set_rounds.field-0.0 (e.kept refl) e.answer

pub returns-clause-keeps : goal.returns-clause-keeps
returns-clause-keeps g c =
    let e = c.in_ok-set_rounds.ensures in
    session_made g.V.Kind.meaning c.args.self.now c.set_rounds.new.self c.args.rounds _ e.after.0 e.after.1 e.answer c.begin-self.ensures.tied (search rules) c.in_default.not-Empty
