use Rattle.std.proofs.Common.{refl}
use Rattle.jobs.proofs.Making.{load_refused}
use Rattle.jobs.proofs.session.Session.load.Goals as goal

pub returns-in_err-load-clause-keeps : goal.returns-in_err-load-clause-keeps
returns-in_err-load-clause-keeps g c =
    let e = c.in_err-load.ensures in
    load_refused g.V.Kind.meaning c.args.self.now c.load.new.self _ c.args.file.now c.in_err-load.field-0.0 (e.kept refl) e.answer
