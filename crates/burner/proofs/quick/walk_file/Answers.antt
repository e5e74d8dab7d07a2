use Rattle.std.proofs.Common.{◌≡◌, Ok, Err, Result, ◌∙◌, rules}
use Rattle.walks.specs.declared.counts.Counts.{Counts}
use Rattle.hosts.specs.declared.problem.Problem.{Problem}
use Rattle.hosts.specs.declared.problem.Problem.TheVariants.{File, Call}
use Rattle.jobs.specs.Models.{loaded, translate_next}
use Rattle.tables.specs.Program.{decoded}
use Rattle.burner.proofs.Quickly.{load_refused, rounds_refused, walk_told, has_loaded}
use Rattle.burner.proofs.quick.walk_file.Goals as goal

pub returns-in_err-load : goal.returns-in_err-load
returns-in_err-load g c m h =
    let e = c.in_err-load.field-0.0 in
    let x : ◌≡◌ {A = Result Counts Problem} c.from_residual.result (Err (File e)) = search rules in
    x ∙ load_refused g.V.Kind.meaning c.args.file.now c.args.rounds c.args.b e c.in_err-load.ensures.answer

pub returns-in_err-translate : goal.returns-in_err-translate
returns-in_err-translate g c m h =
    let k = g.V.Kind.meaning in
    let f = c.args.file.now in
    let q = c.in_ok-load.ensures.answer in
    let j = has_loaded k f c.args.rounds c.args.b c.load.new.self m q (c.load.ensures.after m h) in
    let e = c.in_err-translate.field-0.0 in
    let x : ◌≡◌ {A = Result Counts Problem} c.from_residual-in_err-translate.result (Err (Call e)) = search rules in
    x ∙ rounds_refused k f c.args.rounds c.args.b e q (c.in_err-translate.ensures (loaded (decoded f)) j).0

pub returns-in_err-walk : goal.returns-in_err-walk
returns-in_err-walk g c m h =
    let k = g.V.Kind.meaning in
    let f = c.args.file.now in
    let p = loaded (decoded f) in
    let q = c.in_ok-load.ensures.answer in
    let j = has_loaded k f c.args.rounds c.args.b c.load.new.self m q (c.load.ensures.after m h) in
    let t = c.in_ok-translate.ensures p j in
    let e = c.in_err-walk.field-0.0 in
    let x : ◌≡◌ {A = Result Counts Problem} c.from_residual-in_err-walk.result (Err (Call e)) = search rules in
    x ∙ walk_told k f c.args.rounds c.args.b (Err e) q t.0 (c.in_err-walk.ensures (translate_next p c.args.rounds) t.1).0

pub returns : goal.returns
returns g c m h =
    let k = g.V.Kind.meaning in
    let f = c.args.file.now in
    let p = loaded (decoded f) in
    let q = c.in_ok-load.ensures.answer in
    let j = has_loaded k f c.args.rounds c.args.b c.load.new.self m q (c.load.ensures.after m h) in
    let t = c.in_ok-translate.ensures p j in
    walk_told k f c.args.rounds c.args.b (Ok c.in_ok-walk.field-0) q t.0 (c.in_ok-walk.ensures (translate_next p c.args.rounds) t.1).0
