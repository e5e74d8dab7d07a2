use Rattle.std.proofs.Common.{◌≡◌, ℕ, sym, ap, ◌∙◌, subst, arith}
use Rattle.tables.specs.Encoded.{encoded}
use Rattle.tables.specs.Program.{decoded}
use Rattle.tables.specs.Tables.{view, loaded}
use Rattle.tables.specs.WellFormed.{WellFormed}
use Rattle.tables.proofs.Wells.{well}
use Rattle.tables.proofs.Accepted.{parts, held, comes_back}
use Rattle.tables.proofs.table.Table.load.Goals as goal

pub fill-requires : goal.fill-requires
fill-requires g c =
    let k = g.V.Kind.meaning in
    let f = c.args.file.now in
    let e = sym c.in_ok-question.ensures in
    let p = parts k f e in
    let q = held k f (λ j. omega (arith, c.type_inv.file j)) e in
    record { some = omega arith; few = p.most; wide = q.wide; deep = q.deep }

pub returns : goal.returns
returns g c =
    let k = g.V.Kind.meaning in
    let f = c.args.file.now in
    let e = c.in_ok-question.ensures in
    record {
      answer = e;
      after = c.fill.ensures ∙ ap (λ v. loaded v (decoded f) (view c.args.self.now)) e;
      kept = λ h. absurd (let z : ◌≡◌ {A = ℕ} 0 1 = cc in (let w : ⊥ = omega arith in w));
      well = λ h. subst (WellFormed k) (sym c.fill.ensures) (well k f (λ j. omega (arith, c.type_inv.file j)) h);
      back = λ h. ap (encoded k.byte) c.fill.ensures ∙ comes_back k f (λ j. omega (arith, c.type_inv.file j)) h;
    }
