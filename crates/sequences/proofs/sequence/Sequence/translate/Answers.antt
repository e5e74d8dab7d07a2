use Rattle.std.proofs.Common.{◌++◌, take, ap, ◌∙◌}
use Rattle.std.proofs.lemmas.List.{take_all}
use Rattle.tables.specs.Tables.{view}
use Rattle.sequences.specs.Code.{driver}
use Rattle.sequences.proofs.Smalls.{well_translatable}
use Rattle.sequences.proofs.sequence.Sequence.translate.Goals as goal

pub returns : goal.returns
returns g c =
    let p = view c.args.table.now in
    record {
      holds =
          λ small few.
          record {
            codes =
                c.extend_from_slice.ensures
                ∙ ap (λ xs. take 16 (xs ++ c.cells.result.now)) c.clear.ensures
                ∙ take_all 16 c.cells.result.now c.cells.ensures.few
                ∙ c.cells.ensures.value;
            guide =
                c.write_driver.ensures.value
                ∙ ap (λ xs. take 257 (xs ++ driver p c.args.rounds)) c.clear-2.ensures
                ∙ take_all 257 (driver p c.args.rounds) (c.write_driver.ensures.fits few);
            sections = c.write_sections.ensures small;
          };
      well = well_translatable g.V.Kind.meaning p;
    }
