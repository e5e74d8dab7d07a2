use mathlib.Core.Path.{refl}
use Rattle.sequences.specs.Acts.{exec}
use Rattle.sequences.specs.Drives.{proceed, drive_from}
use Rattle.threads.specs.Plays.{rounds_by}
use Rattle.threads.specs.Slots.{run}
use Rattle.walks.specs.Leaves.{scan, level, leaves}
use Rattle.cases.proofs.worked_cases.Goals as goal

pub returns : goal.returns
unfolding rounds_by run exec proceed drive_from scan level leaves
returns c =
    record {
      count = refl;
      tables = (refl, refl);
      plays = ((refl, refl, refl), (refl, refl, refl), (refl, refl, refl), (refl, refl, refl), (refl, refl, refl), (refl, refl, refl), (refl, refl, refl), (refl, refl, refl), (refl, refl, refl));
      translated = (refl, refl);
      drives = ((refl, refl), (refl, refl), (refl, refl), (refl, refl), (refl, refl), (refl, refl));
      surveys = ((refl, refl, refl), (refl, refl, refl), (refl, refl, refl), (refl, refl, refl));
      walks = ((refl, refl, refl), (refl, refl, refl), (refl, refl, refl), (refl, refl, refl));
    }
