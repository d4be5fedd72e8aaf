use Rattle.std.proofs.Common.{⊎_elim, ◌∙◌}
use Rattle.la_journal.proofs.laws.a_start_has_what_was_answered.Goals as goal

pub returns : goal.returns
returns g c dead found recovered t start first calls known begun leaves =
    let read = known (g.D.Disk.seen found) begun.read in (
      read,
      λ c left. ⊎_elim (λ was. known c (begun.crash c was))
          (λ same. (
            read.0,
            read.1,
            same ∙ read.2,
          ))
          (leaves.each c left),
    )
