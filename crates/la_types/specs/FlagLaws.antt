-- The flag is a lawful type.
use Rattle.std.proofs.Common.{refl}
use Rattle.la_shelf.specs.Meanings.{IsLawful}
use Rattle.la_types.specs.Flags.{flag_meaning, flag_of}
use Rattle.la_types.specs.FlagMeans.{step_swap, flag_means}

pub flag_lawful : IsLawful flag_meaning
flag_lawful = record {
  commutes = λ s u v ne. step_swap s u.id v.id (flag_of u.op) (flag_of v.op);
  keeps = λ s u. refl;
  starts = λ kind. refl;
  means = λ kind us question order. flag_means us;
}
