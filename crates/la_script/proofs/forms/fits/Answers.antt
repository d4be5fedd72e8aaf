use Rattle.std.proofs.Common.{arith}
use Rattle.std.proofs.lemmas.Grind.{common_steps}
use Rattle.la_script.proofs.forms.fits.Goals as goal

pub returns-then-takes_the_rest : goal.returns-then-takes_the_rest
returns-then-takes_the_rest c = grind (arith, common_steps)
