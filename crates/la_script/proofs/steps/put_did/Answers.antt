use Rattle.std.proofs.Common.{arith}
use Rattle.std.proofs.lemmas.Grind.{common_steps}
use Rattle.la_script.proofs.steps.put_did.Goals as goal

pub returns-in_ok-put_brought-in-Learnt : goal.returns-in_ok-put_brought-in-Learnt
returns-in_ok-put_brought-in-Learnt c = grind (arith, common_steps)
