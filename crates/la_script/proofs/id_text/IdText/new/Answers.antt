use Rattle.la_script.proofs.IdFronts.{kept_none}
use Rattle.la_script.proofs.id_text.IdText.new.Goals as goal

pub invariant_of-result : goal.invariant_of-result
invariant_of-result c = kept_none c.args.replica _ _ c.new.ensures.items c.new-2.ensures.items
