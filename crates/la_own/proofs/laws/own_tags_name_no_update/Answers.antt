use Rattle.la_own.proofs.Tags.{own_tags-high}
use Rattle.la_own.proofs.laws.own_tags_name_no_update.Goals as goal

pub returns : goal.returns
returns c = own_tags-high
