use Rattle.std.proofs.Common.{rules}
use Rattle.la_script.proofs.tags.tag_of.Goals as goal

pub returns : goal.returns
returns c = search rules
