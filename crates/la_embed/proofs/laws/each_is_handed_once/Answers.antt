use Rattle.la_embed.proofs.Handed.{once}
use Rattle.la_embed.proofs.laws.each_is_handed_once.Goals as goal

pub returns : goal.returns
returns c = once
