use Rattle.la_world.proofs.lemmas.Letters.{letters_tell}
use Rattle.la_world.proofs.live.letters_tell_what_was_sent.Goals as goal

pub returns : goal.returns
returns c = letters_tell
