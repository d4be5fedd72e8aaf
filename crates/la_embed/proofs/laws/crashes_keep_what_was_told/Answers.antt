use Rattle.la_embed.proofs.Crashing.{crashes_keep}
use Rattle.la_embed.proofs.laws.crashes_keep_what_was_told.Goals as goal

pub returns : goal.returns
returns c = crashes_keep c.unread_bytes_change_nothing.ensures
