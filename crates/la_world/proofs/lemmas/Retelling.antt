-- Mail as it was sent is told so.
use Rattle.std.proofs.Common.{List, inl}
use Rattle.la_replica.specs.declared.message.Message as code
use Rattle.la_replica.proofs.lemmas.Alike.{alike_refl}
use Rattle.la_world.specs.Rebased.{AreRetold}

pub as_sent : (mail : List code.Message) → AreRetold mail mail
as_sent mail m has = (m, has, inl (alike_refl m))
