use Rattle.std.specs.Option.{option_copied}
use Rattle.la_proposer.proofs.Refusing.{known-zero}
use Rattle.la_proposer.proofs.proposer.Proposer.admit_reply.Goals as goal

pub admit_reply_beyond-requires : goal.admit_reply_beyond-requires
admit_reply_beyond-requires c = rw c.zero.ensures (known-zero c.args.self.now.updates (option_copied c.args.refusal))
