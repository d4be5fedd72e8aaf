use Rattle.std.specs.Option.{option_copied}
use Rattle.la_proposer.proofs.Refusing.{known-carried}
use Rattle.la_proposer.proofs.proposer.Proposer.hear.Goals as goal

pub admit_reply_beyond-requires : goal.admit_reply_beyond-requires
admit_reply_beyond-requires c =
    known-carried c.args.self.now.updates c.args.base (option_copied c.refusal_of.result) c.args.reply
    c.refusal_of.ensures c.requires.known
