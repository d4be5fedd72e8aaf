use Rattle.std.specs.Option.{option_copied}
use Rattle.la_replica.specs.Whole.{lent_body}
use Rattle.la_replica.proofs.Known.{refused_known}
use Rattle.la_replica.proofs.instance.Instance.admit_reply.Goals as goal

pub admit_reply_beyond-requires : goal.admit_reply_beyond-requires
admit_reply_beyond-requires c =
    refused_known c.args.self.now c.args.known (lent_body c.args.message.body) (option_copied c.refusal-refusal.result)
    c.refusal-refusal.ensures.reply c.requires.known
