use Rattle.std.proofs.Common.{cond, Ok, sym, ◌∙◌, ap}
use Rattle.la_set.specs.Join.{join}
use Rattle.la_acceptor.specs.declared.reply.Reply.TheVariants.{Yes, No}
use Rattle.la_acceptor.proofs.lemmas.Accepting.{contained-again}
use Rattle.la_acceptor.proofs.acceptor.Acceptor.offer_beyond.Goals as goal

pub returns-clause-again : goal.returns-clause-again
returns-clause-again c same =
    ap Ok
    (c.in_ok-reply.ensures.reply
    ∙ ap (λ b. cond b Yes (No (join c.args.self.now c.args.offered.now)))
    (contained-again c.args.offered.now c.args.self.now (sym same)))
