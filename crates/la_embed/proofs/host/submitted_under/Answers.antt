use Rattle.std.proofs.Common.{◌∙◌, arith}
use Rattle.la_embed.proofs.Numbering.{stands_under}
use Rattle.la_embed.proofs.host.submitted_under.Goals as goal

pub returns : goal.returns
returns c =
    let p = c.args.proposer.now in
    let is = ((c.proposers_may_be_resumed.ensures.decides p).0 c.submissions.ensures.resumable).is_proposer in
    c.get.ensures
    ∙ stands_under p (omega (arith, is.known, is.few)) _ _ c.args.number c.submissions.ensures.submissions c.own.ensures
