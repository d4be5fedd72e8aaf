use Rattle.std.proofs.Common.{◌∙◌, arith}
use Rattle.la_serve.proofs.Numbering.{under_alone}
use Rattle.la_serve.proofs.numbered.submitted_under.Goals as goal

pub returns : goal.returns
returns c =
    let p = c.args.proposer.now in
    let is = ((c.proposers_may_be_resumed.ensures.decides p).0 c.submissions.ensures.resumable).is_proposer in
    c.get.ensures
    ∙ under_alone p (omega (arith, is.known, is.few)) _ _ c.args.number c.submissions.ensures.submissions c.own.ensures
