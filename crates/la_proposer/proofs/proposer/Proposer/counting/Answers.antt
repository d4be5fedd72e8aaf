use Rattle.std.proofs.Common.{subst}
use Rattle.la_proposer.specs.Fields.{IsRepresented}
use Rattle.la_proposer.proofs.Preparing.{counts_leads}
use Rattle.la_proposer.proofs.proposer.Proposer.counting.Goals as goal

pub returns : goal.returns
returns c =
    let is = subst (λ p. IsRepresented p c.self.inside.submissions) c.self.view_is c.self.invariant.0 in
    counts_leads c.args.self.now c.self.inside.submissions is c.args.from c.args.reply c.requires.asking
    c.requires.in_group c.requires.new c.requires.fits
