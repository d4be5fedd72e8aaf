use Rattle.std.proofs.Common.{◌≡◌, ◌+◌, ap, sym, subst, ◌∙◌}
use Rattle.la_proposer.specs.Tally.{joined_with_refusals}
use Rattle.la_proposer.specs.declared.ballot.Ballot.{Ballot}
use Rattle.la_proposer.specs.declared.change.Change.TheVariants.{Opens}
use Rattle.la_proposer.specs.declared.change.Told.{Told}
use Rattle.la_proposer.specs.ProposerState.{ProposerState, told_by, with_reply, after_refinement}
use Rattle.la_proposer.specs.Changes.{Leads}
use Rattle.la_proposer.specs.Fields.{IsRepresented}
use Rattle.la_proposer.specs.declared.heard.Heard.TheVariants.{Refined}
use Rattle.la_proposer.proofs.Preparing.{agrees_last, refines_leads}
use Rattle.la_proposer.proofs.proposer.Proposer.prepare_refinement.Goals as goal

pub join_refusal-requires : goal.join_refusal-requires
join_refusal-requires c =
    let q = c.args.self.now in
    let k = c.requires.countable in
    let is = subst (λ p. IsRepresented p c.self.inside.submissions) c.self.view_is c.self.invariant.0 in
    let joined_is : c.join_refusals.new.set ≡ joined_with_refusals q.updates q.tally =
    c.in_ok-join_refusals.ensures ∙ (λ i. joined_with_refusals (c.in_ok-updates.ensures i) (c.as_slice.ensures i))
    ∙ ap (λ (p : ProposerState). joined_with_refusals p.updates p.tally) c.self.view_is in
    agrees_last q c.self.inside.submissions is c.args.from c.args.reply k.asking k.in_group k.new k.fits
    c.join_refusals.new.set joined_is

pub returns : goal.returns
returns c =
    let q = c.args.self.now in
    let k = c.requires.countable in
    let is = subst (λ p. IsRepresented p c.self.inside.submissions) c.self.view_is c.self.invariant.0 in
    let joined_is : c.join_refusals.new.set ≡ joined_with_refusals q.updates q.tally =
    c.in_ok-join_refusals.ensures ∙ (λ i. joined_with_refusals (c.in_ok-updates.ensures i) (c.as_slice.ensures i))
    ∙ ap (λ (p : ProposerState). joined_with_refusals p.updates p.tally) c.self.view_is in
    let number_is = ap (λ (p : ProposerState). record { number = p.number + 1; updates = c.join_refusal.new.set }) c.self.view_is in
    let both =
    refines_leads q c.self.inside.submissions is c.args.from c.args.reply k.asking k.in_group k.new k.fits _
    c.join_refusals.new.set c.join_refusal.new.set joined_is c.in_ok-join_refusal.ensures number_is c.requires.left in
    let b : Ballot = record { number = c.self.inside.last.number + 1; updates = c.join_refusal.new.set } in
    record {
      heard = ap Refined (c.in_ok-opened.ensures ∙ both.1);
      leads =
          subst (λ (z : Told). Leads q (Opens b z) (after_refinement (with_reply q c.args.from c.args.reply)))
          (sym
          (c.by-told.ensures
          ∙ (λ i. record { from = c.args.from; counts = told_by (c.self.view_is i).updates c.args.reply })))
          both.0;
    }
