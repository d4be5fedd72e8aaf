use Rattle.std.proofs.Common.{subst, sym, ◌∙◌}
use Rattle.la_proposer.specs.declared.parts.ProposerParts.{ProposerParts}
use Rattle.la_proposer.specs.Majority.{votes_of}
use Rattle.la_proposer.specs.ProposerState.{WaitsOnlyAsking}
use Rattle.la_proposer.specs.Fields.{stands_for, proposer_state_of, IsRepresented}
use Rattle.la_proposer.proofs.Resuming.{parts_resume}
use Rattle.la_proposer.proofs.proposer.Proposer.parts.Goals as goal

pub returns-clause-resumed : goal.returns-clause-resumed
returns-clause-resumed c =
    let x = c.self.inside in
    let made : ProposerParts = record {
      own = x.own;
      cap = x.cap;
      votes = x.votes;
      last = c.in_ok-copy.field-0;
      is_asking = x.is_asking;
      tally = c.in_ok-copy_tally.field-0;
      submissions = c.in_ok-copy-2.field-0;
      reported = x.reported;
    } in
    parts_resume made c.args.self.now
    ((λ i.
    proposer_state_of (votes_of x.votes) x.own x.cap (c.in_ok-copy.ensures i) x.is_asking (c.in_ok-copy_tally.ensures i)
    (c.in_ok-copy-2.ensures i) x.reported)
    ∙ c.self.view_is)
    (subst (λ q. IsRepresented q c.in_ok-copy-2.field-0 × WaitsOnlyAsking q) c.self.view_is
    (subst (λ t. IsRepresented (stands_for x) t × WaitsOnlyAsking (stands_for x)) (sym c.in_ok-copy-2.ensures)
    c.self.invariant))
