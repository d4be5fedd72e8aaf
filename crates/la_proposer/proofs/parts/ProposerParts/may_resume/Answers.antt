use Rattle.std.proofs.Common.{sym, ◌∙◌}
use Rattle.la_proposer.specs.Resuming.{state_from}
use Rattle.la_proposer.proofs.Resuming.{resumable_known}
use Rattle.la_proposer.proofs.parts.ProposerParts.may_resume.Goals as goal

pub hold_all_submitted-requires : goal.hold_all_submitted-requires
hold_all_submitted-requires c =
    resumable_known (state_from c.args.self.now) (sym c.are_of_a_state.ensures ∙ c.if-are_of_a_state.true)
