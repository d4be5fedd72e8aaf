use Rattle.std.proofs.Common.{◌≡◌, map}
use Rattle.la_runner.specs.Notes.{pass_told}
use Rattle.la_runner.proofs.PassByPass.{Showing}
use Rattle.la_runner.proofs.instance.Instance.show.Given as goal

abbrev pub invariant-loop-at : goal.invariant-loop-at
invariant-loop-at l = record {
  passes : l.self.passes.items ≡ l.initial.self.passes.items;
  own_proposer : l.self.proposer ≡ l.initial.self.proposer;
  own_learnt : l.self.learnt ≡ l.initial.self.learnt;
  own_view : l.self.view ≡ l.initial.self.view;
  shown : Showing l.initial.to.proposer.updates (map pass_told l.initial.self.passes.items) l.initial.to.passes.items l.at
      l.to.passes.items;
  their_proposer : l.to.proposer ≡ l.initial.to.proposer;
  their_learnt : l.to.learnt ≡ l.initial.to.learnt;
  their_view : l.to.view ≡ l.initial.to.view;
}
