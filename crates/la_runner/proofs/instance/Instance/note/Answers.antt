use Rattle.std.proofs.Common.{◌≡◌, ◌∙◌, slice_set}
use Rattle.la_shared.specs.Passes.{Known}
use Rattle.la_runner.proofs.Keeping.{within_map, put_back}
use Rattle.la_runner.proofs.Meeting.{same_state}
use Rattle.la_runner.proofs.instance.Instance.note.Goals as goal

pub returns-in_err-push-clause-same : goal.returns-in_err-push-clause-same
returns-in_err-push-clause-same c =
    let passes : slice_set c.loop-at.self.passes.items c.loop-at.at c.note-note.new.pass ≡ c.args.self.now.passes.items
    =
    let lt =
    within_map (λ (k : Known). k.acceptor) c.args.self.now.passes.items c.loop-at.self.passes.items
    c.args.acceptors.now c.loop-at.at c.requires c.loop-at.invariant.0 c.loop-at-test.true in
    put_back c.loop-at.self.passes.items c.loop-at.at c.index_mut.result.now c.note-note.new.pass lt
    c.index_mut.ensures.value c.note-note.ensures.same ∙ c.loop-at.invariant.0 in
    λ i. record { proposer = c.loop-at.invariant.1 i; passes = passes i; learnt = c.loop-at.invariant.2 i; view = c.loop-at.invariant.3 i }

pub returns-clause-same : goal.returns-clause-same
returns-clause-same c =
    same_state c.loop-at.self c.args.self.now c.loop-at.invariant.0 c.loop-at.invariant.1 c.loop-at.invariant.2
    c.loop-at.invariant.3
