use Rattle.std.proofs.Common.{◌≡◌, length}
use Rattle.la_runner.proofs.Meeting.{Meeting}
use Rattle.la_runner.proofs.instance.Instance.meet.Given as goal

abbrev pub invariant-loop-note : goal.invariant-loop-note
invariant-loop-note l =
    Meeting l.initial.self.proposer.updates l.initial.notes.items l.initial.self.passes.items l.notes.items
    l.self.passes.items
    × (l.self.proposer ≡ l.initial.self.proposer)
    × (l.self.learnt ≡ l.initial.self.learnt)
    × (l.self.view ≡ l.initial.self.view)

abbrev pub decreases-loop-note : goal.decreases-loop-note
decreases-loop-note l = length l.notes.items
