use Rattle.std.proofs.Common.{◌≡◌, map, take}
use Rattle.la_runner.specs.Notes.{pass_told}
use Rattle.la_runner.proofs.instance.Instance.note.Given as goal

abbrev pub invariant-loop-at : goal.invariant-loop-at
invariant-loop-at l =
    (l.self.passes.items ≡ l.initial.self.passes.items)
    × (l.self.proposer ≡ l.initial.self.proposer)
    × (l.self.learnt ≡ l.initial.self.learnt)
    × (l.self.view ≡ l.initial.self.view)
    × (l.notes.items ≡ map pass_told (take l.at l.initial.self.passes.items))
