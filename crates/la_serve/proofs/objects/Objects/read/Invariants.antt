use Rattle.la_serve.proofs.ObjectTexts.{ReadsOn}
use Rattle.la_serve.proofs.objects.Objects.read.Given as goal

abbrev pub invariant-loop-part : goal.invariant-loop-part
invariant-loop-part l =
    (goal.iterator-loop-part).can_next l.part-iterator
    × (goal.iterator-loop-part).is_finite l.part-iterator
    × ReadsOn (goal.iterator-loop-part).next_gives l.text l.part-iterator l.objects
