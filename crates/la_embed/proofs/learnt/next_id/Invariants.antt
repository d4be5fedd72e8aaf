use Rattle.la_embed.specs.Learnt.{AreHanded}
use Rattle.la_embed.proofs.learnt.next_id.Given as goal

abbrev pub invariant-loop-replica : goal.invariant-loop-replica
invariant-loop-replica l = AreHanded l.handed l.view l.replica
