use Rattle.std.proofs.Common.{◌≡◌, true, leb, ltb, length, slice_get, None, sym, ap, ◌∙◌, arith}
use Rattle.std.specs.Option.{option_copied}
use Rattle.std.proofs.lemmas.Bool.{and_parts, leb-true}
use Rattle.std.proofs.lemmas.Option.{none-some}
use Rattle.la_node.proofs.lemmas.Items.{exists}
use Rattle.la_replica.specs.ReplicaState.{ReplicaState}
use Rattle.la_replica.specs.Resuming.{may_resume_replica}
use Rattle.la_serve.proofs.laws.nodes_may_go_on.Goals as goal

has_first : (r : ReplicaState) → may_resume_replica r ≡ true → None ≡ slice_get r.instances 0 → ⊥
unfolding may_resume_replica
has_first r may none =
    let all = and_parts (ltb r.own (length r.votes)) _ may in
    let group = and_parts (leb (length r.votes) 8) _ all.1 in
    let some = and_parts (leb 1 (length r.instances)) _ group.1 in
    let x = exists r.instances 0 (omega (arith, leb-true 1 (length r.instances) some.0)) in
    none-some x.0 (none ∙ x.1)

pub returns-in_default : goal.returns-in_default
returns-in_default c =
    let same = ap (λ (r : ReplicaState). r.instances) c.replica-replica.ensures.replica in
    absurd (has_first c.replica-replica.result.now c.instances.ensures.resumable
    (sym (ap option_copied c.in_default.is) ∙ c.first.ensures.value
    ∙ ap (λ xs. slice_get xs 0) c.instances.ensures.instances))
