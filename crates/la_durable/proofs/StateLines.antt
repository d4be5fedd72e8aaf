-- A node's state that a text says.
use Rattle.std.proofs.Common.{◌≡◌, ℕ, Bool, true, List, Some, None, option_and_then, ap, ◌∙◌}
use Rattle.std.specs.Prelude.{if◌then◌else◌}
use Rattle.std.proofs.lemmas.Bool.{and_from}
use Rattle.la_set.specs.Histories.{empty}
use Rattle.la_set.specs.Inclusion.{is_subset}
use Rattle.la_set.proofs.lemmas.Decisions.{is_subset-Decides}
use Rattle.la_set.proofs.lemmas.Inclusions.{empty_least}
use Rattle.la_replica.specs.ReplicaState.{ReplicaState}
use Rattle.la_node.specs.Resuming.{are_participants}
use Rattle.la_wire.specs.States.{said_state}
use Rattle.la_durable.specs.NodeStates.{of_node, named_node}

of_participant : (r : ReplicaState) → are_participants r.instances ≡ true → of_node r ≡ Some r
of_participant r is =
    ap (λ (b : Bool). if b then Some r else None)
    (and_from (is_subset empty r.view) (are_participants r.instances)
    ((is_subset-Decides empty r.view).1 (empty_least r.view)) is)

pub named_by : (text : List ℕ) (r : ReplicaState) → said_state text ≡ Some r → are_participants r.instances ≡ true
    → named_node text ≡ Some r
unfolding named_node
named_by text r said is = ap (option_and_then of_node) said ∙ of_participant r is
