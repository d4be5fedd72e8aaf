-- A replica is what the calls lead to that its node accepted.
use Rattle.std.proofs.Common.{◌≡◌, List, [], ◌∷◌, ◌++◌, fold, Option, Some, option_and_then, refl, ap, ◌∙◌}
use Rattle.la_replica.specs.ReplicaState.{ReplicaState}
use Rattle.la_node.specs.Calls.{NodeCall}
use Rattle.la_node.specs.Steps.{after_call, KeptListsLeadOn, KeptListsArePlayedAgain}

abbrev played : Option ReplicaState → List NodeCall → Option ReplicaState
played o calls = fold (λ o call. option_and_then (λ s. after_call s call) o) o calls

played-append : (o : Option ReplicaState) (calls more : List NodeCall)
    → played o (calls ++ more) ≡ played (played o calls) more
played-append o [] more = refl
played-append o (call ∷ calls) more = played-append (option_and_then (λ s. after_call s call) o) calls more

pub again : KeptListsArePlayedAgain
again r s calls more e = played-append (Some r) calls more ∙ ap (λ o. played o more) e

pub leads_on : KeptListsLeadOn
leads_on r s after calls call e next = again r s calls (call ∷ []) e ∙ next
