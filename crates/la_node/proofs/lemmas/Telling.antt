-- How the mail of a step is told, and of two steps one after the other in different instances.
use Rattle.std.proofs.Common.{◌≡◌, ℕ, List, ◌++◌, slice_get, Some, IsSomeAnd, sym, ap, subst, ◌∙◌}
use Rattle.std.proofs.lemmas.List.Elements.{All-append, All-weaker}
use Rattle.la_set.specs.declared.counts.Counts.{Counts}
use Rattle.la_proposer.specs.ProposerState.{reported}
use Rattle.la_replica.specs.declared.change.Change.{Change}
use Rattle.la_replica.specs.declared.message.Message as code
use Rattle.la_replica.specs.ReplicaState.{ReplicaState}
use Rattle.la_replica.specs.Changes.{after_commit, AreSameIn}
use Rattle.la_replica.specs.Bases.{IsToldBody, IsToldIn, AreToldIn, AreToldFrom, AreToldAfter, AreToldThere}

abbrev IsOf : ReplicaState → (i : ℕ) → Counts → code.Message → Type 0
IsOf r i offered m = (m.instance ≡ i) × IsToldIn r offered m

pub told_of : (r : ReplicaState) (i : ℕ) (offered : Counts) (mail : List code.Message) → AreToldFrom r i offered mail
    → AreToldIn r offered mail
told_of r i offered mail told = All-weaker (IsOf r i offered) (IsToldIn r offered) (λ m h. h.1) mail told

-- what was told in one instance stays so where a step in another one follows
stays_told : (r s : ReplicaState) (i : ℕ) (offered : Counts) → AreSameIn i r s → (m : code.Message) → IsOf r i offered m
    → IsToldIn s offered m
stays_told r s i offered same m h =
    subst (λ o. IsSomeAnd o (λ x. IsToldBody (reported x.proposer m.to) offered m.body))
    (ap (slice_get r.instances) h.0 ∙ sym same.there ∙ ap (slice_get s.instances) (sym h.0)) h.1

-- mail of a step, and then of one that was prepared with it in another instance
pub both_told : (old then after : ReplicaState) (offered : Counts) (first second : Change) (j : ℕ)
    (mail added : List code.Message) → AreToldAfter old first offered mail → after_commit old first ≡ Some then
    → AreSameIn first.instance then after → AreSameIn j old then → AreToldThere old j second added
    → after_commit then second ≡ Some after → AreToldIn after offered (mail ++ added)
both_told old then after offered first second j mail added told done kept beside there done_too =
    All-append (IsToldIn after offered) mail added
    (All-weaker (IsOf then first.instance offered) (IsToldIn after offered)
    (stays_told then after first.instance offered kept) mail (told then done))
    (told_of after second.instance offered added (there then offered beside after done_too))
