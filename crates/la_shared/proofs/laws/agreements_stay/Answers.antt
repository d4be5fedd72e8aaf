use Rattle.std.proofs.Common.{subst}
use Rattle.la_set.specs.Histories.{empty}
use Rattle.la_set.specs.Inclusion.{IsSubset}
use Rattle.la_shared.specs.History.{accepted_by}
use Rattle.la_set.proofs.lemmas.WithinCounts.{agree_by}
use Rattle.la_shared.proofs.Bases.{since_grows, agree_longer, offered_within, refusal_contains}
use Rattle.la_shared.proofs.laws.agreements_stay.Goals as goal

pub returns-clause-grows : goal.returns-clause-grows
returns-clause-grows c seen longer p =
    subst (λ h. IsSubset (accepted_by seen) (accepted_by h)) p.1 (since_grows seen p.0)

pub returns-clause-longer : goal.returns-clause-longer
returns-clause-longer c seen longer base set p h = agree_longer base seen longer set p h

pub returns-clause-offered : goal.returns-clause-offered
returns-clause-offered c history set larger reply legal has sub =
    agree_by set (accepted_by history) larger (offered_within empty history set reply legal has) sub

pub returns-clause-refused : goal.returns-clause-refused
returns-clause-refused c old new set refused x = refusal_contains old new set refused x
