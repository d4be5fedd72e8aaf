use Rattle.la_set.specs.Histories.{empty}
use Rattle.la_shared.proofs.Acknowledgements.{entry_fits, entry_answers, accepted_folds, all_answered, legal_front}
use Rattle.la_shared.proofs.laws.legal_histories_are_an_acceptors.Goals as goal

pub returns-clause-replies : goal.returns-clause-replies
returns-clause-replies c = entry_answers

pub returns-clause-compatible : goal.returns-clause-compatible
returns-clause-compatible c = entry_fits

pub returns-clause-accepted : goal.returns-clause-accepted
returns-clause-accepted c = accepted_folds empty

pub returns-clause-answered : goal.returns-clause-answered
returns-clause-answered c = all_answered empty

pub returns-clause-beginnings : goal.returns-clause-beginnings
returns-clause-beginnings c = legal_front
