use Rattle.la_proposer.proofs.Learning.{learnt_counts, learnt_is, learnt_majority}
use Rattle.la_proposer.proofs.laws.a_majority_acknowledged_what_is_learnt.Goals as goal

pub returns : goal.returns
returns c = record { counts = learnt_counts; set = learnt_is; majority = learnt_majority }
