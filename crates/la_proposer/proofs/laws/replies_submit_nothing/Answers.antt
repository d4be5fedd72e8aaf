use Rattle.la_proposer.proofs.Learning.{reply_submits, submission_adds}
use Rattle.la_proposer.proofs.laws.replies_submit_nothing.Goals as goal

pub returns-clause-reply : goal.returns-clause-reply
returns-clause-reply c p acceptor ballot reply = reply_submits p acceptor reply ballot

pub returns-clause-submission : goal.returns-clause-submission
returns-clause-submission c = submission_adds
