use Rattle.la_set.specs.Histories.{empty}
use Rattle.la_proposer.specs.ProposerState.{start, after_submission, after_reply}
use Rattle.la_proposer.proofs.Resuming.{may_resume-Decides}
use Rattle.la_proposer.proofs.Stepping.{start_resumable, submission_resumable, reply_resumable}
use Rattle.la_proposer.proofs.laws.proposers_may_be_resumed.Goals as goal

pub returns-clause-decides : goal.returns-clause-decides
returns-clause-decides c p = may_resume-Decides p

pub returns-clause-start : goal.returns-clause-start
returns-clause-start c votes own cap known few most =
    (may_resume-Decides (start votes own cap empty)).1 (start_resumable votes own cap known few most)

pub returns-clause-submission : goal.returns-clause-submission
returns-clause-submission c p d may room spares =
    (may_resume-Decides (after_submission p d)).1
    (submission_resumable p d ((may_resume-Decides p).0 may) room spares)

pub returns-clause-reply : goal.returns-clause-reply
returns-clause-reply c p acceptor ballot reply may hearable =
    (may_resume-Decides (after_reply p acceptor ballot reply)).1
    (reply_resumable p acceptor ballot reply ((may_resume-Decides p).0 may) hearable)
