use Rattle.la_proposer.proofs.Reporting.{counted_reports, others_reported, submitting_reported}
use Rattle.la_proposer.proofs.laws.last_replies_are_reported.Goals as goal

pub returns : goal.returns
returns c = record { counted = counted_reports; others = others_reported; submitting = submitting_reported }
