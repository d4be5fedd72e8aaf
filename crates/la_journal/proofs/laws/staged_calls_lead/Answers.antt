use Rattle.la_journal.proofs.Kept.{kept_leads, kept_texts}
use Rattle.la_journal.proofs.laws.staged_calls_lead.Goals as goal

pub returns : goal.returns
returns g c first state next calls call led is =
    let still = g.M.Machine.still (g.M.Machine.answers state call) in (
      kept_leads g.M.Machine.step calls call first state next led is still (g.met.M.Machine.stays state call),
      kept_texts g.M.Machine.text calls call still,
    )
