use Rattle.la_durable.specs.Nodes.{kept_by}
use Rattle.la_embed.proofs.JournalSteps.{noted_synced}
use Rattle.la_embed.proofs.journal.Journal.synced.Goals as goal

pub invariant_of-self : goal.invariant_of-self
invariant_of-self c =
    let at = c.self.inside in
    noted_synced at.config at.own at.staged.durable.disk at.staged.durable.closed at.staged.written.items
    c.clear.new.self.items at.staged.text.items (kept_by at.staged.durable.machine) c.clear.ensures.items
    c.self.invariant

pub returns-clause-leads : goal.returns-clause-leads
returns-clause-leads c =
    let at = c.self.inside in
    (noted_synced at.config at.own at.staged.durable.disk at.staged.durable.closed at.staged.written.items
    c.clear.new.self.items at.staged.text.items (kept_by at.staged.durable.machine) c.clear.ensures.items
    c.self.invariant).leads
