use Rattle.std.proofs.Common.{sym, ap, ◌∙◌, rules}
use Rattle.std.specs.Prelude.{vec_len}
use Rattle.la_durable.specs.Nodes.{kept_by}
use Rattle.la_embed.proofs.Lists.{none_there}
use Rattle.la_embed.proofs.JournalSteps.{noted_recorded}
use Rattle.la_embed.proofs.journal.Journal.make_record.Goals as goal

pub invariant_of-self : goal.invariant_of-self
invariant_of-self c =
    let at = c.self.inside in
    let ok = c.in-Ok.ensures in
    noted_recorded at.config at.own at.staged.durable.disk c.commit.new.self.durable.disk at.staged.durable.closed
    c.commit.new.self.durable.closed at.staged.written.items c.commit.new.self.written.items at.staged.text.items
    c.commit.new.self.text.items (kept_by at.staged.durable.machine) (kept_by c.commit.new.self.durable.machine)
    (none_there at.staged.written.items (vec_len at.staged.written) (search rules)
    (sym c.is_empty.ensures ∙ c.if-is_empty.true))
    c.self.invariant ok.ok.0 (ok.open ok.ok.0) ok.written ok.ok.2 (ap kept_by ok.machine) ok.leads

pub returns-in-Ok-clause-leads : goal.returns-in-Ok-clause-leads
returns-in-Ok-clause-leads c =
    let noted =
    let at = c.self.inside in
    let ok = c.in-Ok.ensures in
    noted_recorded at.config at.own at.staged.durable.disk c.commit.new.self.durable.disk at.staged.durable.closed
    c.commit.new.self.durable.closed at.staged.written.items c.commit.new.self.written.items at.staged.text.items
    c.commit.new.self.text.items (kept_by at.staged.durable.machine) (kept_by c.commit.new.self.durable.machine)
    (none_there at.staged.written.items (vec_len at.staged.written) (search rules)
    (sym c.is_empty.ensures ∙ c.if-is_empty.true))
    c.self.invariant ok.ok.0 (ok.open ok.ok.0) ok.written ok.ok.2 (ap kept_by ok.machine) ok.leads in noted.leads
