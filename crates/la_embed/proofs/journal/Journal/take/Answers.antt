use Rattle.std.proofs.Common.{sym, ◌∙◌}
use Rattle.la_journal.specs.Records.{ended}
use Rattle.la_durable.specs.CallLines.{call_line, or_tick}
use Rattle.la_durable.specs.Inputs.{IsInput}
use Rattle.la_durable.specs.Nodes.{kept_by}
use Rattle.la_embed.proofs.JournalSteps.{noted_staged, staged_or_not}
use Rattle.la_embed.proofs.journal.Journal.take.Goals as goal

pub invariant_of-self : goal.invariant_of-self
invariant_of-self c =
    let is : IsInput c.in-Some.input = record { is = c.call-call.ensures.line; says = c.call-call.ensures.says } in
    let at = c.self.inside in
    let same = c.stage.ensures.same in
    let moves =
    staged_or_not c.in-Some.input is (kept_by at.staged.durable.machine) (kept_by c.stage.new.node.durable.machine)
    (ended at.staged.text.items) (ended c.stage.new.node.text.items) c.stage.result c.stage.ensures.staged in
    noted_staged c.staged_calls_lead.ensures at.config at.own at.staged.durable.disk c.stage.new.node.durable.disk
    at.staged.durable.closed c.stage.new.node.durable.closed at.staged.written.items c.stage.new.node.written.items
    at.staged.text.items c.stage.new.node.text.items (or_tick (call_line c.in-Some.input.line))
    (kept_by at.staged.durable.machine) (kept_by c.stage.new.node.durable.machine) c.self.invariant
    (same.0 ∙ sym c.self.invariant.unclosed) same.1 same.2 moves

pub invariant_of-self-2 : goal.invariant_of-self-2
invariant_of-self-2 c =
    let is : IsInput c.in-Some.input = record { is = c.call-call.ensures.line; says = c.call-call.ensures.says } in
    let at = c.self.inside in
    let same = c.stage.ensures.same in
    let moves =
    staged_or_not c.in-Some.input is (kept_by at.staged.durable.machine) (kept_by c.stage.new.node.durable.machine)
    (ended at.staged.text.items) (ended c.stage.new.node.text.items) c.stage.result c.stage.ensures.staged in
    noted_staged c.staged_calls_lead.ensures at.config at.own at.staged.durable.disk c.stage.new.node.durable.disk
    at.staged.durable.closed c.stage.new.node.durable.closed at.staged.written.items c.stage.new.node.written.items
    at.staged.text.items c.stage.new.node.text.items (or_tick (call_line c.in-Some.input.line))
    (kept_by at.staged.durable.machine) (kept_by c.stage.new.node.durable.machine) c.self.invariant
    (same.0 ∙ sym c.self.invariant.unclosed) same.1 same.2 moves

pub returns-clause-leads : goal.returns-clause-leads
returns-clause-leads c =
    let is : IsInput c.in-Some.input = record { is = c.call-call.ensures.line; says = c.call-call.ensures.says } in
    let at = c.self.inside in
    let same = c.stage.ensures.same in
    let moves =
    staged_or_not c.in-Some.input is (kept_by at.staged.durable.machine) (kept_by c.stage.new.node.durable.machine)
    (ended at.staged.text.items) (ended c.stage.new.node.text.items) c.stage.result c.stage.ensures.staged in
    (noted_staged c.staged_calls_lead.ensures at.config at.own at.staged.durable.disk c.stage.new.node.durable.disk
    at.staged.durable.closed c.stage.new.node.durable.closed at.staged.written.items c.stage.new.node.written.items
    at.staged.text.items c.stage.new.node.text.items (or_tick (call_line c.in-Some.input.line))
    (kept_by at.staged.durable.machine) (kept_by c.stage.new.node.durable.machine) c.self.invariant
    (same.0 ∙ sym c.self.invariant.unclosed) same.1 same.2 moves).leads
