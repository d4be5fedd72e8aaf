use Rattle.std.proofs.Common.{sym, ◌∙◌, ap}
use Rattle.la_journal.specs.Records.{ended}
use Rattle.la_wire.specs.Calls.{called}
use Rattle.la_durable.specs.CallLines.{or_tick, call_line}
use Rattle.la_durable.specs.Nodes.{says_still}
use Rattle.la_durable.proofs.lemmas.Kept.{acted, kept_alike, line_of_input, cause_of}
use Rattle.la_serve.proofs.keeping.keep.Goals as goal

pub returns-in-Ok-clause-outcome : goal.returns-in-Ok-clause-outcome
returns-in-Ok-clause-outcome g c =
    let input = c.args.input.now in
    let is = c.call-call.ensures.line in
    let says = c.call-call.ensures.says in
    let made = acted _ input.line (called input.call) is says _ _ c.in-Ok.ensures.staged.1 c.in-Ok.ensures.answer in
    let staged = ended c.args.node.now.text.items in (
      made.0,
      c.in-Ok.ensures.staged.0
          ∙ kept_alike staged _ _ _ _ (ap says_still (sym c.in-Ok.ensures.answer) ∙ made.1)
          (line_of_input input.line is),
    )

pub returns-in-Ok-clause-grows : goal.returns-in-Ok-clause-grows
returns-in-Ok-clause-grows g c =
    c.views_grow.ensures _ _ (or_tick (call_line c.args.input.now.line)) c.in-Ok.ensures.staged.1

pub returns-in-Err-Machine-clause-outcome : goal.returns-in-Err-Machine-clause-outcome
returns-in-Err-Machine-clause-outcome g c =
    let input = c.args.input.now in
    let cause = rw c.in-Err-Machine.field-0-is at c.in-Err-Machine.ensures.cause in
    let same = c.in-Err-Machine.ensures.err in (
      cause_of _ input.line (called input.call) c.call-call.ensures.line c.call-call.ensures.says cause.1,
      same.1,
      ap ended same.0,
    )
