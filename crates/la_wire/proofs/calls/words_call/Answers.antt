use Rattle.std.proofs.Common.{cond, sym, ap, subst, ◌∙◌}
use Rattle.la_script.specs.Lines.{words_of}
use Rattle.la_wire.specs.Readings.{GivesOnLine}
use Rattle.la_wire.specs.Calls.{called}
use Rattle.la_wire.specs.CallLines.{own_words_call, script_words}
use Rattle.la_wire.proofs.OwnLines.{no_own_here}
use Rattle.la_wire.proofs.calls.words_call.Goals as goal

pub returns-then-not-may_be_own : goal.returns-then-not-may_be_own
returns-then-not-may_be_own c =
    let words = words_of c.args.line.now in
    subst (λ said. GivesOnLine called said c.script_call.result)
    (sym (ap (λ b. cond b (own_words_call words) (script_words words))
    (no_own_here c.args.line.now (sym c.may_be_own.ensures ∙ c.if-not-may_be_own.true)))) c.script_call.ensures
