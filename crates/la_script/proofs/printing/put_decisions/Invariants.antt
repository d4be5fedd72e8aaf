use Rattle.std.proofs.Common.{◌≡◌, ◌++◌, drop}
use Rattle.la_script.specs.Text.{decisions_text}
use Rattle.la_script.proofs.printing.put_decisions.Given as goal

abbrev pub invariant-loop-decision : goal.invariant-loop-decision
invariant-loop-decision l =
    l.out ++ decisions_text (drop l.decision-index l.decisions) ≡ l.initial.out ++ decisions_text l.decisions
