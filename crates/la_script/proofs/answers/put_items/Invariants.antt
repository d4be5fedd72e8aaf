use Rattle.std.proofs.Common.{◌≡◌, ◌++◌, drop}
use Rattle.la_script.specs.Text.{spaced_text}
use Rattle.la_script.proofs.answers.put_items.Given as goal

abbrev pub invariant-loop-item : goal.invariant-loop-item
invariant-loop-item l = l.out ++ spaced_text (drop l.item-index l.others) ≡ l.initial.out ++ spaced_text l.others
