use Rattle.std.proofs.Common.{◌≡◌}
use Rattle.la_list.proofs.InsertCopies.{all_kept}
use Rattle.la_list.proofs.inserts.Inserts.copy.Given as goal

abbrev pub invariant-loop-moment : goal.invariant-loop-moment
invariant-loop-moment l = all_kept l.copy l.moment-iterator ≡ all_kept l.initial.copy l.initial.moment-iterator
