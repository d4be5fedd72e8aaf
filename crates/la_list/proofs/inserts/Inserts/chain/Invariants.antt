use Rattle.std.proofs.Common.{◌≡◌, List, []}
use Rattle.la_list.specs.declared.list.Element.{Element}
use Rattle.la_list.specs.Chains.{IsChain}
use Rattle.la_list.proofs.InsertCopies.{all_inserted}
use Rattle.la_list.proofs.inserts.Inserts.chain.Given as goal

abbrev pub invariant-loop-moment : goal.invariant-loop-moment
invariant-loop-moment l =
    (es : List Element) × (IsChain l.chain es
    × (all_inserted es l.moment-iterator ≡ all_inserted [] l.initial.moment-iterator))
