use Rattle.std.proofs.Common.{◌≡◌, List, take, drop}
use Rattle.la_list.specs.declared.list.Element.{Element}
use Rattle.la_list.specs.Lists.{but_deleted}
use Rattle.la_list.specs.Chains.{IsChain, IsLinked, link_at}
use Rattle.la_list.proofs.chain.Chain.shown.Given as goal

abbrev pub invariant-loop : goal.invariant-loop
invariant-loop l = (es : List Element) → IsChain l.self es → (IsLinked (link_at l.self) l.at (drop l.counter es))
    × (l.list.items ≡ but_deleted l.deleted (take l.counter es))
