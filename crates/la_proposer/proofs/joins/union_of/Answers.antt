use Rattle.std.proofs.Common.{◌≡◌, IfOk, sym, subst, ◌∙◌}
use Rattle.la_set.proofs.lemmas.Inclusions.{compatible-sym}
use Rattle.la_set.proofs.lemmas.Decisions.{is_subset-Decides}
use Rattle.la_set.proofs.lemmas.Joins.{join-subset}
use Rattle.la_proposer.proofs.joins.union_of.Goals as goal

pub contains_compatible-requires : goal.contains_compatible-requires
contains_compatible-requires c = compatible-sym c.args.one.now c.args.other.now c.requires

pub returns-then-contains_compatible : goal.returns-then-contains_compatible
returns-then-contains_compatible c =
    let one = c.args.one.now in let other = c.args.other.now in
    let within = sym c.contains_compatible.ensures ∙ c.if-contains_compatible.true in
    subst (λ s. IfOk c.copy.result (λ union. union ≡ s))
    (sym (join-subset one other ((is_subset-Decides one other).0 within))) c.copy.ensures
