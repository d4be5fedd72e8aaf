use Rattle.std.proofs.Common.{◌≡◌, IfOk, ap, sym, ◌∙◌, subst, length, take, arith}
use Rattle.std.specs.Option.{option_copied}
use Rattle.la_set.specs.Links.{items_of}
use Rattle.la_set.specs.Join.{joined}
use Rattle.la_set.specs.Histories.{history}
use Rattle.la_set.proofs.Growing.{begun}
use Rattle.la_set.proofs.Splicing.{whole-none, whole-list}
use Rattle.la_set.proofs.lemmas.NumberedLists.{length-numbered}
use Rattle.la_set.proofs.set.UpdateSet.spliced_list.Goals as goal

pub continued-requires-clause-list : goal.continued-requires-clause-list
continued-requires-clause-list c =
    let front =
    begun c.args.self.now c.args.counts c.args.replica _ c.requires.there.0 c.longer_list-list.ensures in
    omega (arith, front.0, c.of-2.ensures)

pub continued-requires-clause-next : goal.continued-requires-clause-next
continued-requires-clause-next c =
    omega (
      arith,
      c.requires.there.1 c.args.replica,
      c.of-2.ensures,
      ap length c.history_of-next.ensures.updates,
      length-numbered c.args.replica 1 (history c.args.told.now c.args.replica),
    )

pub returns-then-count_of-eq0 : goal.returns-then-count_of-eq0
returns-then-count_of-eq0 c =
    subst (λ us. IfOk c.of.result (λ list. list ≡ us))
    (whole-none c.args.self.now c.args.told.now c.args.counts c.requires.there.0 c.requires.there.1 c.args.replica
    (sym c.count_of.ensures.count ∙ c.if-count_of-eq0.true)) c.of.ensures

pub returns : goal.returns
returns c =
    let list = items_of (option_copied c.longer_list-list.result) in
    let next = items_of (option_copied c.history_of-next.result) in
    let front =
    begun c.args.self.now c.args.counts c.args.replica list c.requires.there.0 c.longer_list-list.ensures in
    subst (λ us. IfOk c.continued.result (λ whole. whole ≡ us))
    (ap (λ n. joined (take n list) next) c.of-2.ensures
    ∙ whole-list c.args.self.now c.args.told.now c.args.counts c.requires.there.0 c.requires.there.1 c.args.replica
    (take _ list) next front.1 c.history_of-next.ensures.updates)
    c.continued.ensures
