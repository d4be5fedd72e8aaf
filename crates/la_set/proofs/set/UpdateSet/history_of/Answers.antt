use Rattle.std.proofs.Common.{◌∙◌, ap, arith, length, take}
use Rattle.la_set.specs.Histories.{history}
use Rattle.la_set.proofs.lemmas.NumberedLists.{length-numbered}
use Rattle.la_set.proofs.Representation.{cut-limit, cut-list_other, cut-list_own, cut-list_short}
use Rattle.la_set.proofs.set.UpdateSet.history_of.Goals as goal

pub returns-then-replica-cut-clause-updates : goal.returns-then-replica-cut-clause-updates
returns-then-replica-cut-clause-updates c =
    c.list-list.ensures
    ∙ cut-list_other c.self.inside.of c.args.self.now c.cut-cut.result c.self.invariant c.cut-cut.ensures
    c.self.view_is c.args.replica _ c.requires c.if-replica-cut.true

pub returns-then-replica-cut-clause-limit : goal.returns-then-replica-cut-clause-limit
returns-then-replica-cut-clause-limit c =
    omega (
      arith,
      ap length (returns-then-replica-cut-clause-updates c),
      length-numbered c.args.replica 1
          (history c.args.self.now c.args.replica),
      cut-limit c.self.inside.of c.args.self.now c.self.invariant
          c.self.view_is c.args.replica,
    )

pub returns-then-len_of-cut-clause-updates : goal.returns-then-len_of-cut-clause-updates
returns-then-len_of-cut-clause-updates c =
    c.list-list.ensures
    ∙ cut-list_short c.self.inside.of c.args.self.now c.cut-cut.result c.self.invariant c.cut-cut.ensures
    c.self.view_is c.args.replica _ c.requires c.if-replica-cut.false
    (omega (arith, c.len_of.ensures, c.if-len_of-cut.true))

pub returns-then-len_of-cut-clause-limit : goal.returns-then-len_of-cut-clause-limit
returns-then-len_of-cut-clause-limit c =
    omega (
      arith,
      ap length (returns-then-len_of-cut-clause-updates c),
      length-numbered c.args.replica 1
          (history c.args.self.now c.args.replica),
      cut-limit c.self.inside.of c.args.self.now c.self.invariant
          c.self.view_is c.args.replica,
    )

pub first-requires : goal.first-requires
first-requires c = omega (arith, ap length c.list-list.ensures, c.len_of.ensures, c.if-len_of-cut.false)

pub returns-clause-updates : goal.returns-clause-updates
returns-clause-updates c =
    let cut = c.cut-cut.result in
    c.first.ensures ∙ ap (take cut.len) c.list-list.ensures
    ∙ cut-list_own c.self.inside.of c.args.self.now cut c.self.invariant c.cut-cut.ensures c.self.view_is
    c.args.replica _ c.requires c.if-replica-cut.false

pub returns-clause-limit : goal.returns-clause-limit
returns-clause-limit c =
    omega (
      arith,
      ap length (returns-clause-updates c),
      length-numbered c.args.replica 1
          (history c.args.self.now c.args.replica),
      cut-limit c.self.inside.of c.args.self.now c.self.invariant
          c.self.view_is c.args.replica,
    )
