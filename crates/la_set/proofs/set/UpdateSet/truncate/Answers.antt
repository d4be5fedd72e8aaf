use Rattle.std.proofs.Common.{◌≡◌, ◌∙◌, map, ap, subst, sym, refl, length, take, arith, OnOk}
use Rattle.la_set.specs.ObjectOps.{object_op_of}
use Rattle.la_set.specs.Histories.{empty, count, history, with_history, truncate}
use Rattle.la_set.specs.Representation.{represented, IsRepresentation}
use Rattle.la_set.specs.declared.kept.Kept.TheVariants.{Empty}
use Rattle.la_set.specs.Kept.{lists_of}
use Rattle.la_set.proofs.lemmas.NumberedLists.{take-numbered, object_ops-numbered, length-numbered}
use Rattle.la_set.proofs.lemmas.SetHistories.{known_from_count, shortened-none, history-empty}
use Rattle.la_set.proofs.Representation.{numbered-object_ops, IsRepresentation-from, none_each, recut}
use Rattle.la_set.proofs.set.UpdateSet.truncate.Goals as goal

pub returns-then-count_of-len-clause-ok : goal.returns-then-count_of-len-clause-ok
returns-then-count_of-len-clause-ok c = shortened-none c.args.self.now c.args.replica c.args.len (omega arith)

pub history_of-requires : goal.history_of-requires
history_of-requires c = known_from_count c.args.self.now c.args.replica (omega arith)

pub front_of-requires : goal.front_of-requires
front_of-requires c =
    omega (
      arith,
      ap length c.history_of.ensures.updates,
      length-numbered c.args.replica 1
          (history c.args.self.now c.args.replica),
    )

pub put-requires-clause-known : goal.put-requires-clause-known
put-requires-clause-known c = known_from_count c.args.self.now c.args.replica (omega arith)

pub put-requires-clause-numbered : goal.put-requires-clause-numbered
put-requires-clause-numbered c =
    numbered-object_ops c.in_ok-front.front c.args.replica _
    (c.in_ok-front.ensures ∙ ap (take c.args.len) c.history_of.ensures.updates
    ∙ take-numbered c.args.replica 1 c.args.len (history c.args.self.now c.args.replica))

pub returns-then-is_cut_elsewhere-clause-ok : goal.returns-then-is_cut_elsewhere-clause-ok
returns-then-is_cut_elsewhere-clause-ok c =
    let s = c.args.self.now in let r = c.args.replica in
    let listed =
    c.in_ok-front.ensures ∙ ap (take c.args.len) c.history_of.ensures.updates
    ∙ take-numbered r 1 c.args.len (history s r) in
    subst (λ ds. OnOk c.put.result (c.put.new.self ≡ with_history s r ds))
    (ap (map object_op_of) listed ∙ object_ops-numbered r 1 (take c.args.len (history s r))) c.put.ensures.ok

pub invariant_of-drop : goal.invariant_of-drop
invariant_of-drop c =
    subst (λ kept. IsRepresentation (lists_of kept)) (sym c.replace-of.ensures.after)
    (IsRepresentation-from (lists_of Empty) empty refl none_each (λ r. omega (arith, ap length (history-empty r))))

pub returns-clause-ok : goal.returns-clause-ok
returns-clause-ok c =
    let r = c.args.replica in let n = c.args.len in
    let more = c.if-count_of-len.false in
    c.drop.view_is ∙ c.cut.ensures
    ∙ ap (λ kept. truncate (represented (lists_of kept)) r n) c.replace-of.ensures.value
    ∙ recut c.self.inside.of r n (c.is_cut_elsewhere.ensures c.if-is_cut_elsewhere.false)
    (omega (arith, more, c.count_of.ensures.count, ap (λ s. count s r) c.self.view_is))
    ∙ ap (λ s. truncate s r n) c.self.view_is
