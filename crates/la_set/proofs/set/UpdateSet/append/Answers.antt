use Rattle.std.proofs.Common.{◌≡◌, [], ◌∷◌, ◌++◌, ◌∙◌, map, ap, subst, length, arith, OnOk}
use Rattle.std.proofs.lemmas.List.{length-append}
use Rattle.la_set.specs.ObjectOps.{object_op_of}
use Rattle.la_set.specs.Histories.{history, with_history}
use Rattle.la_set.proofs.lemmas.NumberedLists.{object_ops-numbered, length-numbered}
use Rattle.la_set.proofs.Representation.{numbered-object_ops, pushed-list}
use Rattle.la_set.proofs.set.UpdateSet.append.Goals as goal

pub put-requires-clause-numbered : goal.put-requires-clause-numbered
put-requires-clause-numbered c =
    let u = c.args.update in
    numbered-object_ops c.push.new.self u.id.replica _
    (pushed-list c.args.self.now u c.push.new.self c.requires.next
    (c.in_ok-push.ensures.ok ∙ ap (λ us. us ++ u ∷ []) (c.in_ok-list.ensures ∙ c.history_of.ensures.updates)))

pub put-requires-clause-within : goal.put-requires-clause-within
put-requires-clause-within c =
    let u = c.args.update in let s = c.args.self.now in
    let listed =
    pushed-list s u c.push.new.self c.requires.next
    (c.in_ok-push.ensures.ok ∙ ap (λ us. us ++ u ∷ []) (c.in_ok-list.ensures ∙ c.history_of.ensures.updates)) in
    omega (
      arith,
      ap length listed,
      length-numbered u.id.replica 1 (history s u.id.replica ++ object_op_of u ∷ []),
      length-append (history s u.id.replica) (object_op_of u ∷ []),
      c.requires.next,
      c.requires.within,
    )

pub returns-clause-ok : goal.returns-clause-ok
returns-clause-ok c =
    let s = c.args.self.now in let u = c.args.update in let r = u.id.replica in
    let listed =
    pushed-list s u c.push.new.self c.requires.next
    (c.in_ok-push.ensures.ok ∙ ap (λ us. us ++ u ∷ []) (c.in_ok-list.ensures ∙ c.history_of.ensures.updates)) in
    subst (λ ds. OnOk c.put.result (c.put.new.self ≡ with_history s r ds))
    (ap (map object_op_of) listed ∙ object_ops-numbered r 1 (history s r ++ object_op_of u ∷ [])) c.put.ensures.ok
