use Rattle.std.proofs.Common.{◌≡◌, ap, sym, ◌∙◌, subst, set, map, length, arith}
use Rattle.la_set.specs.ObjectOps.{object_op_of}
use Rattle.la_set.specs.Histories.{history, numbered, with_history}
use Rattle.la_set.specs.Representation.{represented, IsRepresentation}
use Rattle.la_set.proofs.lemmas.NumberedLists.{object_ops-numbered}
use Rattle.la_set.proofs.Representation.{numbered-object_ops, represented-edited, IsRepresentation-edited}
use Rattle.la_set.proofs.set.UpdateSet.with_updates_of.Goals as goal
use Rattle.la_set.proofs.set.UpdateSet.with_updates_of.Goals.{In_ok-of-2}

edited-keeps : (c : In_ok-of-2) → IsRepresentation (set c.in_ok-of.of c.args.replica c.in_ok-of-2.field-0)
edited-keeps c =
    let r = c.args.replica in let us = c.in_ok-of-2.field-0 in
    let is : us ≡ numbered r 1 (history c.args.other.now r) = c.in_ok-of-2.ensures ∙ c.history_of.ensures.updates in
    IsRepresentation-edited c.in_ok-of.of c.args.self.now r us c.requires c.in_ok-of.ensures.eight
    c.in_ok-of.ensures.each (numbered-object_ops us r _ is)
    (omega (arith, ap length c.in_ok-of-2.ensures, c.history_of.ensures.limit)) c.allocator-alloc.ensures

pub invariant_of-result : goal.invariant_of-result
invariant_of-result c =
    subst IsRepresentation (sym c.in_ok-keeping.ensures.lists) (edited-keeps (goal.at.invariant_of-result c).In_ok-of-2)

pub returns : goal.returns
returns c =
    let s = c.args.self.now in let r = c.args.replica in let us = c.in_ok-of-2.field-0 in
    let is : us ≡ numbered r 1 (history c.args.other.now r) = c.in_ok-of-2.ensures ∙ c.history_of.ensures.updates in
    ap represented c.in_ok-keeping.ensures.lists
    ∙ represented-edited c.in_ok-of.of s r us c.requires c.in_ok-of.ensures.eight c.in_ok-of.ensures.each
    (numbered-object_ops us r _ is)
    ∙ ap (with_history s r) (ap (map object_op_of) is ∙ object_ops-numbered r 1 (history c.args.other.now r))
