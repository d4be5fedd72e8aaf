use Rattle.std.proofs.Common.{◌++◌, length, reverse, sym, ◌∙◌, ap, arith}
use Rattle.std.proofs.lemmas.List.{reverse-reverse}
use Rattle.std.proofs.lemmas.Bool.{false≢true}
use Rattle.la_set.specs.Histories.{history}
use Rattle.la_set.proofs.lemmas.NumberedLists.{length-numbered}
use Rattle.la_set.proofs.Overs.{parts, part, parts-more, parts-none, part-list, over-parts}
use Rattle.la_set.proofs.set.UpdateSet.listed_over.Goals as goal

pub loop-replica-preserved : goal.loop-replica-preserved
loop-replica-preserved c =
    let f = part c.args.self.now c.args.base in let r = c.loop-replica.replica in
    c.in_ok-append_reversed.ensures.ok
    ∙ ap (λ us. us ++ reverse c.in_ok-rest.rest.items) c.loop-replica.invariant
    ∙ ap (λ us. parts f 0 r ++ us)
    (ap reverse c.in_ok-rest.ensures.ok ∙ reverse-reverse _
    ∙ part-list c.args.self.now c.args.base r _ _ c.history_of.ensures.updates c.of.ensures)
    ∙ sym (parts-more f r)

pub returns-clause-ok : goal.returns-clause-ok
returns-clause-ok c =
    c.loop-replica.invariant
    ∙ ap (parts (part c.args.self.now c.args.base) 0) {x = c.loop-replica.replica} {y = 8} (omega arith)
    ∙ sym (over-parts c.args.self.now c.args.base)

pub rest_of-requires : goal.rest_of-requires
rest_of-requires c =
    let s = c.args.self.now in let r = c.loop-replica.replica in
    omega (arith, c.of.ensures, ap length c.history_of.ensures.updates, length-numbered r 1 (history s r), c.requires r)

pub returns-in_err-rest-clause-room : goal.returns-in_err-rest-clause-room
returns-in_err-rest-clause-room c none =
    let s = c.args.self.now in let b = c.args.base in let r = c.loop-replica.replica in
    absurd (false≢true (c.in_err-rest.ensures.room (
    part-list s b r _ _ c.history_of.ensures.updates c.of.ensures ∙ parts-none (part s b) 0 8 r (sym (over-parts s b) ∙ none) (omega arith) (omega arith))))

pub returns-in_err-append_reversed-clause-room : goal.returns-in_err-append_reversed-clause-room
returns-in_err-append_reversed-clause-room c none =
    let s = c.args.self.now in let b = c.args.base in let r = c.loop-replica.replica in
    absurd (false≢true (c.in_err-append_reversed.ensures.room (c.in_ok-rest.ensures.ok ∙ ap reverse (
    part-list s b r _ _ c.history_of.ensures.updates c.of.ensures ∙ parts-none (part s b) 0 8 r (sym (over-parts s b) ∙ none) (omega arith) (omega arith)))))
