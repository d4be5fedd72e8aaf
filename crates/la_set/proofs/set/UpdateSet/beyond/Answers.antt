use Rattle.std.proofs.Common.{◌≡◌, ◌+◌, reverse, [], ◌++◌, filter, append-nil, ap, sym, ◌∙◌, arith}
use Rattle.std.proofs.lemmas.List.{reverse-reverse}
use Rattle.std.proofs.lemmas.List.Elements.{filter-append}
use Rattle.std.proofs.lemmas.Bool.{false≢true}
use Rattle.la_set.specs.Histories.{history, numbered, updates_from, updates}
use Rattle.la_set.specs.Difference.{lacks}
use Rattle.la_set.proofs.lemmas.NumberedLists.{updates_from-add}
use Rattle.la_set.proofs.Unmatched.{lacked-lists, none_lacked}
use Rattle.la_set.proofs.lemmas.Membership.{numbered-members}
use Rattle.la_set.proofs.set.UpdateSet.beyond.Goals as goal

pub loop-replica-preserved : goal.loop-replica-preserved
loop-replica-preserved c =
    let h = history c.args.self.now in let r = c.loop-replica.replica in let new = lacks c.args.other.now in
    let one_more : updates_from h 0 (r + 1) ≡ updates_from h 0 r ++ numbered r 1 (h r) =
    updates_from-add h 0 r 1
    ∙ ap (λ q. updates_from h 0 r ++ (numbered q 1 (h q) ++ [])) {x = 0 + r} {y = r} (omega arith)
    ∙ ap (λ us. updates_from h 0 r ++ us) (append-nil (numbered r 1 (h r))) in
    c.in_ok-append_reversed.ensures.ok
    ∙ ap (λ us. us ++ reverse c.in_ok-lacking.lacking.items) c.loop-replica.invariant
    ∙ ap (λ us. filter new (updates_from h 0 r) ++ us)
    (ap reverse c.in_ok-lacking.ensures.ok ∙ reverse-reverse _
    ∙ lacked-lists c.args.other.now r (h r) _ _ c.history_of.ensures.updates
    c.history_of-in-loop-replica.ensures.updates)
    ∙ sym (ap (filter new) one_more ∙ filter-append new (updates_from h 0 r) (numbered r 1 (h r)))

pub returns-clause-ok : goal.returns-clause-ok
unfolding updates
returns-clause-ok c =
    c.loop-replica.invariant
    ∙ ap (λ k. filter (lacks c.args.other.now) (updates_from (history c.args.self.now) 0 k))
    {x = c.loop-replica.replica} {y = 8} (omega arith)

pub returns-in_err-lacking-clause-room : goal.returns-in_err-lacking-clause-room
returns-in_err-lacking-clause-room c sub =
    let r = c.loop-replica.replica in
    absurd (false≢true (c.in_err-lacking.ensures.room (
    lacked-lists c.args.other.now r (history c.args.self.now r) _ _ c.history_of.ensures.updates
    c.history_of-in-loop-replica.ensures.updates
    ∙ none_lacked c.args.other.now (numbered r 1 (history c.args.self.now r)) (λ k d lt. sub _ (numbered-members c.args.self.now r k d lt)))))

pub returns-in_err-append_reversed-clause-room : goal.returns-in_err-append_reversed-clause-room
returns-in_err-append_reversed-clause-room c sub =
    let r = c.loop-replica.replica in
    absurd (false≢true (c.in_err-append_reversed.ensures.room (c.in_ok-lacking.ensures.ok ∙ ap reverse (
    lacked-lists c.args.other.now r (history c.args.self.now r) _ _ c.history_of.ensures.updates
    c.history_of-in-loop-replica.ensures.updates
    ∙ none_lacked c.args.other.now (numbered r 1 (history c.args.self.now r)) (λ k d lt. sub _ (numbered-members c.args.self.now r k d lt))))))
