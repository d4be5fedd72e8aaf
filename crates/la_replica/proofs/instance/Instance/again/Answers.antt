use Rattle.std.proofs.Common.{Result, Ok, Err, OnOk, sym}
use Rattle.std.proofs.lemmas.Bool.{true≢false}
use Rattle.la_replica.specs.Again.{offers_again, tells_again}
use Rattle.la_replica.proofs.Sending.{none_first, none_second, told_both}
use Rattle.la_replica.proofs.instance.Instance.again.Goals as goal

on_ok : {T E P Q : Type 0} (r : Result T E) → (P → Q) → OnOk r P → OnOk r Q
on_ok (Ok x) f h = f h
on_ok (Err e) f h = h

pub returns-in_err-offer_again-clause-nothing : goal.returns-in_err-offer_again-clause-nothing
returns-in_err-offer_again-clause-nothing c = λ none.
    let s = c.args.sender.now in let x = c.args.self.now in
    absurd
    (true≢false
    (sym
    (c.in_err-offer_again.ensures.nothing (none_first (offers_again s x.proposer) (tells_again s x.learnt) none))))

pub returns-clause-nothing : goal.returns-clause-nothing
returns-clause-nothing c = λ none.
    let s = c.args.sender.now in let x = c.args.self.now in
    c.tell_again.ensures.nothing (none_second (offers_again s x.proposer) (tells_again s x.learnt) none)

pub returns-clause-told : goal.returns-clause-told
returns-clause-told c = λ offered.
    let p = c.args.self.now.proposer in let i = c.args.sender.now.instance in
    let first = c.args.mail.now in let mid = c.offer_again.new.mail in let after = c.tell_again.new.mail in
    on_ok c.tell_again.result (told_both p i offered first mid after (c.in_ok-offer_again.ensures.told offered))
    (c.tell_again.ensures.told p offered)
