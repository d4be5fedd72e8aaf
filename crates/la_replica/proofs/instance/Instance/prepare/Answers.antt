use Rattle.std.proofs.Common.{◌≡◌, ℕ, Result, Ok, Err, IfOk, sym, subst, rules}
use Rattle.la_set.specs.declared.counts.Counts.{Counts}
use Rattle.la_set.specs.Counts.{counts_of}
use Rattle.la_proposer.specs.ProposerState.{ProposerState}
use Rattle.la_replica.specs.declared.change.Change.{Change}
use Rattle.la_replica.specs.declared.out.Out.{Out}
use Rattle.la_replica.specs.declared.whole.Whole.{Whole}
use Rattle.la_replica.specs.declared.whole.WholeBody.{WholeBody}
use Rattle.la_replica.specs.Changes.{proposer_after, told_in_view}
use Rattle.la_replica.specs.Steps.{is_told}
use Rattle.la_replica.specs.Whole.{Message, lent_body, lent_message}
use Rattle.la_replica.specs.Prepared.{PreparesReceiptAt, PreparesMessageAt}
use Rattle.la_replica.specs.Bases.{offered_by, AreToldBy}
use Rattle.la_replica.proofs.instance.Instance.prepare.Goals as goal

-- a message with this body
abbrev with_body : Whole → WholeBody → Message
with_body m b =
    record { instance = m.instance; from = m.from; to = m.to; ballot = m.ballot; body = lent_body b }

-- what is told so whatever the proposer becomes
whatever : {E : Type 0} (p : ProposerState) (i : ℕ) (offered : Counts) (r : Result (Out × Change) E)
    → ((q : ProposerState) → IfOk r (λ prepared. AreToldBy q i offered prepared.0.mail))
    → IfOk r (λ prepared. AreToldBy (proposer_after p prepared.1.proposer) i offered prepared.0.mail)
whatever p i offered (Ok prepared) told = told (proposer_after p prepared.1.proposer)
whatever p i offered (Err e) told = told p

pub returns-in-Offer-clause-told : goal.returns-in-Offer-clause-told
returns-in-Offer-clause-told c =
    let p = c.args.self.now.proposer in let i = c.args.message.instance in
    let same : offered_by (lent_message c.args.message) ≡ counts_of c.in-Offer.offered.now = search rules in
    subst
    (λ counts.
    IfOk c.prepare_answer.result
    (λ prepared. AreToldBy (proposer_after p prepared.1.proposer) i counts prepared.0.mail)) (sym same)
    (whatever p i (counts_of c.in-Offer.offered.now) c.prepare_answer.result c.prepare_answer.ensures.told)

pub returns-in-Tell-clause-ok : goal.returns-in-Tell-clause-ok
returns-in-Tell-clause-ok c =
    let s = c.args.sender.now in let x = c.args.self.now in let m = c.args.message in let told = c.in-Tell.told.now in
    let at_instance =
    subst
    (λ i.
    IfOk c.prepare_tell.result
    (PreparesReceiptAt x i c.args.taken (told_in_view i told) (λ view. is_told s x view told)))
    c.requires.instance (c.prepare_tell.ensures.ok x) in
    subst
    (λ (b : WholeBody).
    IfOk c.prepare_tell.result (PreparesMessageAt s x c.args.verdict c.args.taken (with_body m b)))
    (sym c.in-Tell.is) at_instance
