use Rattle.std.proofs.Common.{rules, ◌≡◌, ◌<◌, ◌++◌, length, get_or, ap, ap₂, sym, subst, ◌∙◌}
use Rattle.std.proofs.lemmas.Bool.{true≢false}
use Rattle.la_proposer.specs.Majority.{votes_of}
use Rattle.la_replica.specs.Whole.{whole_mail}
use Rattle.la_replica.specs.ReplicaState.{ReplicaState, sender_of}
use Rattle.la_replica.specs.Again.{again_in, again_at}
use Rattle.la_replica.proofs.Calls.{again_there}
use Rattle.la_set.specs.declared.counts.Counts.{Counts}
use Rattle.la_replica.specs.declared.sender.Sender as sender
use Rattle.la_replica.specs.Bases.{AddsTold}
use Rattle.la_replica.proofs.Receiving.{there_now, more_told}
use Rattle.la_replica.proofs.Sending.{one_instance_more, none_in_instance}
use Rattle.la_replica.proofs.replica.Replica.again.Goals as goal

pub returns-in_err-again-clause-nothing : goal.returns-in_err-again-clause-nothing
returns-in_err-again-clause-nothing c = λ none.
    let m : ReplicaState = record { votes = votes_of c.self.inside.votes; own = c.self.inside.own; instances = c.self.inside.instances.items; view = c.self.inside.view } in
    let q = c.args.self.now in let i = c.loop-instance.instance in let x = c.index.result.now in
    let lt : i < length m.instances = search rules in
    let at : x ≡ get_or m.instances i x = search rules in
    let here : again_at q i ≡ again_in (sender_of q i) x =
    subst (λ r. again_at r i ≡ again_in (sender_of r i) x) c.self.view_is (again_there m i x lt at) in
    let lt_now : i < length q.instances = subst (λ (r : ReplicaState). i < length r.instances) c.self.view_is lt in
    absurd
    (true≢false
    (sym
    (c.in_err-again.ensures.nothing
    (ap (λ s. again_in s x) c.sender-sender.ensures ∙ sym here
    ∙ none_in_instance (again_at q) (length q.instances) i lt_now none))))

pub loop-instance-preserved : goal.loop-instance-preserved
loop-instance-preserved c =
    let m : ReplicaState = record { votes = votes_of c.self.inside.votes; own = c.self.inside.own; instances = c.self.inside.instances.items; view = c.self.inside.view } in
    let q = c.args.self.now in let i = c.loop-instance.instance in let x = c.index.result.now in
    let lt : i < length m.instances = search rules in
    let at : x ≡ get_or m.instances i x = search rules in
    let here : again_at q i ≡ again_in (sender_of q i) x =
    subst (λ r. again_at r i ≡ again_in (sender_of r i) x) c.self.view_is (again_there m i x lt at) in
    let before = whole_mail c.loop-instance.mail in
    let told : (offered : Counts) → AddsTold x.proposer i offered c.loop-instance.mail c.again.new.mail =
    λ offered.
    subst (λ (s : sender.Sender). AddsTold x.proposer s.instance offered c.loop-instance.mail c.again.new.mail)
    c.sender-sender.ensures (c.in_ok-again.ensures.told offered) in (
      c.in_ok-again.ensures.ok ∙ ap (λ s. before ++ again_in s x) c.sender-sender.ensures
          ∙ ap₂ (λ xs ys. xs ++ ys) c.loop-instance.invariant.0 (sym here) ∙ sym (one_instance_more (again_at q) i),
      λ offered.
          more_told q i x offered (there_now m q c.self.view_is i x lt at) c.loop-instance.mail c.again.new.mail
          (told offered) (c.loop-instance.invariant.1 offered),
    )
