use Rattle.std.proofs.Common.{Some, option_and_then, ap, sym, subst, ◌∙◌}
use Rattle.la_replica.specs.Whole.{whole_out}
use Rattle.la_replica.specs.Received.{received_in}
use Rattle.la_replica.specs.Bases.{offered_by, AreToldIn}
use Rattle.la_replica.specs.Steps.{learnt_in}
use Rattle.la_replica.specs.ReplicaState.{receives}
use Rattle.la_node.specs.declared.done.Done.{Done}
use Rattle.la_node.specs.SecondVotes.{vote_in}
use Rattle.la_node.specs.Taking.{Taken, whole_done}
use Rattle.la_node.proofs.Participants.{led_is, may_vote, takes_plainly, takes_voting}
use Rattle.la_node.proofs.lemmas.Telling.{told_of}
use Rattle.la_node.proofs.participant.take_prepared.Goals as goal

pub returns-in-None-clause-taken : goal.returns-in-None-clause-taken
returns-in-None-clause-taken c =
    let r = c.args.receiver.now in let m = received_in r c.args.message.now in let out = whole_out c.args.out in
    let after = c.commit.new.self in
    let offered = offered_by m in
    let wanted =
    sym c.in-None.is ∙ c.vote_in.ensures
    ∙ (λ j.
    option_and_then (vote_in m.instance (c.own.ensures.own j))
    ((c.as_ref.ensures.value ∙ c.in_ok-learnt.ensures.ok) j)) in
    let received = led_is r after out c.args.change (receives r m) c.requires.prepared.step c.commit.ensures.done in
    record {
      step =
          takes_plainly r m out after received wanted
          ∙ ap (λ (d : Done). Some (whole_done d, after)) (sym c.without_vote.ensures);
      told =
          subst (λ (d : Done). AreToldIn after offered d.mail) (sym c.without_vote.ensures)
          (told_of after c.args.change.instance offered c.args.out.mail (c.requires.prepared.told after c.commit.ensures.done));
    }

pub returns-in-None-clause-learnt : goal.returns-in-None-clause-learnt
returns-in-None-clause-learnt c =
    c.in_ok-learnt.ensures.ok ∙ ap (λ (d : Done). learnt_in d.said) (sym c.without_vote.ensures)

pub commit_both-requires-clause-vote : goal.commit_both-requires-clause-vote
commit_both-requires-clause-vote c =
    let r = c.args.receiver.now in let m = received_in r c.args.message.now in let out = whole_out c.args.out in
    let wanted =
    sym c.in-Some.is ∙ c.vote_in.ensures
    ∙ (λ j.
    option_and_then (vote_in m.instance (c.own.ensures.own j))
    ((c.as_ref.ensures.value ∙ c.in_ok-learnt.ensures.ok) j)) in
    let may = may_vote r m c.requires.vote out c.args.change c.requires.prepared.step c.requires.prepared.from c.in-Some.vote wanted in
    record { few = c.requires.few; room = may.0; spares = may.1 }

pub returns-in_ok-done-in-Some-clause-taken : goal.returns-in_ok-done-in-Some-clause-taken
returns-in_ok-done-in-Some-clause-taken c =
    let r = c.args.receiver.now in let m = received_in r c.args.message.now in let out = whole_out c.args.out in
    let wanted =
    sym c.in-Some.is ∙ c.vote_in.ensures
    ∙ (λ j.
    option_and_then (vote_in m.instance (c.own.ensures.own j))
    ((c.as_ref.ensures.value ∙ c.in_ok-learnt.ensures.ok) j)) in
    let both = c.in_ok-done-in-Some.ensures.both in let after = c.commit_both.new.receiver in
    let received = led_is r both.then out c.args.change (receives r m) c.requires.prepared.step both.first in
    record {
      step =
          takes_voting r m c.in-Some.vote out both.cast both.then after received wanted both.second
          ∙ ap (λ (t : Taken). Some (t, after)) (sym both.is);
      told = both.told (offered_by m) c.requires.prepared.told;
    }

pub returns-in_ok-done-in-Some-clause-learnt : goal.returns-in_ok-done-in-Some-clause-learnt
returns-in_ok-done-in-Some-clause-learnt c =
    c.in_ok-learnt.ensures.ok ∙ ap learnt_in (sym c.in_ok-done-in-Some.ensures.both.said)
