use Rattle.std.proofs.Common.{◌≡◌, Some, None, option_and_then, false, refl, sym, subst}
use Rattle.std.specs.Prelude.{ℕ, Option}
use Rattle.la_set.specs.Histories.{Histories}
use Rattle.la_commit.specs.Instances.{is_first_instance}
use Rattle.la_replica.specs.Whole.{whole_out}
use Rattle.la_replica.specs.Received.{received_in}
use Rattle.la_replica.specs.Bases.{offered_by}
use Rattle.la_replica.specs.Steps.{learnt_in}
use Rattle.la_replica.specs.ReplicaState.{ReplicaState, receives}
use Rattle.la_node.specs.declared.done.Done.{Done}
use Rattle.la_node.specs.SecondVotes.{vote_in}
use Rattle.la_node.specs.Preparing.{TakesAs}
use Rattle.la_node.proofs.Participants.{led_is, takes_plainly}
use Rattle.la_node.proofs.lemmas.Telling.{told_of}
use Rattle.la_node.proofs.participant.take_plainly.Goals as goal

no_vote : (i r : ℕ) (learnt : Option Histories) → is_first_instance i ≡ false
    → None ≡ option_and_then (vote_in i r) learnt
no_vote i r None plain = refl
no_vote i r (Some learnt) plain = rw plain refl

pub returns : goal.returns
returns c =
    let r = c.args.receiver.now in let m = received_in r c.args._message.now in let out = whole_out c.args.out in
    let after = c.commit.new.self in
    let received =
    led_is r after out c.args.change (receives r m) c.requires.prepared.prepared.step c.commit.ensures.done in
    let none = no_vote m.instance r.own (learnt_in out.said) c.requires.plain in
    subst (λ (s : ReplicaState). TakesAs r c.args._message.now c.without_vote.result s) (sym c.note_growth.ensures)
    (subst (λ (d : Done). TakesAs r c.args._message.now d after) (sym c.without_vote.ensures)
    (record {
      step = takes_plainly r m out after received none;
      told =
          told_of after c.args.change.instance (offered_by m) c.args.out.mail
          (c.requires.prepared.prepared.told after c.commit.ensures.done);
    }))
