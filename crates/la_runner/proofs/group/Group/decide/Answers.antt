use Rattle.std.proofs.Common.{◌≡◌, Some, sym, ◌∙◌, subst, rules}
use Rattle.std.specs.Prelude.{IfErr}
use Rattle.la_commit.specs.Instances.{second_instance}
use Rattle.la_commit.specs.Votes.{first_vote_for, second_vote_for}
use Rattle.la_runner.specs.Members.{IsOnlyIn}
use Rattle.la_runner.specs.Participants.{HasVotedSet}
use Rattle.la_runner.specs.Refusals.{IsRefusedVote, IsRefusedInEither, IsRefusedDecision}
use Rattle.la_runner.proofs.Keeping.{goes_on_then}
use Rattle.la_runner.proofs.Proposing.{may_vote_first, vote_comes, some_same, if_err_on, refused_second, refused_decision}
use Rattle.la_runner.proofs.group.Group.decide.Goals as goal

pub vote-requires-after_bounds : goal.vote-requires-after_bounds
vote-requires-after_bounds g c κs within = record {
  of = c.requires;
  within = search rules;
  may =
      may_vote_first c.args.member.now c.may_propose.ensures.is c.args.commit c.args.value c.first_instance.result
      c.first_instance.ensures c.in_ok-may_propose.ensures.may;
}

pub returns-in_err-left-clause-goes_on : goal.returns-in_err-left-clause-goes_on
returns-in_err-left-clause-goes_on g c = record {
  of = c.vote.ensures.goes_on.of;
  goes = c.vote.ensures.goes_on.goes;
  only =
      λ j one two.
      subst (λ i. IsOnlyIn i c.args.member.now c.vote.new.member) c.first_instance.ensures c.vote.ensures.goes_on.only
      j one;
}

pub returns-in_err-vote-clause-goes_on : goal.returns-in_err-vote-clause-goes_on
returns-in_err-vote-clause-goes_on g c =
    let first =
    subst (λ i. IsOnlyIn i c.args.member.now c.vote.new.member) c.first_instance.ensures
    c.vote.ensures.goes_on.only in
    let then =
    subst (λ i. IsOnlyIn i c.vote.new.member c.vote-2.new.member) c.second_instance.ensures
    c.vote-2.ensures.goes_on.only in
    record {
      of = c.vote-2.ensures.goes_on.of;
      goes =
          goes_on_then c.args.member.now c.vote.new.member c.vote-2.new.member c.vote.ensures.goes_on.goes
          c.vote-2.ensures.goes_on.goes;
      only = λ j one two. then j two ∙ first j one;
    }

pub returns-clause-goes_on : goal.returns-clause-goes_on
returns-clause-goes_on g c =
    let first =
    subst (λ i. IsOnlyIn i c.args.member.now c.vote.new.member) c.first_instance.ensures
    c.vote.ensures.goes_on.only in
    let then =
    subst (λ i. IsOnlyIn i c.vote.new.member c.vote-2.new.member) c.second_instance.ensures
    c.vote-2.ensures.goes_on.only in
    record {
      of = c.vote-2.ensures.goes_on.of;
      goes =
          goes_on_then c.args.member.now c.vote.new.member c.vote-2.new.member c.vote.ensures.goes_on.goes
          c.vote-2.ensures.goes_on.goes;
      only = λ j one two. then j two ∙ first j one;
    }

pub returns-in_err-vote-clause-error : goal.returns-in_err-vote-clause-error
returns-in_err-vote-clause-error g c =
    let voted =
    subst (λ i. HasVotedSet c.vote.new.member i (first_vote_for c.args.value)) c.first_instance.ensures
    c.in_ok-left.ensures.voted in
    let there : c.second_vote.result ≡ Some c.unwrap-second.result = search rules in
    let is : c.unwrap-second.result ≡ second_vote_for voted.0 c.args.value =
    some_same
    (sym there ∙ c.second_vote.ensures.vote
    ∙ vote_comes c.vote.new.member c.args.commit c.args.value voted.0 voted.1) in
    let first =
    subst (λ i. IsOnlyIn i c.args.member.now c.vote.new.member) c.first_instance.ensures c.vote.ensures.goes_on.only in
    let then =
    subst (λ i. IsOnlyIn i c.vote.new.member c.vote-2.new.member) c.second_instance.ensures c.vote-2.ensures.goes_on.only in
    let h : IfErr c.vote-2.result
    (IsRefusedDecision c.args.rounds c.args.commit c.args.value c.args.member.now c.vote-2.new.member) =
    refused_decision c.args.rounds c.args.commit c.args.value c.args.member.now c.vote-2.new.member c.vote-2.result
    c.in_ok-may_propose.ensures.there c.in_ok-may_propose.ensures.may
    (if_err_on c.vote-2.result (IsRefusedVote c.in_ok-left.left c.args.commit c.unwrap-second.result (second_instance c.args.commit) c.vote.new.member c.vote-2.new.member) (IsRefusedInEither c.args.rounds c.args.commit c.args.value c.args.member.now c.vote-2.new.member)
    (λ e.
    refused_second c.args.member.now c.vote.new.member c.vote-2.new.member c.args.commit c.args.value
    c.vote.ensures.goes_on.goes c.vote-2.ensures.goes_on.goes first then c.args.rounds c.in_ok-left.left e voted.0
    c.unwrap-second.result c.in_ok-left.ensures.left voted.1 is)
    (subst (λ i. IfErr c.vote-2.result (IsRefusedVote c.in_ok-left.left c.args.commit c.unwrap-second.result i c.vote.new.member c.vote-2.new.member)) c.second_instance.ensures c.vote-2.ensures.error)) c.vote-2.ensures.kind in
    search rules
