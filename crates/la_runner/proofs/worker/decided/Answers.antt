use Rattle.std.proofs.Common.{◌≡◌, Some, sym, subst}
use Rattle.std.specs.Prelude.{IsSome}
use Rattle.la_commit.specs.Instances.{first_instance, second_instance}
use Rattle.la_runner.specs.Members.{member_learnt}
use Rattle.la_runner.proofs.Answering.{commit_within, learnt_there, decision_is}
use Rattle.la_runner.proofs.worker.decided.Goals as goal

pub first_instance-requires : goal.first_instance-requires
first_instance-requires c =
    commit_within c.args.member.now c.args.commit c.requires.0 c.args.outcome c.replica-own.ensures.is c.requires.1

pub learnt-requires : goal.learnt-requires
learnt-requires c =
    subst (λ i. IsSome (member_learnt c.args.member.now i)) (sym c.first_instance.ensures)
    (learnt_there (member_learnt c.args.member.now (first_instance c.args.commit)) c.requires.1.first
    c.requires.1.is_first.learnt)

pub second_instance-requires : goal.second_instance-requires
second_instance-requires c =
    commit_within c.args.member.now c.args.commit c.requires.0 c.args.outcome c.replica-own.ensures.is c.requires.1

pub learnt-requires-2 : goal.learnt-requires-2
learnt-requires-2 c =
    subst (λ i. IsSome (member_learnt c.args.member.now i)) (sym c.second_instance.ensures)
    (learnt_there (member_learnt c.args.member.now (second_instance c.args.commit)) c.requires.1.second
    c.requires.1.is_second.learnt)

pub returns-clause-ok : goal.returns-clause-ok
returns-clause-ok c value d =
    decision_is c.args.member.now c.args.commit value c.args.outcome c.in_ok-first.first c.in_ok-second.second d
    (subst (λ i. member_learnt c.args.member.now i ≡ Some c.in_ok-first.first) c.first_instance.ensures
    c.in_ok-first.ensures.ok)
    (subst (λ i. member_learnt c.args.member.now i ≡ Some c.in_ok-second.second) c.second_instance.ensures
    c.in_ok-second.ensures.ok)
