use Rattle.std.proofs.Common.{◌≡◌, ◌≢◌, ◌<◌, None, length, ap, sym, ◌∙◌, subst, rules, arith}
use Rattle.std.specs.List.{slice_index_or}
use Rattle.la_commit.specs.Instances.{first_instance, second_instance}
use Rattle.la_commit.specs.Votes.{own_vote}
use Rattle.la_runner.proofs.Keeping.{item_at}
use Rattle.la_runner.proofs.Proposing.{commit_there, other_there, no_other_there, some_same, none_some}
use Rattle.la_runner.proofs.member.Member.may_propose.Goals as goal

pub returns-in-Some-clause-error : goal.returns-in-Some-clause-error
returns-in-Some-clause-error c =
    let long : second_instance c.args.commit < length c.self.inside.instances.items = search rules in
    let ne : c.in-Some.vote.value ≢ c.args.value = search rules in
    let at =
    item_at c.self.inside.instances.items (first_instance c.args.commit) c.index-first.result.now
    (omega (arith, long))
    (subst (λ i. c.index-first.result.now ≡ slice_index_or c.self.inside.instances.items i c.index-first.result.now)
    c.first_instance.ensures c.index-first.ensures) in (
      commit_there c.self.inside c.args.self.now c.args.commit c.self.view_is long,
      other_there c.self.inside c.args.self.now c.args.commit c.index-first.result.now c.own_vote.result c.in-Some.vote
          c.args.value c.self.view_is c.self.invariant at
          (c.own_vote.ensures ∙ ap (λ s. own_vote s c.self.inside.replica) c.updates.ensures) c.in-Some.is ne,
    )

pub returns-in_default-clause-may : goal.returns-in_default-clause-may
returns-in_default-clause-may c =
    let long : second_instance c.args.commit < length c.self.inside.instances.items = search rules in
    let eq : c.in-Some.vote.value ≡ c.args.value = search rules in
    let none : c.index.result.now.learnt ≡ None = search rules in
    let at =
    item_at c.self.inside.instances.items (first_instance c.args.commit) c.index-first.result.now
    (omega (arith, long))
    (subst (λ i. c.index-first.result.now ≡ slice_index_or c.self.inside.instances.items i c.index-first.result.now)
    c.first_instance.ensures c.index-first.ensures) in
    let second =
    item_at c.self.inside.instances.items (second_instance c.args.commit) c.index.result.now long
    (subst (λ i. c.index.result.now ≡ slice_index_or c.self.inside.instances.items i c.index.result.now)
    c.second_instance-2.ensures c.index.ensures) in
    no_other_there c.self.inside c.args.self.now c.args.commit c.index-first.result.now c.index.result.now
    c.own_vote.result c.args.value c.self.view_is c.self.invariant at second
    (c.own_vote.ensures ∙ ap (λ s. own_vote s c.self.inside.replica) c.updates.ensures)
    (λ v e. ap (λ w. w.value) (some_same (sym e ∙ c.in-Some.is)) ∙ eq) none

pub returns-in_default-2-clause-may : goal.returns-in_default-2-clause-may
returns-in_default-2-clause-may c =
    let long : second_instance c.args.commit < length c.self.inside.instances.items = search rules in
    let nothing : c.own_vote.result ≡ None = search rules in
    let none : c.index.result.now.learnt ≡ None = search rules in
    let at =
    item_at c.self.inside.instances.items (first_instance c.args.commit) c.index-first.result.now
    (omega (arith, long))
    (subst (λ i. c.index-first.result.now ≡ slice_index_or c.self.inside.instances.items i c.index-first.result.now)
    c.first_instance.ensures c.index-first.ensures) in
    let second =
    item_at c.self.inside.instances.items (second_instance c.args.commit) c.index.result.now long
    (subst (λ i. c.index.result.now ≡ slice_index_or c.self.inside.instances.items i c.index.result.now)
    c.second_instance-2.ensures c.index.ensures) in
    no_other_there c.self.inside c.args.self.now c.args.commit c.index-first.result.now c.index.result.now
    c.own_vote.result c.args.value c.self.view_is c.self.invariant at second
    (c.own_vote.ensures ∙ ap (λ s. own_vote s c.self.inside.replica) c.updates.ensures)
    (λ v e. absurd (none_some (sym nothing ∙ e))) none
