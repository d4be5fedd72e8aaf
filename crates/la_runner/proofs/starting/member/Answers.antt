use Rattle.std.proofs.Common.{◌≡◌, refl, arith, ap, sym, ◌∙◌, ◌+◌, subst, map, List, length}
use Rattle.std.proofs.lemmas.List.Elements.{All-map}
use Rattle.la_proposer.specs.Majority.{votes_of}
use Rattle.la_shared.specs.Passes.{AcceptorName}
use Rattle.la_runner.specs.declared.group.Row.{Row}
use Rattle.la_runner.specs.declared.starting.Firsts.{Firsts}
use Rattle.la_runner.specs.Instances.{state_of}
use Rattle.la_runner.specs.Starting.{newcomer, IsNewInstance}
use Rattle.la_runner.proofs.Passing.{map-set_other}
use Rattle.la_runner.proofs.Fresh.{AreNew, item_there, firsts_at, firsts_there, row_of, map_push, new_push, fresh_member, names_long}
use Rattle.la_runner.proofs.starting.member.Goals as goal

pub passes-requires : goal.passes-requires
passes-requires c =
    firsts_at (λ (r : Row). r.acceptors.items) (λ (f : Firsts). f.passes.items) c.loop-at.firsts.items c.args.rows.now
    c.loop-at.at c.index_mut.result.now c.index-rows-at.result c.loop-at.invariant.1
    (firsts_there (λ (r : Row). r.acceptors.items) (λ (f : Firsts). f.passes.items) c.loop-at.firsts.items
    c.args.rows.now c.loop-at.at c.index_mut.result.now c.loop-at.invariant.1 c.loop-at-test.true
    c.index_mut.ensures.value)
    (item_there c.args.rows.now c.loop-at.at c.index-rows-at.result c.loop-at-test.true c.index-rows-at.is)
    ∙ ap (map newcomer) (sym (c.deref.ensures.value ∙ ap (λ (r : Row). r.acceptors.items) (sym c.index-rows-at.is)))

pub returns-in_err-seats-clause-firsts : goal.returns-in_err-seats-clause-firsts
returns-in_err-seats-clause-firsts c =
    map-set_other (λ (f : Firsts). f.passes.items) c.loop-at.firsts.items c.loop-at.at c.index_mut.result.now _
    (firsts_there (λ (r : Row). r.acceptors.items) (λ (f : Firsts). f.passes.items) c.loop-at.firsts.items
    c.args.rows.now c.loop-at.at c.index_mut.result.now c.loop-at.invariant.1 c.loop-at-test.true
    c.index_mut.ensures.value) c.passes.ensures.same ∙ c.loop-at.invariant.1

pub returns-in_err-push-clause-firsts : goal.returns-in_err-push-clause-firsts
returns-in_err-push-clause-firsts c =
    map-set_other (λ (f : Firsts). f.passes.items) c.loop-at.firsts.items c.loop-at.at c.index_mut.result.now _
    (firsts_there (λ (r : Row). r.acceptors.items) (λ (f : Firsts). f.passes.items) c.loop-at.firsts.items
    c.args.rows.now c.loop-at.at c.index_mut.result.now c.loop-at.invariant.1 c.loop-at-test.true
    c.index_mut.ensures.value) c.passes.ensures.same ∙ c.loop-at.invariant.1

pub loop-at-preserved : goal.loop-at-preserved
loop-at-preserved c =
    let there = item_there c.args.rows.now c.loop-at.at c.index-rows-at.result c.loop-at-test.true c.index-rows-at.is in
    let group = map (λ (r : Row). r.acceptors.items) c.args.rows.now in
    let seats =
    c.in_ok-seats.ensures.passes
    ∙ ap (map newcomer) (c.deref.ensures.value ∙ ap (λ (r : Row). r.acceptors.items) (sym c.index-rows-at.is)) in
    let new =
    subst
    (λ n.
    IsNewInstance (votes_of c.args.votes) c.args.own n c.index-rows-at.result.acceptors.items
    (state_of c.new-instance.result)) c.cap_of-most.ensures
    (c.new-instance.ensures c.index-rows-at.result.acceptors.items seats) in (
      subst (AreNew group (votes_of c.args.votes) c.args.own c.args.cap (c.loop-at.at + 1))
          (sym
          (ap (map state_of) c.in_ok-push.ensures.items
          ∙ map_push state_of c.loop-at.instances.items c.new-instance.result))
          (new_push group (votes_of c.args.votes) c.args.own c.args.cap c.loop-at.at (map state_of c.loop-at.instances.items) c.index-rows-at.result.acceptors.items (state_of c.new-instance.result) c.loop-at.invariant.0
          (row_of (λ (r : Row). r.acceptors.items) (λ (f : Firsts). f.passes.items) c.args.rows.now c.loop-at.at c.index-rows-at.result there) new),
      map-set_other (λ (f : Firsts). f.passes.items) c.loop-at.firsts.items c.loop-at.at c.index_mut.result.now _
          (firsts_there (λ (r : Row). r.acceptors.items) (λ (f : Firsts). f.passes.items) c.loop-at.firsts.items
          c.args.rows.now c.loop-at.at c.index_mut.result.now c.loop-at.invariant.1 c.loop-at-test.true
          c.index_mut.ensures.value) c.passes.ensures.same ∙ c.loop-at.invariant.1,
    )

pub invariant_of-result : goal.invariant_of-result
invariant_of-result c =
    let names : Row → List AcceptorName = λ (r : Row). r.acceptors.items in
    let group = map names c.args.rows.now in
    let votes = votes_of c.args.votes in
    let all = All-map (λ (row : List AcceptorName). length row ≡ length votes) names c.args.rows.now c.requires.may.sizes in
    let long = names_long names c.args.rows.now in
    let ended : c.loop-at.at ≡ length group = omega (arith, long, c.loop-at-test.false, c.loop-at.auto.at-end) in
    fresh_member group votes c.args.own c.args.cap c.requires.known c.requires.may.few c.requires.may.some c.requires.may.most all
    (record { votes = votes; replica = c.args.own; instances = map state_of c.loop-at.instances.items }) refl refl
    (subst (λ n. AreNew group votes c.args.own c.args.cap n (map state_of c.loop-at.instances.items)) ended
    c.loop-at.invariant.0) (omega (arith, long, c.requires.may.one)) (omega (arith, long, c.requires.may.instances))
