use Rattle.std.proofs.Common.{ap, subst, sym, ◌∙◌}
use Rattle.la_proposer.specs.ProposerState.{op_on}
use Rattle.la_runner.specs.Fields.{stands_for}
use Rattle.la_runner.specs.Instances.{state_of}
use Rattle.la_runner.specs.Members.{MemberState, GroupState, IsUpdateOf}
use Rattle.la_runner.proofs.Keeping.{first_at, is_in, state_at, with_state, with_state_is, member_after_first, goes_on_after, only_after, update_of, if_ok, if_err, if_on_ok, refused_update}
use Rattle.la_runner.proofs.Proposing.{acceptors_first, of_after}
use Rattle.la_runner.proofs.group.Group.update.Goals as goal

pub update-requires-after_bounds : goal.update-requires-after_bounds
update-requires-after_bounds g c κs within =
    let at = first_at c.member.inside c.index_mut-at.result.now c.member.invariant c.index_mut-at.ensures.value in
    let of = is_in c.member.inside 0 c.index_mut-at.result.now c.index_mut-at.result.now at c.member.invariant in
    record {
      is = of.0;
      acceptors =
          acceptors_first c.member.inside c.args.member.now c.args.self.now c.self.inside.rows.items
          c.index_mut-at.result.now c.index.result.now c.member.view_is c.member.invariant c.requires
          (ap (λ (g : GroupState). g.acceptors) c.self.view_is) at c.index.ensures ∙ sym c.deref.ensures.value;
      own = sym of.2;
    }

pub invariant_of-member : goal.invariant_of-member
invariant_of-member g c =
    member_after_first c.member.inside c.index_mut-at.result.now c.update.new.self
    (first_at c.member.inside c.index_mut-at.result.now c.member.invariant c.index_mut-at.ensures.value)
    c.update.ensures.steps c.member.invariant

pub invariant_of-member-in-Err : goal.invariant_of-member-in-Err
invariant_of-member-in-Err g c =
    member_after_first c.member.inside c.index_mut-at.result.now c.update.new.self
    (first_at c.member.inside c.index_mut-at.result.now c.member.invariant c.index_mut-at.ensures.value)
    c.update.ensures.steps c.member.invariant

pub returns-in-Err-clause-goes_on : goal.returns-in-Err-clause-goes_on
returns-in-Err-clause-goes_on g c =
    let at = first_at c.member.inside c.index_mut-at.result.now c.member.invariant c.index_mut-at.ensures.value in
    let goes =
    goes_on_after c.member.inside 0 c.index_mut-at.result.now c.update.new.self at c.update.ensures.steps
    c.args.member.now c.member.view_is in
    record {
      of =
          of_after c.args.self.now c.args.member.now (with_state c.member.inside 0 c.update.new.self) c.requires goes;
      goes = goes;
      only =
          only_after c.member.inside 0 c.index_mut-at.result.now c.update.new.self at c.args.member.now
          c.member.view_is;
    }

pub returns-in-Ok-clause-goes_on : goal.returns-in-Ok-clause-goes_on
returns-in-Ok-clause-goes_on g c =
    let at = first_at c.member.inside c.index_mut-at.result.now c.member.invariant c.index_mut-at.ensures.value in
    let goes =
    goes_on_after c.member.inside 0 c.index_mut-at.result.now c.update.new.self at c.update.ensures.steps
    c.args.member.now c.member.view_is in
    record {
      of =
          of_after c.args.self.now c.args.member.now (with_state c.member.inside 0 c.update.new.self) c.requires goes;
      goes = goes;
      only =
          only_after c.member.inside 0 c.index_mut-at.result.now c.update.new.self at c.args.member.now
          c.member.view_is;
    }

pub returns-in-Ok-clause-updated : goal.returns-in-Ok-clause-updated
returns-in-Ok-clause-updated g c =
    let d = op_on c.args.object c.args.op in
    let at = first_at c.member.inside c.index_mut-at.result.now c.member.invariant c.index_mut-at.ensures.value in
    let of = is_in c.member.inside 0 c.index_mut-at.result.now c.update.new.self at c.member.invariant in
    let state = state_at c.member.inside 0 c.index_mut-at.result.now c.update.new.self at in
    subst (λ (z : MemberState × MemberState). IsUpdateOf d z.0 z.1 c.in-Ok.learned.updates)
    (λ k. (
      c.member.view_is k,
      sym (with_state_is c.member.inside 0 c.index_mut-at.result.now c.update.new.self at) k,
    ))
    (update_of (stands_for c.member.inside) (state_of c.index_mut-at.result.now) (state_of c.update.new.self) state of.1
    of.2 c.args.rounds d _ (if_on_ok _ _ _ c.in-Ok.is c.update.ensures.submitted)
    (if_ok _ _ _ c.in-Ok.is c.update.ensures.learns))

pub returns-in-Err-clause-error : goal.returns-in-Err-clause-error
returns-in-Err-clause-error g c =
    refused_update c.member.inside c.index_mut-at.result.now c.update.new.self
    (first_at c.member.inside c.index_mut-at.result.now c.member.invariant c.index_mut-at.ensures.value) c.args.rounds
    (op_on c.args.object c.args.op) c.args.member.now c.member.view_is c.in-Err.refused
    (if_err _ _ _ c.in-Err.is c.update.ensures.error)
