use Rattle.std.proofs.Common.{ap, sym, ◌∙◌, subst}
use Rattle.la_runner.specs.Fields.{stands_for}
use Rattle.la_runner.specs.Instances.{state_of}
use Rattle.la_runner.specs.Members.{MemberState, GroupState}
use Rattle.la_runner.specs.Participants.{HasVotedSet, MayVote}
use Rattle.la_runner.specs.Refusals.{IsRefusedVote}
use Rattle.la_runner.proofs.Keeping.{is_in, state_at, with_state, with_state_is, member_after, goes_on_after, only_after, if_ok, if_err}
use Rattle.la_runner.proofs.Proposing.{place_at, acceptors_at, of_after}
use Rattle.la_runner.proofs.Voting.{participants_after, may_cast, voted, refused}
use Rattle.la_runner.proofs.group.Group.vote.Goals as goal

pub vote-requires-after_bounds : goal.vote-requires-after_bounds
vote-requires-after_bounds g c κs within =
    let at =
    place_at c.member.inside c.args.member.now c.args.instance c.index_mut-at.result.now c.member.view_is
    c.requires.within c.index_mut-at.ensures.value in
    let of = is_in c.member.inside c.args.instance c.index_mut-at.result.now c.index_mut-at.result.now at
    c.member.invariant in
    record {
      is = of.0;
      acceptors =
          acceptors_at c.member.inside c.args.member.now c.args.self.now c.self.inside.rows.items c.args.instance
          c.index_mut-at.result.now c.index.result.now c.member.view_is c.requires.of
          (ap (λ (g : GroupState). g.acceptors) c.self.view_is) at c.index.ensures c.requires.within
          ∙ sym c.deref.ensures.value;
      own = sym of.2;
      may =
          may_cast (stands_for c.member.inside) c.args.commit c.args.vote c.args.instance
          (state_of c.index_mut-at.result.now) (state_of c.index_mut-at.result.now)
          (state_at c.member.inside c.args.instance c.index_mut-at.result.now c.index_mut-at.result.now at)
          (subst (MayVote c.args.commit c.args.vote c.args.instance) (sym c.member.view_is) c.requires.may);
    }

pub invariant_of-member : goal.invariant_of-member
invariant_of-member g c =
    member_after c.member.inside c.args.instance c.index_mut-at.result.now c.vote.new.self
    (place_at c.member.inside c.args.member.now c.args.instance c.index_mut-at.result.now c.member.view_is
    c.requires.within c.index_mut-at.ensures.value) c.vote.ensures.steps c.member.invariant
    (participants_after (stands_for c.member.inside) c.args.commit c.args.vote c.args.instance
    (state_of c.index_mut-at.result.now) (state_of c.vote.new.self)
    (state_at c.member.inside c.args.instance c.index_mut-at.result.now c.vote.new.self
    (place_at c.member.inside c.args.member.now c.args.instance c.index_mut-at.result.now c.member.view_is
    c.requires.within c.index_mut-at.ensures.value)) c.member.invariant.participant
    (subst (MayVote c.args.commit c.args.vote c.args.instance) (sym c.member.view_is) c.requires.may)
    c.vote.ensures.stays c.vote.ensures.once)

pub invariant_of-member-in-Err : goal.invariant_of-member-in-Err
invariant_of-member-in-Err g c =
    member_after c.member.inside c.args.instance c.index_mut-at.result.now c.vote.new.self
    (place_at c.member.inside c.args.member.now c.args.instance c.index_mut-at.result.now c.member.view_is
    c.requires.within c.index_mut-at.ensures.value) c.vote.ensures.steps c.member.invariant
    (participants_after (stands_for c.member.inside) c.args.commit c.args.vote c.args.instance
    (state_of c.index_mut-at.result.now) (state_of c.vote.new.self)
    (state_at c.member.inside c.args.instance c.index_mut-at.result.now c.vote.new.self
    (place_at c.member.inside c.args.member.now c.args.instance c.index_mut-at.result.now c.member.view_is
    c.requires.within c.index_mut-at.ensures.value)) c.member.invariant.participant
    (subst (MayVote c.args.commit c.args.vote c.args.instance) (sym c.member.view_is) c.requires.may)
    c.vote.ensures.stays c.vote.ensures.once)

pub returns-in-Ok : goal.returns-in-Ok
returns-in-Ok g c =
    let at =
    place_at c.member.inside c.args.member.now c.args.instance c.index_mut-at.result.now c.member.view_is
    c.requires.within c.index_mut-at.ensures.value in
    let of =
    is_in c.member.inside c.args.instance c.index_mut-at.result.now c.index_mut-at.result.now at
    c.member.invariant in
    let goes =
    goes_on_after c.member.inside c.args.instance c.index_mut-at.result.now c.vote.new.self at c.vote.ensures.steps
    c.args.member.now c.member.view_is in
    record {
      goes_on = record {
        of =
            of_after c.args.self.now c.args.member.now (with_state c.member.inside c.args.instance c.vote.new.self)
            c.requires.of goes;
        goes = goes;
        only =
            only_after c.member.inside c.args.instance c.index_mut-at.result.now c.vote.new.self at c.args.member.now
            c.member.view_is;
      };
      voted =
          subst (λ z. HasVotedSet z c.args.instance c.args.vote)
          (sym (with_state_is c.member.inside c.args.instance c.index_mut-at.result.now c.vote.new.self at))
          (voted (stands_for c.member.inside) c.args.commit c.args.vote c.args.instance
          (state_of c.index_mut-at.result.now) (state_of c.vote.new.self)
          (state_at c.member.inside c.args.instance c.index_mut-at.result.now c.vote.new.self at) of.1 of.2
          c.vote.ensures.steps (if_ok _ _ _ c.in-Ok.is c.vote.ensures.cast));
      left = if_ok _ _ _ c.in-Ok.is c.vote.ensures.left;
      error = tt;
      kind = tt;
    }

pub returns-in-Err : goal.returns-in-Err
returns-in-Err g c =
    let at =
    place_at c.member.inside c.args.member.now c.args.instance c.index_mut-at.result.now c.member.view_is
    c.requires.within c.index_mut-at.ensures.value in
    let goes =
    goes_on_after c.member.inside c.args.instance c.index_mut-at.result.now c.vote.new.self at c.vote.ensures.steps
    c.args.member.now c.member.view_is in
    record {
      goes_on = record {
        of =
            of_after c.args.self.now c.args.member.now (with_state c.member.inside c.args.instance c.vote.new.self)
            c.requires.of goes;
        goes = goes;
        only =
            only_after c.member.inside c.args.instance c.index_mut-at.result.now c.vote.new.self at c.args.member.now
            c.member.view_is;
      };
      voted = tt;
      left = tt;
      error =
          subst
          (λ (z : MemberState × MemberState).
          IsRefusedVote c.args.rounds c.args.commit c.args.vote c.args.instance z.0 z.1 c.in-Err.refused)
          (λ k. (
            c.member.view_is k,
            sym (with_state_is c.member.inside c.args.instance c.index_mut-at.result.now c.vote.new.self at) k,
          ))
          (refused (stands_for c.member.inside) c.args.commit c.args.vote c.args.instance
          (state_of c.index_mut-at.result.now) (state_of c.vote.new.self)
          (state_at c.member.inside c.args.instance c.index_mut-at.result.now c.vote.new.self at) c.args.rounds
          c.in-Err.refused (if_err _ _ _ c.in-Err.is c.vote.ensures.error));
      kind = if_err _ _ _ c.in-Err.is c.vote.ensures.kind;
    }
