use Rattle.std.proofs.Common.{ap, sym, ◌∙◌, rules}
use Rattle.std.specs.Prelude.{IfErr}
use Rattle.la_runner.specs.Instances.{state_of}
use Rattle.la_runner.specs.Members.{GroupState}
use Rattle.la_runner.specs.Refusals.{IsInstanceRefusal, IsRefusedResume}
use Rattle.la_runner.proofs.Keeping.{first_at, is_in, with_state, member_after_first, goes_on_after, only_after, asking_first, resumed_of, resumed_view, refused_resume}
use Rattle.la_runner.proofs.Proposing.{acceptors_first, if_err_on, of_after}
use Rattle.la_runner.proofs.group.Group.resume.Goals as goal

pub resume-requires-after_bounds : goal.resume-requires-after_bounds
resume-requires-after_bounds g c κs within =
    let at = first_at c.member.inside c.index_mut-at.result.now c.member.invariant c.index_mut-at.ensures.value in
    let of = is_in c.member.inside 0 c.index_mut-at.result.now c.index_mut-at.result.now at c.member.invariant in
    record {
      is = of.0;
      acceptors =
          acceptors_first c.member.inside c.args.member.now c.args.self.now c.self.inside.rows.items
          c.index_mut-at.result.now c.index.result.now c.member.view_is c.member.invariant c.requires
          (ap (λ (g : GroupState). g.acceptors) c.self.view_is) at c.index.ensures ∙ sym c.deref.ensures.value;
      own = sym of.2;
    }

pub invariant_of-member : goal.invariant_of-member
invariant_of-member g c =
    member_after_first c.member.inside c.index_mut-at.result.now c.resume.new.self
    (first_at c.member.inside c.index_mut-at.result.now c.member.invariant c.index_mut-at.ensures.value)
    c.resume.ensures.runs.steps c.member.invariant

pub invariant_of-member-2 : goal.invariant_of-member-2
invariant_of-member-2 g c =
    member_after_first c.member.inside c.index_mut-at.result.now c.resume.new.self
    (first_at c.member.inside c.index_mut-at.result.now c.member.invariant c.index_mut-at.ensures.value)
    c.resume.ensures.runs.steps c.member.invariant

pub returns-in_err-end-clause-goes_on : goal.returns-in_err-end-clause-goes_on
returns-in_err-end-clause-goes_on g c =
    let at = first_at c.member.inside c.index_mut-at.result.now c.member.invariant c.index_mut-at.ensures.value in
    let goes =
    goes_on_after c.member.inside 0 c.index_mut-at.result.now c.resume.new.self at c.resume.ensures.runs.steps
    c.args.member.now c.member.view_is in
    record {
      of =
          of_after c.args.self.now c.args.member.now (with_state c.member.inside 0 c.resume.new.self) c.requires goes;
      goes = goes;
      only =
          only_after c.member.inside 0 c.index_mut-at.result.now c.resume.new.self at c.args.member.now
          c.member.view_is;
    }

pub returns-clause-goes_on : goal.returns-clause-goes_on
returns-clause-goes_on g c =
    let at = first_at c.member.inside c.index_mut-at.result.now c.member.invariant c.index_mut-at.ensures.value in
    let goes =
    goes_on_after c.member.inside 0 c.index_mut-at.result.now c.resume.new.self at c.resume.ensures.runs.steps
    c.args.member.now c.member.view_is in
    record {
      of =
          of_after c.args.self.now c.args.member.now (with_state c.member.inside 0 c.resume.new.self) c.requires goes;
      goes = goes;
      only =
          only_after c.member.inside 0 c.index_mut-at.result.now c.resume.new.self at c.args.member.now
          c.member.view_is;
    }

pub returns-in_err-end-clause-resumed : goal.returns-in_err-end-clause-resumed
returns-in_err-end-clause-resumed g c =
    let at = first_at c.member.inside c.index_mut-at.result.now c.member.invariant c.index_mut-at.ensures.value in
    let asking = asking_first c.member.inside c.index_mut-at.result.now c.resume.new.self at c.args.member.now c.member.view_is in
    record {
      idle =
          λ none.
          let nothing = (c.resume.ensures.resumes.idle (sym asking ∙ none)).0 in
          let refused = c.in_err-end.was in
          absurd (cc (nothing, refused));
      asking = λ some. search rules;
      learnt = search rules;
      view = search rules;
    }

pub returns-clause-resumed : goal.returns-clause-resumed
returns-clause-resumed g c =
    let at = first_at c.member.inside c.index_mut-at.result.now c.member.invariant c.index_mut-at.ensures.value in
    let asking = asking_first c.member.inside c.index_mut-at.result.now c.resume.new.self at c.args.member.now c.member.view_is in
    record {
      idle = λ none. (c.in_ok-end.ensures.resumes.idle (sym asking ∙ none)).0;
      asking = λ some. c.in_ok-end.ensures.resumes.asking (sym asking ∙ some);
      learnt =
          resumed_of c.member.inside c.index_mut-at.result.now c.resume.new.self at c.args.member.now c.member.view_is
          c.member.invariant c.in_ok-end.end c.in_ok-end.ensures.resumes.now;
      view =
          resumed_view c.member.inside c.index_mut-at.result.now c.resume.new.self at c.args.member.now
          c.member.view_is c.in_ok-end.end c.in_ok-end.ensures.resumes.now;
    }

pub returns-in_err-end-clause-error : goal.returns-in_err-end-clause-error
returns-in_err-end-clause-error g c =
    let at = first_at c.member.inside c.index_mut-at.result.now c.member.invariant c.index_mut-at.ensures.value in
    let h : IfErr c.resume.result
    (IsRefusedResume c.args.rounds c.args.member.now (with_state c.member.inside 0 c.resume.new.self)) =
    if_err_on c.resume.result
    (IsInstanceRefusal c.args.rounds (state_of c.index_mut-at.result.now) (state_of c.resume.new.self))
    (IsRefusedResume c.args.rounds c.args.member.now (with_state c.member.inside 0 c.resume.new.self))
    (refused_resume c.member.inside c.index_mut-at.result.now c.resume.new.self at c.args.rounds c.args.member.now
    c.member.view_is) c.resume.ensures.runs.error in
    search rules
