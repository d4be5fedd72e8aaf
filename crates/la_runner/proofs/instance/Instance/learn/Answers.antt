use Rattle.std.proofs.Common.{rules, ◌≡◌, ◌≢◌, ◌<◌, inr, [], true, None, refl, sym, subst, ◌∙◌, arith}
use Rattle.std.specs.Prelude.{Ok}
use Rattle.la_runner.specs.Rounds.{IsOpenAnswer}
use Rattle.la_runner.specs.Instances.{state_of}
use Rattle.la_runner.specs.Refusals.{IsInstanceRefusal}
use Rattle.la_runner.proofs.Remembering.{hears_then, misses_then}
use Rattle.la_runner.proofs.Rounding.{rounds_learnt, open_still, number_grows}
use Rattle.la_runner.proofs.Viewing.{if_some, larger_then, larger_later, view_rounds, answer_last}
use Rattle.la_runner.proofs.Stepping.{steps_trans, goes_of_steps, complete, enough_of, cut_off, unended}
use Rattle.la_runner.proofs.instance.Instance.learn.Goals as goal
use Rattle.la_runner.proofs.instance.Instance.learn.Goals.{in-Some+else-count_of-mine, in_default}

pub round_and_view-requires-after_bounds : goal.round_and_view-requires-after_bounds
round_and_view-requires-after_bounds g c κs within = record {
  is = c.loop-round.invariant.0.is;
  acceptors = c.loop-round.invariant.0.follows.passes.acceptors ∙ c.requires.acceptors;
}

pub returns-in_err-learned-clause-runs : goal.returns-in_err-learned-clause-runs
returns-in_err-learned-clause-runs g c =
    let steps =
    steps_trans (state_of c.args.self.now) (state_of c.loop-round.self) (state_of c.round_and_view.new.self)
    c.loop-round.invariant.0 c.round_and_view.ensures.steps in
    let refusal : IsInstanceRefusal c.args.rounds (state_of c.args.self.now) (state_of c.round_and_view.new.self)
    c.in_err-learned.field-0.0 =
    cut_off (state_of c.args.self.now) (state_of c.round_and_view.new.self) c.args.rounds c.in_err-learned.field-0.0
    (omega (arith, c.loop-round-test.true)) c.in_err-learned.ensures.asks.error steps
    (misses_then c.args.self.now.proposer c.loop-round.self.proposer c.round_and_view.new.self.proposer
    c.args.self.now.passes.items c.loop-round.self.passes.items c.round_and_view.new.self.passes.items
    c.loop-round.invariant.2 c.in_err-learned.ensures.asks.missed)
    (c.in_err-learned.ensures.ends.open_after c.loop-round.invariant.4) in
    record {
      steps = steps;
      nothing = c.round_and_view.ensures.asks.goes.nothing ∙ c.loop-round.invariant.1;
      error = search rules;
    }

pub returns-then-count_of-mine-clause-runs : goal.returns-then-count_of-mine-clause-runs
returns-then-count_of-mine-clause-runs g c = record {
  steps =
      steps_trans (state_of c.args.self.now) (state_of c.loop-round.self) (state_of c.round_and_view.new.self)
      c.loop-round.invariant.0 c.round_and_view.ensures.steps;
  nothing = c.round_and_view.ensures.asks.goes.nothing ∙ c.loop-round.invariant.1;
  error = tt;
}

pub returns-then-count_of-mine-clause-learns : goal.returns-then-count_of-mine-clause-learns
returns-then-count_of-mine-clause-learns g c =
    let nothing = c.round_and_view.ensures.asks.goes.nothing in
    let in_round = if_some _ _ _ c.in-Some.is c.in_ok-learned.ensures.ends.learnt in
    let learnt =
    rounds_learnt _ _ _ _ _ _ _ _
    (goes_of_steps (state_of c.args.self.now) (state_of c.loop-round.self) c.loop-round.invariant.0
    c.loop-round.invariant.1)
    (goes_of_steps (state_of c.loop-round.self) (state_of c.round_and_view.new.self) c.round_and_view.ensures.steps
    nothing) in_round in
    record {
      learnt = learnt;
      now = record {
        complete =
            complete (state_of c.args.self.now) (state_of c.round_and_view.new.self) _ _ c.requires.is
            (nothing ∙ c.loop-round.invariant.1) learnt
            (enough_of c.args.self.now.proposer c.in-Some.learned.updates c.args.own c.submitted-mine.result
            c.requires.own c.submitted-mine.ensures (search rules));
        larger =
            larger_later c.args.self.now.view c.loop-round.self.view c.round_and_view.new.self.view
            c.in-Some.learned.updates c.loop-round.self.proposer.updates c.loop-round.invariant.3 in_round.grown
            c.loop-round.invariant.0.grows
            (larger_then _ _ _ _ c.in-Some.is c.in_ok-learned.ensures.ends.after);
        last = answer_last _ _ _ _ c.in-Some.is c.in_ok-learned.ensures.ends.last;
      };
      left = omega (arith, c.loop-round-test.true);
    }

pub returns-then-is_unended-clause-runs : goal.returns-then-is_unended-clause-runs
returns-then-is_unended-clause-runs g c = record {
  steps = c.loop-round.invariant.0;
  nothing = c.loop-round.invariant.1;
  error =
      unended (state_of c.args.self.now) (state_of c.loop-round.self) c.args.rounds _ c.loop-round.invariant.0
      c.loop-round.invariant.2 refl c.loop-round.invariant.4 (search rules);
}

pub returns-else-is_unended-clause-runs : goal.returns-else-is_unended-clause-runs
returns-else-is_unended-clause-runs g c = record {
  steps = c.loop-round.invariant.0;
  nothing = c.loop-round.invariant.1;
  error =
      unended (state_of c.args.self.now) (state_of c.loop-round.self) c.args.rounds _ c.loop-round.invariant.0
      c.loop-round.invariant.2 refl c.loop-round.invariant.4 (search rules);
}

pub loop-round-preserved : goal.loop-round-preserved
loop-round-preserved g c =
    let asks : c.round_and_view.new.self.proposer.is_asking ≡ true = elim c.match-branch-2.branch [
      | in-Some+else-count_of-mine w ↦
          let few : w.count_of.result < c.submitted-mine.result = search rules in
          open_still c.args.self.now.proposer c.round_and_view.new.self.proposer c.in_ok-learned.field-0
          w.in-Some.learned c.args.own c.submitted-mine.result w.count_of.result w.in-Some.is
          (c.in_ok-learned.ensures.ends.open_after c.loop-round.invariant.4)
          (c.requires.own ∙ sym (c.round_and_view.ensures.steps.follows.own ∙ c.loop-round.invariant.0.follows.own))
          c.submitted-mine.ensures (c.round_and_view.ensures.asks.goes.nothing ∙ c.loop-round.invariant.1)
          w.count_of.ensures.count few
      | in_default w ↦
          let none : c.in_ok-learned.field-0 ≡ None = search rules in
          subst (λ o. IsOpenAnswer (Ok o) c.round_and_view.new.self.proposer) none
          (c.in_ok-learned.ensures.ends.open_after c.loop-round.invariant.4)
    ] in (
      steps_trans (state_of c.args.self.now) (state_of c.loop-round.self) (state_of c.round_and_view.new.self)
          c.loop-round.invariant.0 c.round_and_view.ensures.steps,
      c.round_and_view.ensures.asks.goes.nothing ∙ c.loop-round.invariant.1,
      hears_then c.args.self.now.proposer c.loop-round.self.proposer c.round_and_view.new.self.proposer
          c.args.self.now.passes.items c.loop-round.self.passes.items c.round_and_view.new.self.passes.items []
          c.loop-round.invariant.2 c.in_ok-learned.ensures.asks.heard,
      view_rounds c.args.self.now.view c.loop-round.self.view c.round_and_view.new.self.view c.loop-round.self.proposer
          c.round_and_view.new.self.proposer c.round_and_view.ensures.steps.follows.grows c.loop-round.invariant.3
          c.round_and_view.ensures.ends.step,
      asks,
      λ _. omega (arith, c.loop-round-test.true),
      λ ended.
          let other : c.status.result ≢ c.status-asked.result = search rules in
          inr
          (number_grows c.args.self.now.proposer.number c.loop-round.self.proposer c.round_and_view.new.self.proposer
          c.status-asked.result c.status.result c.loop-round.invariant.4 asks c.status-asked.ensures.status
          c.status.ensures.status other c.loop-round.invariant.0.follows.number
          c.round_and_view.ensures.steps.follows.number),
    )
