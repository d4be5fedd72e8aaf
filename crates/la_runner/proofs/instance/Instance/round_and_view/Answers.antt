use Rattle.std.proofs.Common.{rules, sym, subst, inl}
use Rattle.la_set.specs.Histories.{Histories}
use Rattle.la_set.specs.Inclusion.{AreComparable}
use Rattle.la_runner.specs.Instances.{state_of}
use Rattle.la_runner.proofs.Viewing.{none_open, some_open, view_comparable, if_some, view_step, larger_from, last_then}
use Rattle.la_runner.proofs.Stepping.{steps_on, steps_learnt}
use Rattle.la_runner.proofs.instance.Instance.round_and_view.Goals as goal

pub round-requires-after_bounds : goal.round-requires-after_bounds
round-requires-after_bounds g c κs within = record { sound = c.requires.is.sound; acceptors = c.requires.acceptors }

pub returns-in_err-round-clause-steps : goal.returns-in_err-round-clause-steps
returns-in_err-round-clause-steps g c =
    steps_on (state_of c.args.self.now) (state_of c.round.new.self) c.requires.is c.round.ensures.asks.goes
    c.in_err-round.ensures.ends.open_after c.in_err-round.ensures.ends.last c.round.ensures.ends.view

pub returns-in_err-round-clause-asks : goal.returns-in_err-round-clause-asks
returns-in_err-round-clause-asks g c =
    let asks = c.in_err-round.ensures.asks in
    record { goes = c.round.ensures.asks.goes; heard = search rules; missed = search rules; error = search rules }

pub returns-in_err-round-clause-ends : goal.returns-in_err-round-clause-ends
returns-in_err-round-clause-ends g c = record {
  learnt = search rules;
  last = search rules;
  open_after = search rules;
  step = inl c.round.ensures.ends.view;
  after = search rules;
}

pub returns-in-None-clause-steps : goal.returns-in-None-clause-steps
returns-in-None-clause-steps g c =
    steps_on (state_of c.args.self.now) (state_of c.round.new.self) c.requires.is c.round.ensures.asks.goes
    (none_open _ _ _ c.in-None.is c.in_ok-round.ensures.ends.open_after) (search rules) c.round.ensures.ends.view

pub returns-in-None-clause-asks : goal.returns-in-None-clause-asks
returns-in-None-clause-asks g c = record {
  goes = c.round.ensures.asks.goes;
  heard = c.in_ok-round.ensures.asks.heard;
  missed = tt;
  error = tt;
}

pub returns-in-None-clause-ends : goal.returns-in-None-clause-ends
returns-in-None-clause-ends g c = record {
  learnt = tt;
  last = search rules;
  open_after = none_open _ _ _ c.in-None.is c.in_ok-round.ensures.ends.open_after;
  step = inl c.round.ensures.ends.view;
  after = c.round.ensures.ends.view;
}

pub take_larger-requires : goal.take_larger-requires
take_larger-requires g c =
    let learnt = if_some _ _ _ c.in-Some.is c.in_ok-round.ensures.ends.learnt in
    let again = if_some _ _ _ c.in-Some.is c.in_ok-round.ensures.ends.again in
    subst (λ (z : Histories × Histories). AreComparable z.0 z.1)
    (λ i. (sym c.round.ensures.ends.view i, sym again i))
    (view_comparable _ _ _ _ _ _ _ c.round.ensures.asks.goes learnt c.requires.is.view)

pub returns-in-Some-clause-steps : goal.returns-in-Some-clause-steps
returns-in-Some-clause-steps g c =
    let learnt = if_some _ _ _ c.in-Some.is c.in_ok-round.ensures.ends.learnt in
    let again = if_some _ _ _ c.in-Some.is c.in_ok-round.ensures.ends.again in
    steps_learnt (state_of c.args.self.now) _ _ _ c.requires.is c.round.ensures.asks.goes learnt
    (last_then _ _ _ _ c.in-Some.is c.in_ok-round.ensures.ends.last)
    (larger_from _ _ _ _ _ c.round.ensures.ends.view again c.take_larger.ensures.larger c.take_larger.ensures.grows
    c.take_larger.ensures.has)

pub returns-in-Some-clause-asks : goal.returns-in-Some-clause-asks
returns-in-Some-clause-asks g c = record {
  goes = c.round.ensures.asks.goes;
  heard = c.in_ok-round.ensures.asks.heard;
  missed = tt;
  error = tt;
}

pub returns-in-Some-clause-ends : goal.returns-in-Some-clause-ends
returns-in-Some-clause-ends g c =
    let learnt = if_some _ _ _ c.in-Some.is c.in_ok-round.ensures.ends.learnt in
    let again = if_some _ _ _ c.in-Some.is c.in_ok-round.ensures.ends.again in
    let larger =
    larger_from _ _ _ _ _ c.round.ensures.ends.view again c.take_larger.ensures.larger c.take_larger.ensures.grows
    c.take_larger.ensures.has in
    record {
      learnt = learnt;
      last = last_then _ _ _ _ c.in-Some.is c.in_ok-round.ensures.ends.last;
      open_after = some_open _ _ _ _ c.in-Some.is c.in_ok-round.ensures.ends.open_after;
      step =
          view_step _ _ _ _ _ c.args.self.now.view _ c.round.ensures.asks.goes learnt c.take_larger.new.self larger.one;
      after = larger;
    }
