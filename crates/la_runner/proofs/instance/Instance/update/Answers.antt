use Rattle.std.proofs.Common.{sym, ◌∙◌}
use Rattle.la_acceptor.proofs.lemmas.Theorems.{on_ok_anyway}
use Rattle.la_proposer.specs.ProposerState.{op_on}
use Rattle.la_runner.specs.Instances.{state_of}
use Rattle.la_runner.proofs.Stepping.{steps_trans, submitted_asks, submitted_is_instance, submitted_steps, submitted_adds, learns_update, refused_of}
use Rattle.la_runner.proofs.instance.Instance.update.Goals as goal

pub learn-requires-after_bounds : goal.learn-requires-after_bounds
learn-requires-after_bounds g c κs within =
    let x = state_of c.args.self.now in
    let d = op_on c.args.object c.args.op in
    let after = c.in_ok-submit.ensures.ok in
    let state = c.status-state.ensures.state in
    record {
      is = submitted_is_instance x c.submit.new.self d c.requires.is after state;
      acceptors = c.requires.acceptors;
      own = c.requires.own ∙ sym (submitted_steps x c.submit.new.self d c.requires.is after state).follows.own;
      asks = submitted_asks x c.submit.new.self d c.requires.is after state;
    }

pub returns : goal.returns
returns g c =
    let x = state_of c.args.self.now in
    let d = op_on c.args.object c.args.op in
    let after = c.in_ok-submit.ensures.ok in
    let state = c.status-state.ensures.state in
    let runs = c.learn.ensures.runs in
    record {
      steps =
          steps_trans x _ (state_of c.learn.new.self) (submitted_steps x c.submit.new.self d c.requires.is after state)
          runs.steps;
      submitted =
          on_ok_anyway c.learn.result
          (runs.nothing ∙ submitted_adds x c.submit.new.self d c.requires.is after state);
      learns =
          learns_update x c.submit.new.self d c.requires.is after state (state_of c.learn.new.self) c.args.rounds
          c.learn.result runs.steps runs.nothing c.learn.ensures.learns;
      error =
          refused_of x c.submit.new.self d c.requires.is after state (state_of c.learn.new.self) c.args.rounds
          c.learn.result runs.steps runs.nothing runs.error;
    }
