use Rattle.std.proofs.Common.{◌≡◌, sym, subst}
use Rattle.la_runner.specs.declared.jobs.Stopped.TheVariants.{Memory}
use Rattle.la_runner.specs.Stops.{StopsDecide}
use Rattle.la_runner.proofs.Proposing.{if_err_on}
use Rattle.la_runner.proofs.Stopping.{decide_error, decide_stops}
use Rattle.la_runner.proofs.worker.decide.Goals as goal

pub stop_of-requires : goal.stop_of-requires
stop_of-requires g c =
    decide_error c.args.rounds c.args.commit c.args.value c.args.member.now c.decide.new.member c.in-Err.error
    c.in-Err.ensures.error

pub decided-requires : goal.decided-requires
decided-requires g c = (c.args.value, c.in-Ok.ensures.decided)

pub returns-in-Err-clause-error : goal.returns-in-Err-clause-error
returns-in-Err-clause-error g c =
    subst (StopsDecide c.decide.new.member c.args.commit c.args.value) (sym c.stop_of.ensures)
    (decide_stops c.args.rounds c.args.commit c.args.value c.args.member.now c.decide.new.member c.in-Err.error
    c.in-Err.ensures.error)

pub returns-in-Ok-clause-answers : goal.returns-in-Ok-clause-answers
returns-in-Ok-clause-answers g c = c.decided.ensures.ok c.args.value c.in-Ok.ensures.decided

pub returns-in-Ok-clause-error : goal.returns-in-Ok-clause-error
returns-in-Ok-clause-error g c =
    if_err_on c.decided.result (λ e. e ≡ Memory) (StopsDecide c.decide.new.member c.args.commit c.args.value)
    (λ e is. subst (StopsDecide c.decide.new.member c.args.commit c.args.value) (sym is) tt) c.decided.ensures.error
