use Rattle.std.proofs.Common.{Some, ap, sym, subst}
use Rattle.la_proposer.specs.ProposerState.{op_on}
use Rattle.la_runner.specs.Members.{member_submitted}
use Rattle.la_runner.specs.Stops.{StopsUpdate}
use Rattle.la_runner.proofs.Answering.{update_answers, one_longer}
use Rattle.la_runner.proofs.Stopping.{update_error, update_stops}
use Rattle.la_runner.proofs.worker.submit.Goals as goal

pub stop_of-requires : goal.stop_of-requires
stop_of-requires g c =
    update_error c.args.rounds (op_on c.args.object c.args.op) c.args.member.now c.update.new.member c.in-Err.error
    c.in-Err.ensures.error

pub returns-in-Ok-clause-done : goal.returns-in-Ok-clause-done
returns-in-Ok-clause-done g c =
    let updated = c.in-Ok.ensures.updated in
    record {
      answers =
          update_answers c.args.member.now c.update.new.member c.args.object c.args.op c.in-Ok.learned updated;
      names = ap Some (sym updated.view);
      submitted =
          one_longer (member_submitted c.args.member.now 0) (member_submitted c.update.new.member 0)
          (op_on c.args.object c.args.op) updated.submitted;
    }

pub returns-in-Err-clause-error : goal.returns-in-Err-clause-error
returns-in-Err-clause-error g c =
    subst (StopsUpdate c.update.new.member) (sym c.stop_of.ensures)
    (update_stops c.args.rounds (op_on c.args.object c.args.op) c.args.member.now c.update.new.member c.in-Err.error
    c.in-Err.ensures.error)
