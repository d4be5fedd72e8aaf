use Rattle.la_serve.proofs.Processes.{new_ones, turns, restarts}
use Rattle.la_serve.proofs.laws.processes_stay_together.Goals as goal

pub returns-clause-new : goal.returns-clause-new
returns-clause-new c = new_ones c.new_replicas_are_together.ensures

pub returns-clause-turns : goal.returns-clause-turns
returns-clause-turns c =
    turns c.numbers_are_read_apart.ensures.written c.replicas_stay_together.ensures.calls
    c.replicas_stay_together.ensures.fewer
    c.replicas_stay_together.ensures.again
    c.letters_are_read_back_or_not.ensures

pub returns-clause-restarts : goal.returns-clause-restarts
returns-clause-restarts c =
    restarts c.replicas_stay_together.ensures.lost c.letters_are_read_back_or_not.ensures c.restarts_take_calls.ensures
