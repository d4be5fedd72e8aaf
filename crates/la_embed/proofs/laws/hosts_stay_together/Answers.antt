use Rattle.la_embed.proofs.Together.{new_ones, steps, lines, own_mail, repeats, others}
use Rattle.la_embed.proofs.Restarting.{restarts}
use Rattle.la_embed.proofs.laws.hosts_stay_together.Goals as goal

pub returns-clause-new : goal.returns-clause-new
returns-clause-new c = new_ones c.new_replicas_are_together.ensures

pub returns-clause-calls : goal.returns-clause-calls
returns-clause-calls c = steps c.replicas_stay_together.ensures.calls

pub returns-clause-lines : goal.returns-clause-lines
returns-clause-lines c =
    lines c.replicas_stay_together.ensures.calls c.replicas_stay_together.ensures.again
    c.letters_are_read_back_or_not.ensures

pub returns-clause-own : goal.returns-clause-own
returns-clause-own c =
    own_mail c.replicas_stay_together.ensures.calls c.replicas_stay_together.ensures.again
    c.letters_are_read_back_or_not.ensures

pub returns-clause-again : goal.returns-clause-again
returns-clause-again c = repeats c.replicas_stay_together.ensures.again

pub returns-clause-other : goal.returns-clause-other
returns-clause-other c = others

pub returns-clause-restarts : goal.returns-clause-restarts
returns-clause-restarts c = restarts c.replicas_stay_together.ensures.calls
