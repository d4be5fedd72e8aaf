use Rattle.std.proofs.Common.{rules, ◌<◌, ◌≤◌, ap, subst, ◌∙◌}
use Rattle.la_node.specs.Nodes.{replicas_of}
use Rattle.la_world.specs.Calls.{submitted_at}
use Rattle.la_world.proofs.Worlds.{no_submitter, submitter_full, admit_submission}
use Rattle.la_world.proofs.world.World.admit_submission.Goals as goal

pub returns-in-None-clause-error : goal.returns-in-None-clause-error
returns-in-None-clause-error g c events stands =
    no_submitter c.args.self.now events stands c.args.replica
    (c.in-None.ensures ∙ ap (λ ns. submitted_at (replicas_of ns) 0 c.args.replica) c.deref.ensures.value
    ∙ ap (λ w. submitted_at w.replica_states 0 c.args.replica) c.self.view_is)

pub returns-in-Some-clause-error : goal.returns-in-Some-clause-error
returns-in-Some-clause-error g c events stands =
    submitter_full c.args.self.now events stands c.args.replica c.in-Some.count
    (c.in-Some.ensures ∙ ap (λ ns. submitted_at (replicas_of ns) 0 c.args.replica) c.deref.ensures.value
    ∙ ap (λ w. submitted_at w.replica_states 0 c.args.replica) c.self.view_is)
    (subst (λ w. w.config.cap ≤ c.in-Some.count) c.self.view_is c.if-count-self.true)

pub returns-in-Some-2-clause-allowed : goal.returns-in-Some-2-clause-allowed
returns-in-Some-2-clause-allowed g c events stands =
    admit_submission c.args.self.now events stands c.args.replica c.in-Some-2.field-0
    (c.in-Some-2.ensures ∙ ap (λ ns. submitted_at (replicas_of ns) 0 c.args.replica) c.deref.ensures.value
    ∙ ap (λ w. submitted_at w.replica_states 0 c.args.replica) c.self.view_is)
    (subst (λ w. c.in-Some-2.field-0 < w.config.cap) c.self.view_is (search rules))
