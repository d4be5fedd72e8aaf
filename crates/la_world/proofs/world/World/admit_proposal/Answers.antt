use Rattle.std.proofs.Common.{rules, ◌≡◌, ◌<◌, Some, ap, ap₂, sym, subst, ◌∙◌}
use Rattle.la_commit.specs.Instances.{first_instance}
use Rattle.la_node.specs.Nodes.{replicas_of}
use Rattle.la_world.specs.Calls.{submitted_at}
use Rattle.la_world.proofs.Worlds.{submitter_known, first_proposal, second_proposal}
use Rattle.la_world.proofs.world.World.admit_proposal.Goals as goal

pub returns-then-ne-clause-error : goal.returns-then-ne-clause-error
returns-then-ne-clause-error g c events stands value =
    let k = c.args.commit in
    let r = c.args.replica in
    let at =
    c.submitted_among.ensures
    ∙ ap₂ (λ ns i. submitted_at (replicas_of ns) i r) c.deref.ensures.value c.first_instance.ensures
    ∙ ap (λ w. submitted_at w.replica_states (first_instance k) r) c.self.view_is in
    let other : c.submitted_among.result ≡ Some 0 → ⊥ = search rules in
    second_proposal c.args.self.now events stands r k
    (subst (λ w. r < w.config.replicas) c.self.view_is c.if-replica-self.false)
    (subst (λ w. k < w.config.commits) c.self.view_is c.if-commit-self.false) (λ e. other (at ∙ sym e)) value

pub returns-clause-known : goal.returns-clause-known
returns-clause-known g c =
    let at =
    c.submitted_among.ensures
    ∙ ap₂ (λ ns i. submitted_at (replicas_of ns) i c.args.replica) c.deref.ensures.value c.first_instance.ensures
    ∙ ap (λ w. submitted_at w.replica_states (first_instance c.args.commit) c.args.replica) c.self.view_is in
    let first : c.submitted_among.result ≡ Some 0 = search rules in
    submitter_known c.args.self.now.replica_states (first_instance c.args.commit) c.args.replica 0 (sym first ∙ at)

pub returns-clause-allowed : goal.returns-clause-allowed
returns-clause-allowed g c events stands value =
    let k = c.args.commit in
    let r = c.args.replica in
    let at =
    c.submitted_among.ensures
    ∙ ap₂ (λ ns i. submitted_at (replicas_of ns) i r) c.deref.ensures.value c.first_instance.ensures
    ∙ ap (λ w. submitted_at w.replica_states (first_instance k) r) c.self.view_is in
    let first : c.submitted_among.result ≡ Some 0 = search rules in
    first_proposal c.args.self.now events stands r k
    (subst (λ w. r < w.config.replicas) c.self.view_is c.if-replica-self.false)
    (subst (λ w. k < w.config.commits) c.self.view_is c.if-commit-self.false) (sym first ∙ at) value
