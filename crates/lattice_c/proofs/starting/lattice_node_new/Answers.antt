use Rattle.std.proofs.Common.{◌≡◌, Some, inl, inr, refl, rules}
use Rattle.la_node.specs.Nodes.{node_at_start}
use Rattle.la_durable.specs.Nodes.{empty_shelf}
use Rattle.la_embed.specs.Hosts.{host_of}
use Rattle.la_embed.specs.declared.embedded.Embedded.{Embedded}
use Rattle.lattice_c.proofs.starting.lattice_node_new.Goals as goal

pub returns-in-Err : goal.returns-in-Err
returns-in-Err c =
    inl (
      record { replicas = c.args.replicas; commits = c.args.commits; cap = c.args.cap; votes = c.in-Some.votes },
      record { of_replicas = refl; of_commits = refl; of_cap = refl; of_votes = c.in-Some.ensures },
      inr (c.in-Err.refused, (c.in-Err.ensures.error, refl), c.status_of_world.ensures),
    )

pub returns-in-Ok-new : goal.returns-in-Ok-new
returns-in-Ok-new c =
    let node = c.in-Ok-new.node.value in
    let holds : (e : Embedded) × (c.of.result.held ≡ Some e)
    × (e.host ≡ host_of (node_at_start (record {
      replicas = c.args.replicas;
      commits = c.args.commits;
      cap = c.args.cap;
      votes = c.in-Some.votes;
    }) c.args.own empty_shelf).replica) = (node, search rules, search rules) in
    inl (
      record { replicas = c.args.replicas; commits = c.args.commits; cap = c.args.cap; votes = c.in-Some.votes },
      record { of_replicas = refl; of_commits = refl; of_cap = refl; of_votes = c.in-Some.ensures },
      inl (refl, (c.in-Ok.ensures.group, holds)),
    )
