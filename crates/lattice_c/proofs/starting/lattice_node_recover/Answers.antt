use Rattle.std.proofs.Common.{◌≡◌, ◌∙◌, Some, inl, inr, ap, refl, subst, rules}
use Rattle.la_embed.specs.Hosts.{host_over}
use Rattle.la_embed.specs.declared.embedded.Embedded.{Embedded}
use Rattle.la_node.specs.declared.config.Config.{Config}
use Rattle.la_embed.specs.Journals.{IsRecovered, IsNotRecovered}
use Rattle.lattice_c.proofs.starting.lattice_node_recover.Goals as goal

pub returns-in-Err : goal.returns-in-Err
returns-in-Err c =
    let config : Config = record {
      replicas = c.args.replicas;
      commits = c.args.commits;
      cap = c.args.cap;
      votes = c.in-Some.votes;
    } in
    let bytes : c.in-Ok.bytes.items ≡ c.args.found.now = search rules in
    inl (
      config,
      record { of_replicas = refl; of_commits = refl; of_cap = refl; of_votes = c.in-Some.ensures },
      inr (
        c.in-Err.refused,
        subst (λ found. IsNotRecovered config c.args.own found c.in-Err.refused) bytes c.in-Err.ensures.error,
        c.status_of_unrecovered.ensures,
        c.line_of_unrecovered.ensures,
        refl,
      ),
    )

pub returns-in-Ok-new : goal.returns-in-Ok-new
returns-in-Ok-new c =
    let config : Config = record {
      replicas = c.args.replicas;
      commits = c.args.commits;
      cap = c.args.cap;
      votes = c.in-Some.votes;
    } in
    let bytes : c.in-Ok.bytes.items ≡ c.args.found.now = search rules in
    let made = c.in-Ok-recover.ensures.ok in
    let node = c.in-Ok-new.node.value in
    let same : node ≡ c.in-Ok-recover.made.0 = search rules in
    let holds : (e : Embedded) × (c.of.result.held ≡ Some e)
    × (e.host ≡ host_over (Some made.0) c.in-Ok-recover.made.0.host.kept) =
    (node, search rules, ap (λ (e : Embedded). e.host) same ∙ made.2) in
    inl (
      config,
      record { of_replicas = refl; of_commits = refl; of_cap = refl; of_votes = c.in-Some.ensures },
      inl (
        refl,
        (
          c.in-Ok-recover.made.0.host.kept,
          made.0,
          subst (λ found. IsRecovered config c.args.own found c.in-Ok-recover.made.1
              c.in-Ok-recover.made.0.host.kept made.0) bytes made.1,
          holds,
        ),
      ),
    )
