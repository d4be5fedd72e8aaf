use Rattle.std.proofs.Common.{◌≡◌, ◌<◌, ◌++◌, drop, length, inl, inr, refl, rules}
use Rattle.la_node.specs.declared.config.Config.{Config}
use Rattle.lattice_c.proofs.Firsts.{all_handed_out, none_handed_out}
use Rattle.lattice_c.proofs.journal.lattice_first_journal.Goals as goal

pub returns-in-Err : goal.returns-in-Err
returns-in-Err c =
    let config : Config = record {
      replicas = c.args.replicas;
      commits = c.args.commits;
      cap = c.args.cap;
      votes = c.in-Some.votes;
    } in
    inl (
      config,
      record { of_replicas = refl; of_commits = refl; of_cap = refl; of_votes = c.in-Some.ensures },
      inr (c.in-Err.refused, c.in-Err.ensures.error, c.status_of_world.ensures, refl),
    )

pub returns-then-count-buffer : goal.returns-then-count-buffer
returns-then-count-buffer c =
    let config : Config = record {
      replicas = c.args.replicas;
      commits = c.args.commits;
      cap = c.args.cap;
      votes = c.in-Some.votes;
    } in
    let made = c.in-Ok.ensures in
    let long : c.len-count.result ≡ length c.in-Ok.file.items = search rules in
    let more : length c.args.buffer.now < c.len-count.result = search rules in
    inl (
      config,
      record { of_replicas = refl; of_commits = refl; of_cap = refl; of_votes = c.in-Some.ensures },
      inl (
        c.in-Ok.file.items,
        record { group = made.group; leads = made.leads; none = made.lines; whole = made.whole },
        none_handed_out c.in-Ok.file.items c.args.buffer.now c.len-count.result made.whole long more,
      ),
    )

pub returns : goal.returns
returns c =
    let config : Config = record {
      replicas = c.args.replicas;
      commits = c.args.commits;
      cap = c.args.cap;
      votes = c.in-Some.votes;
    } in
    let made = c.in-Ok.ensures in
    let long : c.len-count.result ≡ length c.in-Ok.file.items = search rules in
    let copied : c.copy_from_slice.new.self ≡ c.in-Ok.file.items = search rules in
    inl (
      config,
      record { of_replicas = refl; of_commits = refl; of_cap = refl; of_votes = c.in-Some.ensures },
      inl (
        c.in-Ok.file.items,
        record { group = made.group; leads = made.leads; none = made.lines; whole = made.whole },
        all_handed_out c.in-Ok.file.items c.args.buffer.now _ c.len-count.result made.whole long
            (λ i. copied i ++ drop c.len-count.result c.args.buffer.now),
      ),
    )
