use Rattle.std.proofs.Common.{◌≡◌, ◌∙◌, ap, sym, subst, length}
use Rattle.std.proofs.lemmas.List.{length-replicate}
use Rattle.la_runner.specs.Runs.{IsRunConfig, IsRunRefusal}
use Rattle.la_cli.specs.Threads.{increments}
use Rattle.la_cli.proofs.Running.{all_are_of, can_run}
use Rattle.la_cli.proofs.threads.logs_of.Goals as goal

pub run-requires-after_bounds : goal.run-requires-after_bounds
run-requires-after_bounds g c κs within =
    all_are_of c.in_ok-group.group c.args.each 0 c.in_ok-group.members.items c.in_ok-group.ensures.members

pub unreachable-requires : goal.unreachable-requires
unreachable-requires g c =
    let each : length c.in_ok-jobs.jobs.items ≡ c.args.replicas =
    ap length c.in_ok-jobs.ensures ∙ length-replicate c.args.replicas (increments c.args.each) in
    let config =
    can_run c.args.replicas c.in_ok-group.group (length c.in_ok-group.members.items) (length c.in_ok-jobs.jobs.items)
    c.args.shelves.items c.in_ok-group.ensures.group c.requires.sizes.few_replicas c.in_ok-group.ensures.count each
    c.requires.shelves in
    subst
    (IsRunRefusal
    (IsRunConfig (length c.in_ok-group.group.votes) (length c.in_ok-group.members.items)
    (length c.in_ok-jobs.jobs.items) c.truncate.new.self.items)) c.in-Err-BadConfig.field-0-is
    c.in-Err-BadConfig.ensures.error
    (subst
    (λ (used : _).
    IsRunConfig (length c.in_ok-group.group.votes) (length c.in_ok-group.members.items)
    (length c.in_ok-jobs.jobs.items) used) (sym c.truncate.ensures.items) config)
