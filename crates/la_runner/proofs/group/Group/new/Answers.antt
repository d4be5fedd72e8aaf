use Rattle.std.proofs.Common.{◌≡◌, ◌∙◌, refl, List, length}
use Rattle.std.proofs.lemmas.List.Elements.{All-map}
use Rattle.la_shared.specs.Passes.{AcceptorName}
use Rattle.la_runner.specs.declared.group.Row.{Row}
use Rattle.la_runner.proofs.Fresh.{names_long}
use Rattle.la_runner.proofs.group.Group.new.Goals as goal

pub returns-clause-group : goal.returns-clause-group
returns-clause-group c = record {
  votes = refl;
  instances = names_long (λ (r : Row). r.acceptors.items) c.in_ok-rows.rows.items ∙ c.in_ok-rows.ensures.count;
  acceptors =
      All-map (λ (row : List AcceptorName). length row ≡ c.args.replicas) (λ (r : Row). r.acceptors.items)
      c.in_ok-rows.rows.items c.in_ok-rows.ensures.sizes;
}
