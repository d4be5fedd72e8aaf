use Rattle.std.proofs.Common.{sym, subst}
use Rattle.la_set.specs.Inclusion.{IsSubset}
use Rattle.la_set.proofs.lemmas.Inclusions.{empty_least}
use Rattle.la_object.specs.Shelves.{ShelfState}
use Rattle.la_embed.specs.Keepers.{state_kept}
use Rattle.la_embed.proofs.host.Host.over.Goals as goal

pub invariant_of-result : goal.invariant_of-result
invariant_of-result g c = record {
  absorbed =
      subst (λ (s : ShelfState). IsSubset s.view (state_kept c.args.keeper).view) (sym c.new.ensures)
      (empty_least (state_kept c.args.keeper).view);
  journaled = c.requires;
}
