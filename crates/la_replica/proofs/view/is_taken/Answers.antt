use Rattle.std.proofs.Common.{◌≡◌, IfSome, sym, subst}
use Rattle.std.specs.Option.{option_copied}
use Rattle.la_set.specs.Counts.{within}
use Rattle.la_replica.proofs.view.is_taken.Goals as goal

pub is_larger_beyond-requires : goal.is_larger_beyond-requires
is_larger_beyond-requires c =
    sym
    (subst (λ o. IfSome (option_copied o) (λ s. within c.args.view.now c.args.known ≡ within s c.args.known))
    c.in-Some.is c.requires)
