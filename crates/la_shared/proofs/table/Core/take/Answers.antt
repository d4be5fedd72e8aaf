use Rattle.std.proofs.Common.{rules, ap, sym, ◌∙◌, ◌∷◌, Some}
use Rattle.atomic_table.specs.Table.{rest}
use Rattle.la_shared.proofs.table.Core.take.Goals as goal

pub exchange-requires : goal.exchange-requires
exchange-requires g c = let now = c.wait_turn.ensures.1 in let has = ap (λ m. m.1) now.1 in
    (search rules, (Some now.0, has ∙ ap (λ t. (0, Some now.0) ∷ t) (sym (ap rest has))))
