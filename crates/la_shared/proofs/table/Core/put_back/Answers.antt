use Rattle.std.proofs.Common.{rules, ap, ◌∙◌, ◌∷◌, Some}
use Rattle.atomic_table.specs.Table.{rest}
use Rattle.la_shared.proofs.Keeps.{serves}
use Rattle.la_shared.proofs.table.Core.put_back.Goals as goal

pub fetch_add-requires : goal.fetch_add-requires
fetch_add-requires c = let now = c.exchange.ensures.3 in (
  search rules,
  search rules,
  serves _ _ _ c.requires.turn.0 c.args.acceptor (ap (λ m. m.0.stage) now ∙ c.requires.turn.1)
      (ap (λ m. m.1) now ∙ ap (λ t. (0, Some c.args.acceptor) ∷ rest t) c.requires.seat.1),
)
