use Rattle.std.proofs.Common.{[], ◌∷◌, ◌++◌, ◌+◌, length, map, refl, ap, sym, ◌∙◌}
use Rattle.std.proofs.lemmas.List.{length_push}
use Rattle.la_runner.specs.Starting.{newcomer}
use Rattle.la_runner.proofs.Fresh.{map_push}
use Rattle.la_runner.proofs.Newcomers.{newcomer_is}
use Rattle.la_runner.proofs.starting.row.Goals as goal

pub loop-number-preserved : goal.loop-number-preserved
loop-number-preserved c =
    let acceptors = c.loop-number.acceptors.items in let acceptor = c.in_ok-acceptor.acceptor in
    let new = newcomer_is acceptor [] c.in_ok-acceptor.pass refl c.in_ok-acceptor.ensures in (
      ap length c.in_ok-push.ensures.items ∙ length_push acceptors acceptor ∙ ap (λ n. n + 1) c.loop-number.invariant.0,
      c.in_ok-push-2.ensures.items ∙ (λ i. c.loop-number.invariant.1 i ++ new i ∷ [])
          ∙ sym (ap (map newcomer) c.in_ok-push.ensures.items ∙ map_push newcomer acceptors acceptor),
    )
