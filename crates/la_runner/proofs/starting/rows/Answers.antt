use Rattle.std.proofs.Common.{◌≡◌, [], ◌∷◌, ◌++◌, ◌+◌, length, map, ap, sym, ◌∙◌}
use Rattle.std.proofs.lemmas.List.{length_push}
use Rattle.std.proofs.lemmas.List.Elements.{All-same, All-push}
use Rattle.la_runner.specs.declared.group.Row.{Row}
use Rattle.la_runner.specs.declared.starting.Firsts.{Firsts}
use Rattle.la_runner.specs.Starting.{newcomer}
use Rattle.la_runner.proofs.Fresh.{map_push}
use Rattle.la_runner.proofs.starting.rows.Goals as goal

pub loop-preserved : goal.loop-preserved
loop-preserved c =
    let made = c.loop.made.items in let row = c.in_ok-acceptors.acceptors in
    let fits = λ (r : Row). length r.acceptors.items ≡ c.args.replicas in
    let passes_of = λ (f : Firsts). f.passes.items in
    let new_of = λ (r : Row). map newcomer r.acceptors.items in (
      ap length c.in_ok-push.ensures.items ∙ length_push made row ∙ ap (λ n. n + 1) c.loop.invariant.0,
      All-same fits c.push.new.self.items (made ++ row ∷ []) c.in_ok-push.ensures.items
          (All-push fits made row c.loop.invariant.1 c.in_ok-acceptors.ensures.size),
      ap (map passes_of) c.in_ok-push-2.ensures.items ∙ map_push passes_of c.loop.firsts.items c.in_ok-acceptors.passes
          ∙ (λ i. c.loop.invariant.2 i ++ c.in_ok-acceptors.ensures.passes i ∷ [])
          ∙ sym (ap (map new_of) c.in_ok-push.ensures.items ∙ map_push new_of made row),
    )
