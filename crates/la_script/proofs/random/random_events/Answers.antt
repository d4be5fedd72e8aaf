use Rattle.std.proofs.Common.{◌∙◌, ◌++◌, [], ◌∷◌, ap}
use Rattle.la_script.proofs.Draws.{at_first, generator_on, events_on}
use Rattle.la_script.proofs.random.random_events.Goals as goal

pub loop-number-init : goal.loop-number-init
loop-number-init c = record { at = c.new-generator.ensures ∙ at_first c.args.seed; so_far = c.new-events.ensures }

pub loop-number-preserved : goal.loop-number-preserved
loop-number-preserved c = record {
  at =
      generator_on c.args.seed c.loop-number.number _ _ _ _ _ c.loop-number.invariant.at c.next_word-first.ensures
      c.next_word-second.ensures;
  so_far =
      events_on c.args.seed c.args.replicas c.loop-number.number _ _ _ _ _ c.loop-number.events c.push.new.self
      c.loop-number.invariant.at
      c.next_word-first.ensures c.next_word-second.ensures c.loop-number.invariant.so_far
      (c.in_ok-push.ensures.ok ∙ ap (λ e. c.loop-number.events ++ e ∷ []) c.event_by.ensures);
}
