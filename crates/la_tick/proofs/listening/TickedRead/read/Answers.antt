use Rattle.std.proofs.Common.{[], subst, sym}
use Rattle.la_tick.specs.declared.feed.Feed.{Feed}
use Rattle.la_tick.specs.Ticks.{HandsOn}
use Rattle.la_tick.proofs.Hearing.{then_hands}
use Rattle.la_tick.proofs.listening.TickedRead.read.Goals as goal

pub returns-in-None-clause-hands : goal.returns-in-None-clause-hands
returns-in-None-clause-hands g c heard handed was =
    then_hands _ _ heard handed _
    (subst (λ (f : Feed). HandsOn f heard handed []) (sym c.self.view_is)
    (c.hear_if_done.ensures.hands heard handed was))
    c.hand.ensures.stands
