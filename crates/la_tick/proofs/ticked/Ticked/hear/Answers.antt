use Rattle.std.proofs.Common.{[], subst, sym}
use Rattle.la_tick.specs.declared.feed.Feed.{Feed}
use Rattle.la_tick.specs.Ticks.{Stands, HandsOn}
use Rattle.la_tick.proofs.Hearing.{hears_one}
use Rattle.la_tick.proofs.ticked.Ticked.hear.Goals as goal

pub returns-in-Some-Bytes-clause-hands : goal.returns-in-Some-Bytes-clause-hands
returns-in-Some-Bytes-clause-hands g c heard handed was =
    hears_one _ _ heard handed
    (c.hear_bytes-spent.ensures.stands heard handed
    (subst (λ (f : Feed). Stands f heard handed) (sym c.self.view_is) was))

pub returns-in-None-clause-hands : goal.returns-in-None-clause-hands
returns-in-None-clause-hands g c heard handed was =
    subst (λ (f : Feed). HandsOn f heard handed []) (sym c.begin_if.ensures)
    (hears_one _ _ heard handed
    (c.hear_nothing.ensures.stands heard handed
    (subst (λ (f : Feed). Stands f heard handed) (sym c.self.view_is) was)))
