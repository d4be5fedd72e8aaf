use Rattle.std.proofs.Common.{Result, Ok, Err, IfOk, OnOk, OnErr}
use Rattle.la_world.proofs.Promised.{play_keeps, no_view_shrinks}
use Rattle.la_world.proofs.WorldOutcomes.{play_shows, play_votes, play_stays, kept_stays, answers_listed}
use Rattle.la_world.proofs.world.World.play.Goals as goal

on_ok : {T E : Type 0} (r : Result T E) (P : T → Type 0) (Q : Type 0) → ((x : T) → P x → Q) → IfOk r P → OnOk r Q
on_ok (Ok x) P Q f h = f x h
on_ok (Err e) P Q f h = tt

if_ok : {T E : Type 0} (r : Result T E) (P Q : T → Type 0) → ((x : T) → P x → Q x) → IfOk r P → IfOk r Q
if_ok (Ok x) P Q f h = f x h
if_ok (Err e) P Q f h = tt

-- whatever is answered
in_both : {T E : Type 0} (r : Result T E) (P : T → Type 0) (K Q : Type 0) → ((x : T) → P x → Q) → (K → Q) → IfOk r P
    → OnErr r K → Q
in_both (Ok x) P K Q f k h e = f x h
in_both (Err d) P K Q f k h e = k e

pub returns-clause-keeps_all : goal.returns-clause-keeps_all
returns-clause-keeps_all g c events stands =
    on_ok c.take_event.result _ _ (λ step p. play_keeps _ events _ step _ p) (c.take_event.ensures.step events stands)

pub returns-clause-shows : goal.returns-clause-shows
returns-clause-shows g c events stands =
    let played = c.take_event.ensures.step events stands in
    let keeps = c.take_event.ensures.keeps in
    record {
      views = on_ok c.take_event.result _ _ (λ step p. no_view_shrinks _ events _ step _ stands p) played;
      outcome = if_ok c.take_event.result _ _ (λ step p. play_shows _ events _ step _ stands p) played;
      vote = if_ok c.take_event.result _ _ (λ step p. play_votes _ events _ step _ stands p) played;
      stays =
          in_both c.take_event.result _ _ _ (λ step p. play_stays _ events _ step _ stands p)
          (λ kept. kept_stays _ events _ stands kept) played keeps;
      listed =
          in_both c.take_event.result _ _ _ (λ step p. answers_listed _ _ p.stands)
          (λ kept. answers_listed _ events (kept.stands events stands)) played keeps;
    }
