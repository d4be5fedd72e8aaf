-- The kinds here are lawful as those of a shelf of objects of one's own, so that what holds of each such shelf holds
-- here.
use Rattle.std.proofs.Common.{◌≡◌, ℕ, refl, ap}
use Rattle.la_set.specs.declared.update.UpdateId.{UpdateId}
use Rattle.la_set.specs.Histories.{Histories}
use Rattle.la_shelf.specs.Meanings.{IsLawful}
use Rattle.la_shelf.specs.Laws.{CommutesById}
use Rattle.la_shelf.specs.Shelves.{updates_at}
use Rattle.la_shelf.proofs.lemmas.Rows as shelf
use Rattle.la_object.specs.declared.kind.Kind.{Kind}
use Rattle.la_object.specs.declared.kind.Kind.TheVariants.{Counter as CounterKind, MaxRegister, OrSet}
use Rattle.la_object.specs.Objects.{meaning, start, kind_of}
use Rattle.la_object.proofs.Steps.{after-swap}
use Rattle.la_object.proofs.Tags.{IsAscendingList, ascending-list, ascending-distinct}
use Rattle.la_object.proofs.Replies.{kind_of-after, reply-steps}

pub kind_of-start : (kind : Kind) → kind_of (start kind) ≡ kind
kind_of-start CounterKind = refl
kind_of-start MaxRegister = refl
kind_of-start OrSet = refl

pub lawful : IsLawful meaning
lawful = record {
  commutes = λ s u v other. after-swap s u v (λ same. other (ap (λ (id : UpdateId). id.replica) same));
  keeps = kind_of-after;
  starts = kind_of-start;
  means = λ kind us query up. reply-steps kind us query (ascending-distinct us (ascending-list us up));
}

pub by_id : CommutesById meaning
by_id = record { swaps = after-swap }

-- one object's updates of a view are in the order of their ids
pub ascending-view : (view : Histories) (number : ℕ) → IsAscendingList (updates_at view number)
ascending-view view number = ascending-list (updates_at view number) (shelf.ascending-view view number)
