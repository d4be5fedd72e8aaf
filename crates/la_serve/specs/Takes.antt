-- What a submission takes out that says an element: what put it, as far as the node has seen.
use Rattle.std.specs.Prelude.{◌≡◌, ◌⊎◌, ◌<◌, ℕ, ◌==◌, Bool, false, ◌&&◌, List, [], length, Option, Some, None}
use Rattle.std.specs.Prelude.{if◌then◌else◌}
use Rattle.std.specs.List.{list_all}
use Rattle.la_set.specs.declared.tags.TheConstants.{MAX_TAGS}
use Rattle.la_set.specs.declared.update.Op.{Op}
use Rattle.la_set.specs.declared.update.Op.TheVariants as op
use Rattle.la_set.specs.declared.update.Update.{Update}
use Rattle.la_set.specs.declared.update.UpdateId.{UpdateId}
use Rattle.la_set.specs.Histories.{Histories, get}
use Rattle.la_set.specs.ObjectOps.{ObjectOp}
use Rattle.la_object.specs.declared.kind.Kind.{Kind}
use Rattle.la_object.specs.Shelves.{tags_at}
use Rattle.la_replica.specs.ReplicaState.{ReplicaState}
use Rattle.la_wire.specs.declared.questions.Take.{Take}
use Rattle.la_serve.specs.declared.said.Why.{Why}
use Rattle.la_serve.specs.declared.said.Why.TheVariants as why
use Rattle.la_serve.specs.Numbered.{submission_under}
use Rattle.la_serve.specs.Said.{shelf_by}

abbrev pub puts_this : (element : ℕ) → Op → Bool
puts_this element (op.Put x) = x == element
puts_this element _ = false

-- an update that puts this element into this object
abbrev pub is_put : (object element : ℕ) → Option Update → Bool
is_put object element None = false
is_put object element (Some u) = (u.object == object) && puts_this element u.op

-- each of these updates of a view does
abbrev pub all_put : Histories → (object element : ℕ) → List UpdateId → Bool
all_put view object element tags = list_all (λ id. is_put object element (get view id)) tags

abbrev pub or_no_tags : Option (List UpdateId) → List UpdateId
or_no_tags None = []
or_no_tags (Some tags) = tags

-- what puts the element and is not taken out, by the view
abbrev pub live_now : List (ℕ × Kind) → ReplicaState → Take → List UpdateId
live_now objects n take = or_no_tags (tags_at (shelf_by objects n) take.object take.element)

abbrev pub removed_by : Op → Option (List UpdateId)
removed_by (op.Remove tags) = Some tags
removed_by _ = None

-- whether a remove of these is such a take
abbrev pub is_such_take : Histories → Take → (object : ℕ) → List UpdateId → Bool
is_such_take view take object tags = (object == take.object) && all_put view take.object take.element tags

abbrev pub tags_if_such : Histories → Take → (object : ℕ) → Option (List UpdateId) → Option (List UpdateId)
tags_if_such view take object None = None
tags_if_such view take object (Some tags) = if is_such_take view take object tags then Some tags else None

-- what a submission took out that was such a take, if it was one
abbrev pub taken_before : Histories → Take → Option ObjectOp → Option (List UpdateId)
taken_before view take None = None
taken_before view take (Some d) = tags_if_such view take d.object (removed_by d.op)

abbrev pub or_live : List (ℕ × Kind) → ReplicaState → Take → Option (List UpdateId) → List UpdateId
or_live objects n take None = live_now objects n take
or_live objects n take (Some tags) = tags

-- by its number, where it says one
abbrev pub by_number : List (ℕ × Kind) → ReplicaState → Take → Option ℕ → List UpdateId
by_number objects n take None = live_now objects n take
by_number objects n take (Some number) =
    or_live objects n take (taken_before n.view take (submission_under n number))

-- What a take names: under a number that was taken by such a take what that one named, so that it counts once. One that
-- is for another node is passed over, whatever it names.
abbrev pub taken_tags : List (ℕ × Kind) → ReplicaState → Take → List UpdateId
taken_tags objects n take = if take.replica == n.own then by_number objects n take take.number else []

-- what a take names is too much for a remove, or there was no memory for it
abbrev pub IsTakeRefusal : List UpdateId → Why → Type 0
IsTakeRefusal tags w = ((w ≡ why.TooManyTags) × (MAX_TAGS < length tags)) ⊎ (w ≡ why.Memory)
