-- A shelf, as contracts see it: the set of updates that was absorbed, and which kind of object has
-- which number, in the order of addition. It is a shelf of objects of one's own, by the meaning of
-- the kinds here, whose objects also observe tags and have room.
use Rattle.std.specs.Prelude.{◌≡◌, ℕ, ◌<◌, ◌^◌, List, filter, All, Option, Some, option_map}
use Rattle.la_set.specs.declared.update.UpdateId.{UpdateId}
use Rattle.la_set.specs.declared.update.Update.{Update}
use Rattle.la_set.specs.Histories.{Histories, updates}
use Rattle.la_shelf.specs.Shelves as shelf
pub use Rattle.la_shelf.specs.Shelves.{kind_at, updates_at, after_first, states, IsFirstMore, HasTaken}
use Rattle.la_object.specs.declared.kind.Kind.{Kind}
use Rattle.la_object.specs.declared.query.Query.{Query}
use Rattle.la_object.specs.declared.query.Answer.{Answer}
use Rattle.la_object.specs.declared.state.State.{State}
use Rattle.la_object.specs.Counter.{increment, decrement}
use Rattle.la_object.specs.Objects.{is_of_kind, tags_by, meaning, HasRoom}

-- its `view` and its `objects`
abbrev pub ShelfState : Type 0
ShelfState = shelf.ShelfState Kind

-- an object's updates whose operations are those of its kind
abbrev pub operations_at : Histories → ℕ → Kind → List Update
operations_at view number kind = filter (λ u. is_of_kind kind u.op) (updates_at view number)

-- what the object under a number answers, by the view
abbrev pub answer_at : ShelfState → ℕ → Query → Option Answer
answer_at s number query = shelf.answer_at meaning s number query

-- the tags of an element that it observes
abbrev pub tags_at : ShelfState → ℕ → ℕ → Option (List UpdateId)
tags_at s number x =
    option_map (λ kind. tags_by kind (updates_at s.view number) x) (kind_at s.objects number)

-- its state, the one that its updates lead to
abbrev pub state_at : ShelfState → ℕ → Option State
state_at s number = shelf.state_at meaning s number

-- two shelves have objects of one kind under a number, and their views the same operations on them
pub record IsOneObject (number : ℕ) (kind : Kind) (a b : ShelfState) : Type 0 where
  pub here : kind_at a.objects number ≡ Some kind
  pub there : kind_at b.objects number ≡ Some kind
  pub operations : operations_at a.view number kind ≡ operations_at b.view number kind

-- ## What a shelf keeps

abbrev pub kinds : List (ℕ × State) → List (ℕ × Kind)
kinds ss = shelf.kinds meaning ss

-- each object has room for one more update
abbrev pub HaveRoom : List (ℕ × State) → Type 0
HaveRoom ss = All (λ p. HasRoom p.1) ss

-- the numbers in the update are those of a program
abbrev pub IsSmall : Update → Type 0
IsSmall u = (increment u.op < 2 ^ 32) × (decrement u.op < 2 ^ 32)

pub record IsClosedShelf (view : Histories) (ss : List (ℕ × State)) : Type 0 where
  pub objects : shelf.IsShelf meaning view ss
  pub small : All IsSmall (updates view)
