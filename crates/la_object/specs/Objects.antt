-- Objects of all kinds: what an object answers by its updates, and the steps of a state by which it
-- gets there.
use Rattle.std.specs.Prelude.{◌≡◌, ℕ, Bool, true, false, not, List, [], fold, filter}
use Rattle.std.specs.FinMap as map
use Rattle.std.specs.FinSet as set
use Rattle.la_set.specs.declared.update.UpdateId.{UpdateId}
use Rattle.la_set.specs.declared.update.Op.{Op}
use Rattle.la_set.specs.declared.update.Op.TheVariants.{Mark, Vote}
use Rattle.la_set.specs.declared.update.Update.{Update}
use Rattle.la_shelf.specs.Meanings.{Meaning}
pub use Rattle.la_shelf.specs.Shelves.{of_object}
use Rattle.la_object.specs.declared.kind.Kind.{Kind}
use Rattle.la_object.specs.declared.kind.Kind.TheVariants.{Counter as CounterKind, MaxRegister, OrSet}
use Rattle.la_object.specs.declared.query.Query.{Query}
use Rattle.la_object.specs.declared.query.Query.TheVariants.{Items}
use Rattle.la_object.specs.declared.query.Answer.{Answer}
use Rattle.la_object.specs.declared.state.State.{State}
use Rattle.la_object.specs.declared.state.State.TheVariants.{Counter, Max, Set}
use Rattle.la_object.specs.Counter.{counts, counter_value, counter_after, counter_reply, CounterHasRoom}
use Rattle.la_object.specs.MaxRegister.{raises, register_value, register_after, register_reply}
use Rattle.la_object.specs.OrSet.{puts_or_removes, set_value, set_after, set_reply, live_tags, held_tags}

-- ## By updates

-- whether an operation is one of the kind's
abbrev pub is_of_kind : Kind → Op → Bool
is_of_kind CounterKind op = counts op
is_of_kind MaxRegister op = raises op
is_of_kind OrSet op = puts_or_removes op

-- whether an operation is one of some kind's, and no Mark or Vote
abbrev pub is_of_some_kind : Op → Bool
is_of_some_kind Mark = false
is_of_some_kind (Vote value sole) = false
is_of_some_kind _ = true

-- the updates whose operations are some kind's
abbrev pub without_marks_and_votes : List Update → List Update
without_marks_and_votes us = filter (λ u. is_of_some_kind u.op) us

-- what an object of a kind with these updates answers
abbrev pub value : Kind → List Update → Query → Answer
value CounterKind us query = counter_value us query
value MaxRegister us query = register_value us query
value OrSet us query = set_value us query

-- whether a query is answered by a list, the only answer that takes memory
abbrev pub answers_a_list : Kind → Query → Bool
answers_a_list OrSet Items = true
answers_a_list OrSet _ = false
answers_a_list CounterKind query = false
answers_a_list MaxRegister query = false

-- the tags of an element that an object of a kind with these updates observes
abbrev pub tags_by : Kind → List Update → ℕ → List UpdateId
tags_by CounterKind us x = []
tags_by MaxRegister us x = []
tags_by OrSet us x = live_tags us x

-- ## By states

abbrev pub start : Kind → State
start CounterKind = Counter 0 0
start MaxRegister = Max 0
start OrSet = Set map.empty set.empty

abbrev pub kind_of : State → Kind
kind_of (Counter up down) = CounterKind
kind_of (Max most) = MaxRegister
kind_of (Set adds gone) = OrSet

-- the state is the start of its kind
abbrev pub IsFresh : State → Type 0
IsFresh s = s ≡ start (kind_of s)

-- the state after one more update; an operation of another kind changes nothing
abbrev pub after : State → Update → State
after (Counter up down) u = counter_after up down u
after (Max most) u = register_after most u
after (Set adds gone) u = set_after adds gone u

-- the state after updates, one after another
abbrev pub steps : State → List Update → State
steps s us = fold after s us

-- what an object in this state answers
abbrev pub reply : State → Query → Answer
reply (Counter up down) query = counter_reply up down query
reply (Max most) query = register_reply most query
reply (Set adds gone) query = set_reply adds gone query

-- the tags of an element that an object in this state observes
abbrev pub tags_of : State → ℕ → List UpdateId
tags_of (Counter up down) x = []
tags_of (Max most) x = []
tags_of (Set adds gone) x = held_tags adds gone x

-- there is room for one more update
abbrev pub HasRoom : State → Type 0
HasRoom (Counter up down) = CounterHasRoom up down
HasRoom (Max most) = Unit {0}
HasRoom (Set adds gone) = Unit {0}

-- ## Objects of all kinds as a shelf of objects of one's own takes them

abbrev pub meaning : Meaning Kind State Query Answer
meaning = record {
  start = start;
  kind_of = kind_of;
  after = after;
  reply = reply;
  value = value;
  in_place = λ kind query. not (answers_a_list kind query);
}
