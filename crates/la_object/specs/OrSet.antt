-- An observed-remove set: what it takes from an operation, what it answers by its updates, and its
-- state, the elements that were put, by the ids of their Puts, and the ids that Removes name. An
-- element is in the set where it has a live tag: the id of a Put of it that no Remove names.
use Rattle.std.specs.Prelude.{ℕ, ◌==◌, ◌&&◌, not, Bool, true, false, List, [], filter, map as list_map, Option, Some, None, if◌then◌else◌}
use Rattle.std.specs.List.{list_any, filter_map}
use Rattle.std.specs.Ordering.{nat_cmp, eq_by_cmp}
use Rattle.std.specs.FinMap as map
use Rattle.std.specs.FinSet as set
use Rattle.la_set.specs.declared.update.UpdateId.{UpdateId}
use Rattle.la_set.specs.declared.update.Op.{Op}
use Rattle.la_set.specs.declared.update.Op.TheVariants.{Put, Remove}
use Rattle.la_set.specs.declared.update.Update.{Update}
use Rattle.la_object.specs.IdOrder.{id_cmp, Elements, IdSet}
use Rattle.la_object.specs.declared.query.Query.{Query}
use Rattle.la_object.specs.declared.query.Query.TheVariants.{Has, Size, Items}
use Rattle.la_object.specs.declared.query.Answer.{Answer}
use Rattle.la_object.specs.declared.query.Answer.TheVariants.{Has as HasIs, Size as SizeIs, Items as ItemsAre, Foreign}
use Rattle.la_object.specs.declared.state.State.{State}
use Rattle.la_object.specs.declared.state.State.TheVariants.{Set}

-- the operations of an observed-remove set
abbrev pub puts_or_removes : Op → Bool
puts_or_removes (Put x) = true
puts_or_removes (Remove ids) = true
puts_or_removes _ = false

-- the element that an operation puts
abbrev pub element : Op → Option ℕ
element (Put x) = Some x
element _ = None

-- the ids that an operation names
abbrev pub named : Op → List UpdateId
named (Remove ids) = ids
named _ = []

-- whether some Remove names the id
abbrev pub is_removed : List Update → UpdateId → Bool
is_removed us id = list_any (λ u. list_any (eq_by_cmp id_cmp id) (named u.op)) us

-- what a Put that no Remove names puts
abbrev pub live : List Update → Update → Option ℕ
live us u = if is_removed us u.id then None else element u.op

-- a finite set of elements: the keys of a map to nothing more, since those can be listed
abbrev pub ElementSet : Type 0
ElementSet = map.FinMap nat_cmp (Unit {0})

-- the set of these elements, however often each stands there
abbrev pub element_set : List ℕ → ElementSet
element_set xs = map.from_entries (list_map (λ x. (x, tt)) xs)

-- the elements with a live tag
abbrev pub present : List Update → ElementSet
present us = element_set (filter_map (live us) us)

-- whether an element that may be there is x
abbrev pub is_element : ℕ → Option ℕ → Bool
is_element x None = false
is_element x (Some y) = y == x

-- the live tags of an element, in the order of the updates
abbrev pub live_tags : List Update → ℕ → List UpdateId
live_tags us x = list_map (λ u. u.id) (filter (λ u. is_element x (live us u)) us)

-- what an observed-remove set with these updates answers; its elements in ascending order
abbrev pub set_value : List Update → Query → Answer
set_value us (Has x) = HasIs (map.contains_key (present us) x)
set_value us Size = SizeIs (map.len (present us))
set_value us Items = ItemsAre (map.keys (present us))
set_value us _ = Foreign

-- a Put whose id is there changes nothing
abbrev pub with_element : Elements → UpdateId → Option ℕ → Elements
with_element adds id None = adds
with_element adds id (Some x) = if map.contains_key adds id then adds else map.insert adds id x

abbrev pub with_ids : IdSet → List UpdateId → IdSet
with_ids gone ids = set.union gone (set.from_list ids)

-- one step of what was put and of what is gone
abbrev pub set_after : Elements → IdSet → Update → State
set_after adds gone u = Set (with_element adds u.id (element u.op)) (with_ids gone (named u.op))

-- whether an entry's id is not gone
abbrev pub stays : IdSet → UpdateId × ℕ → Bool
stays gone e = not (set.contains gone e.0)

-- the elements that were put under ids that are not gone
abbrev pub held : Elements → IdSet → ElementSet
held adds gone = element_set (list_map (λ e. e.1) (filter (stays gone) (map.entries adds)))

-- the ids under which an element was put that are not gone, in ascending order
abbrev pub held_tags : Elements → IdSet → ℕ → List UpdateId
held_tags adds gone x =
    list_map (λ e. e.0) (filter (λ e. stays gone e && (e.1 == x)) (map.entries adds))

-- what an observed-remove set in this state answers
abbrev pub set_reply : Elements → IdSet → Query → Answer
set_reply adds gone (Has x) = HasIs (map.contains_key (held adds gone) x)
set_reply adds gone Size = SizeIs (map.len (held adds gone))
set_reply adds gone Items = ItemsAre (map.keys (held adds gone))
set_reply adds gone _ = Foreign
