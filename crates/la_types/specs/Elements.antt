-- Elements, which are bytes: how one is inserted and how one is removed, and what is asked of a set of them.
use Rattle.std.specs.Prelude.{ℕ, ◌==◌, nat_le, Bool, true, false, ◌&&◌, List, ◌∷◌, length, drop, slice_index, Option}
use Rattle.std.specs.Prelude.{Some, None, if◌then◌else◌}
use Rattle.std.specs.List.{filter_map}
use Rattle.std.specs.Option.{option_and_then}
use Rattle.std.specs.FinMap as map
use Rattle.la_set.specs.declared.update.Op.{Op}
use Rattle.la_set.specs.declared.update.Update.{Update}
use Rattle.la_own.specs.Own.{own, own_bytes_of}
use Rattle.la_types.specs.ByteSets.{ByteSet, has_bytes}
use Rattle.la_types.specs.declared.elements.SetQuery.{SetQuery}
use Rattle.la_types.specs.declared.elements.SetQuery.TheVariants.{Has, Size, Items}
use Rattle.la_types.specs.declared.elements.SetAnswer.{SetAnswer}
use Rattle.la_types.specs.declared.elements.SetAnswer.TheVariants as answer

-- ## Operations

-- one byte says what is done, 1 an insertion and 2 a removal, and then comes the element
abbrev pub insert_element_op : List ℕ → Op
insert_element_op element = own (1 ∷ element)

abbrev pub remove_element_op : List ℕ → Op
remove_element_op element = own (2 ∷ element)

-- the element behind this first byte, where it is the first
abbrev pub first_byte_is : List ℕ → ℕ → Bool
first_byte_is bytes first = nat_le 1 (length bytes) && (slice_index bytes 0 == first)

abbrev pub element_behind : ℕ → List ℕ → Option (List ℕ)
element_behind first bytes = if first_byte_is bytes first then Some (drop 1 bytes) else None

unfoldable pub element_by : ℕ → Op → Option (List ℕ)
element_by first op = option_and_then (element_behind first) (own_bytes_of op)

-- the element that an operation inserts, where it inserts one
abbrev pub element_inserted : Op → Option (List ℕ)
element_inserted op = element_by 1 op

-- the element that an operation removes, where it removes one
abbrev pub element_removed : Op → Option (List ℕ)
element_removed op = element_by 2 op

-- what updates inserted
abbrev pub inserted_elements : List Update → List (List ℕ)
inserted_elements us = filter_map (λ u. element_inserted u.op) us

-- what updates removed
abbrev pub removed_elements : List Update → List (List ℕ)
removed_elements us = filter_map (λ u. element_removed u.op) us

-- ## Questions

-- what a set of elements answers
abbrev pub answer_by_set : ByteSet → SetQuery → SetAnswer
answer_by_set s (Has element) = answer.Has (has_bytes s element)
answer_by_set s Size = answer.Size (map.len s)
answer_by_set s Items = answer.Items (map.keys s)

-- the questions whose answer takes no memory
abbrev pub takes_no_memory : SetQuery → Bool
takes_no_memory Items = false
takes_no_memory _ = true
