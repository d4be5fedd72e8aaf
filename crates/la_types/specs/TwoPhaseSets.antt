-- A set whose removals stand for good: an element is in it where some update inserted it and none removed it.
use Rattle.std.specs.Prelude.{ℕ, List, Option, Some, None, if◌then◌else◌}
use Rattle.std.specs.FinMap as map
use Rattle.la_set.specs.declared.update.Update.{Update}
use Rattle.la_shelf.specs.Meanings.{Meaning}
use Rattle.la_types.specs.declared.elements.SetQuery.{SetQuery}
use Rattle.la_types.specs.declared.elements.SetAnswer.{SetAnswer}
use Rattle.la_types.specs.declared.two_phase_set.TwoPhaseState.{TwoPhaseState}
use Rattle.la_types.specs.ByteSets.{ByteSet, has_bytes, with_bytes, without_bytes, set_of_bytes, without_all}
use Rattle.la_types.specs.Elements.{element_inserted, element_removed, inserted_elements, removed_elements}
use Rattle.la_types.specs.Elements.{answer_by_set, takes_no_memory}

-- the elements that updates inserted, but for those that updates removed, whatever came first
abbrev pub two_phase_set : List Update → ByteSet
two_phase_set us = without_all (set_of_bytes (inserted_elements us)) (set_of_bytes (removed_elements us))

-- ## State

abbrev pub two_phase_start : TwoPhaseState
two_phase_start = record { present = map.empty; removed = map.empty }

-- an element comes in unless it was removed
abbrev pub with_insertion : TwoPhaseState → Option (List ℕ) → TwoPhaseState
with_insertion s None = s
with_insertion s (Some element) =
    if has_bytes s.removed element then s else record s { present = with_bytes s.present element }

abbrev pub with_removal : TwoPhaseState → Option (List ℕ) → TwoPhaseState
with_removal s None = s
with_removal s (Some element) =
    record { present = without_bytes s.present element; removed = with_bytes s.removed element }

abbrev pub two_phase_meaning : Meaning (Unit {0}) TwoPhaseState SetQuery SetAnswer
two_phase_meaning = record {
  start = λ kind. two_phase_start;
  kind_of = λ s. tt;
  after = λ s u. with_removal (with_insertion s (element_inserted u.op)) (element_removed u.op);
  reply = λ s query. answer_by_set s.present query;
  value = λ kind us query. answer_by_set (two_phase_set us) query;
  in_place = λ kind query. takes_no_memory query;
}
