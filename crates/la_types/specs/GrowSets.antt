-- A set that grows alone: an element is in it where some update inserted it.
use Rattle.std.specs.Prelude.{ℕ, List, Option, Some, None}
use Rattle.std.specs.FinMap as map
use Rattle.la_set.specs.declared.update.Update.{Update}
use Rattle.la_shelf.specs.Meanings.{Meaning}
use Rattle.la_types.specs.declared.elements.SetQuery.{SetQuery}
use Rattle.la_types.specs.declared.elements.SetAnswer.{SetAnswer}
use Rattle.la_types.specs.ByteSets.{ByteSet, with_bytes, set_of_bytes}
use Rattle.la_types.specs.Elements.{element_inserted, inserted_elements, answer_by_set, takes_no_memory}

-- the elements that updates inserted
abbrev pub grown_set : List Update → ByteSet
grown_set us = set_of_bytes (inserted_elements us)

abbrev pub grown_by : ByteSet → Option (List ℕ) → ByteSet
grown_by s None = s
grown_by s (Some element) = with_bytes s element

abbrev pub grow_set_meaning : Meaning (Unit {0}) ByteSet SetQuery SetAnswer
grow_set_meaning = record {
  start = λ kind. map.empty;
  kind_of = λ s. tt;
  after = λ s u. grown_by s (element_inserted u.op);
  reply = answer_by_set;
  value = λ kind us query. answer_by_set (grown_set us) query;
  in_place = λ kind query. takes_no_memory query;
}
