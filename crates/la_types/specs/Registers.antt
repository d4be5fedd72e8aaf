-- A register of bytes: the last write wins.
use Rattle.std.specs.Prelude.{ℕ, false, List, Option, None}
use Rattle.std.specs.List.{filter_map}
use Rattle.la_set.specs.declared.update.Update.{Update}
use Rattle.la_shelf.specs.Meanings.{Meaning}
use Rattle.la_types.specs.declared.write.Write.{Write}
use Rattle.la_types.specs.Writes.{last_write, with_write, value_in, write_of}

-- what is written by updates
abbrev pub writes : List Update → List Write
writes us = filter_map (λ u. write_of u.id u.op) us

abbrev pub register_meaning : Meaning (Unit {0}) (Option Write) (Unit {0}) (Option (List ℕ))
register_meaning = record {
  start = λ kind. None;
  kind_of = λ last. tt;
  after = λ last u. with_write last (write_of u.id u.op);
  reply = λ last question. value_in last;
  value = λ kind us question. value_in (last_write (writes us));
  in_place = λ kind question. false;
}
