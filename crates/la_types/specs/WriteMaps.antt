-- A map from keys to values, both of them bytes: under each key the last write wins.
use Rattle.std.specs.Prelude.{ℕ, false, List, Option}
use Rattle.std.specs.FinMap as map
use Rattle.la_shelf.specs.Meanings.{Meaning}
use Rattle.la_types.specs.Writes.{last_write, value_in}
use Rattle.la_types.specs.Keyed.{KeyedWrites, with_keyed, keyed_of, writes_under}

abbrev pub write_map_meaning : Meaning (Unit {0}) KeyedWrites (List ℕ) (Option (List ℕ))
write_map_meaning = record {
  start = λ kind. map.empty;
  kind_of = λ m. tt;
  after = λ m u. with_keyed m (keyed_of u.id u.op);
  reply = λ m key. value_in (map.get m key);
  value = λ kind us key. value_in (last_write (writes_under key us));
  in_place = λ kind key. false;
}
