-- Maps of writes, by their keys.
use Rattle.std.proofs.Common.{List}
use Rattle.la_types.specs.Keyed.{KeyedWrites, Keyed}
use Rattle.la_types.specs.KeyOrder.{key_total, key_tied}
use Rattle.la_types.proofs.lemmas.FiniteMaps.{all_put as put_all}

abbrev pub all_put : KeyedWrites → List Keyed → KeyedWrites
all_put m es = put_all key_total key_tied m es
