-- What was put in, one insertion after another.
use Rattle.std.proofs.Common.{List, fold}
use Rattle.la_types.proofs.lemmas.FiniteMaps.{all_put as put_all}
use Rattle.la_list.specs.declared.inserts.Moment.{Moment}
use Rattle.la_list.specs.declared.inserts.Insertion.{Insertion}
use Rattle.la_list.specs.declared.list.Element.{Element}
use Rattle.la_list.specs.Lists.{with_insert}
use Rattle.la_list.specs.Orders.{InsertMap, moment_total, moment_tied}

abbrev pub all_kept : InsertMap → List (Moment × Insertion) → InsertMap
all_kept m es = put_all moment_total moment_tied m es

-- what stands, and then what was put in
abbrev pub all_inserted : List Element → List (Moment × Insertion) → List Element
all_inserted es entries = fold (λ fs entry. with_insert fs entry.0.id entry.1) es entries
