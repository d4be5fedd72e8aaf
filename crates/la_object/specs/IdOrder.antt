-- The order of updates' ids as a comparison, and finite maps and sets that are kept in it.
use Rattle.std.specs.Prelude.{ℕ, refl}
use Rattle.std.specs.Ordering.{nat_cmp, ordering_then}
use Rattle.std.specs.declared.cmp.Ordering.{Ordering}
use Rattle.std.specs.Coded.{Coded, code_by, coded×, coded_ℕ}
use Rattle.std.specs.FinMap as map
use Rattle.std.specs.FinSet as set
use Rattle.la_set.specs.declared.update.UpdateId.{UpdateId}

-- by replica, and then by number
abbrev pub id_cmp : UpdateId → UpdateId → Ordering
id_cmp x y = ordering_then (nat_cmp x.replica y.replica) (nat_cmp x.number y.number)

-- elements, by the ids of the updates that put them
abbrev pub Elements : Type 0
Elements = map.FinMap id_cmp ℕ

abbrev pub IdSet : Type 0
IdSet = set.FinSet id_cmp

abbrev pub id_code : Coded UpdateId
id_code =
    code_by (ℕ × ℕ) (coded× coded_ℕ coded_ℕ)
    (λ x. (x.replica, x.number)) (λ p. record { replica = p.0; number = p.1 }) (λ _. refl)

abbrev pub elements_code : Coded Elements
elements_code = map.code id_code coded_ℕ

abbrev pub id_set_code : Coded IdSet
id_set_code = set.code id_code
