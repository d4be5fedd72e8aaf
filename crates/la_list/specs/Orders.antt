-- The orders of ids and of moments, each of which tells apart all that differ, and what is kept by them.
use Rattle.std.specs.Prelude.{◌≡◌, ℕ, List, Option, refl}
use Rattle.std.specs.declared.cmp.Ordering.{Ordering}
use Rattle.std.specs.declared.cmp.Ordering.TheVariants.{Less, Equal, Greater}
use Rattle.std.specs.Ordering.{nat_cmp, on, then_cmp, ordering_then}
use Rattle.std.specs.Cmp.{IsTotalOrder, nat_cmp_total, on_total, then_total}
use Rattle.std.specs.FinMap as map
use Rattle.std.specs.FinMap.{IsAntisymmetric, nat_cmp-IsAntisymmetric}
use Rattle.std.specs.FinSet as set
use Rattle.std.specs.Coded.{Coded, code_by, coded×, coded_ℕ, coded_list, coded_option}
use Rattle.la_set.specs.declared.update.UpdateId.{UpdateId}
use Rattle.la_list.specs.declared.inserts.Moment.{Moment}
use Rattle.la_list.specs.declared.inserts.Insertion.{Insertion}

-- by replica, and then by number
abbrev pub id_order : UpdateId → UpdateId → Ordering
id_order = then_cmp (on (λ id. id.replica) nat_cmp) (on (λ id. id.number) nat_cmp)

-- by stamp, and then by id
abbrev pub moment_order : Moment → Moment → Ordering
moment_order = then_cmp (on (λ moment. moment.stamp) nat_cmp) (on (λ moment. moment.id) id_order)

-- what was put in, by moments
abbrev pub InsertMap : Type 0
InsertMap = map.FinMap moment_order Insertion

abbrev pub SetOfIds : Type 0
SetOfIds = set.FinSet id_order

-- ## Codes

abbrev pub coded_id : Coded UpdateId
coded_id =
    code_by (ℕ × ℕ) (coded× coded_ℕ coded_ℕ) (λ id. (id.replica, id.number))
    (λ p. record { replica = p.0; number = p.1 }) (λ _. refl)

abbrev pub ids_code : Coded SetOfIds
ids_code = set.code coded_id

abbrev pub moment_code : Coded Moment
moment_code =
    code_by (ℕ × UpdateId) (coded× coded_ℕ coded_id) (λ m. (m.stamp, m.id)) (λ p. record { stamp = p.0; id = p.1 })
    (λ _. refl)

abbrev pub insertion_code : Coded Insertion
insertion_code =
    code_by (Option UpdateId × List ℕ) (coded× (coded_option coded_id) (coded_list coded_ℕ))
    (λ i. (i.behind, i.value)) (λ p. record { behind = p.0; value = p.1 }) (λ _. refl)

abbrev pub inserts_code : Coded InsertMap
inserts_code = map.code moment_code insertion_code

-- ## Laws

pub id_total : IsTotalOrder id_order
id_total = then_total (on_total (λ id. id.replica) nat_cmp_total) (on_total (λ id. id.number) nat_cmp_total)

pub moment_total : IsTotalOrder moment_order
moment_total = then_total (on_total (λ moment. moment.stamp) nat_cmp_total) (on_total (λ moment. moment.id) id_total)

both_equal : (a b : Ordering) → ordering_then a b ≡ Equal → (a ≡ Equal) × (b ≡ Equal)
both_equal Less b e = absurd (cc)
both_equal Equal b e = (refl, e)
both_equal Greater b e = absurd (cc)

pub id_tied : IsAntisymmetric id_order
id_tied x y e =
    let p = both_equal (nat_cmp x.replica y.replica) (nat_cmp x.number y.number) e in
    λ i. record {
      replica = nat_cmp-IsAntisymmetric x.replica y.replica p.0 i;
      number = nat_cmp-IsAntisymmetric x.number y.number p.1 i;
    }

pub moment_tied : IsAntisymmetric moment_order
moment_tied x y e =
    let p = both_equal (nat_cmp x.stamp y.stamp) (id_order x.id y.id) e in
    λ i. record { stamp = nat_cmp-IsAntisymmetric x.stamp y.stamp p.0 i; id = id_tied x.id y.id p.1 i }
