-- The order of ids is total, and only equal ids tie.
use Rattle.std.proofs.Common.{◌≡◌, refl}
use Rattle.std.specs.Ordering.{nat_cmp, ordering_then}
use Rattle.std.specs.declared.cmp.Ordering.TheVariants.{Less, Equal, Greater}
use Rattle.std.specs.Cmp.{IsTotalOrder, nat_cmp_total}
use Rattle.std.specs.FinMap.{IsAntisymmetric, nat_cmp-IsAntisymmetric}
use Rattle.std.proofs.lemmas.Cmp.{then_total}
use Rattle.la_set.specs.declared.update.UpdateId.{UpdateId}
use Rattle.la_object.specs.IdOrder.{id_cmp}

by_replica : IsTotalOrder (λ (x y : UpdateId). nat_cmp x.replica y.replica)
by_replica = record { antisymm = λ x y. nat_cmp_total.antisymm x.replica y.replica; trans = λ x y z. nat_cmp_total.trans x.replica y.replica z.replica; congr = λ x y z. nat_cmp_total.congr x.replica y.replica z.replica }

by_number : IsTotalOrder (λ (x y : UpdateId). nat_cmp x.number y.number)
by_number = record { antisymm = λ x y. nat_cmp_total.antisymm x.number y.number; trans = λ x y z. nat_cmp_total.trans x.number y.number z.number; congr = λ x y z. nat_cmp_total.congr x.number y.number z.number }

pub id_cmp_total : IsTotalOrder id_cmp
id_cmp_total = then_total by_replica by_number

pub id_cmp-IsAntisymmetric : IsAntisymmetric id_cmp
id_cmp-IsAntisymmetric x y is =
    elim (nat_cmp x.replica y.replica) as
    (λ r. nat_cmp x.replica y.replica ≡ r → ordering_then r (nat_cmp x.number y.number) ≡ Equal → x ≡ y) [
      | Less ↦ λ p e. cc
      | Equal ↦ λ p e i. record { replica = nat_cmp-IsAntisymmetric x.replica y.replica p i; number = nat_cmp-IsAntisymmetric x.number y.number e i }
      | Greater ↦ λ p e. cc
    ] refl is
