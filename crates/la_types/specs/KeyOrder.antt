-- The order of keys, which tells apart all that differ.
use Rattle.std.specs.Ordering.{nat_cmp}
use Rattle.std.specs.Cmp.Lexicographic.{slice_cmp, nat_list_cmp_total}
use Rattle.std.specs.Cmp.{IsTotalOrder}
use Rattle.std.specs.FinMap.{IsAntisymmetric, nat_cmp-IsAntisymmetric, slice_cmp-IsAntisymmetric}

pub key_total : IsTotalOrder (slice_cmp nat_cmp)
key_total = nat_list_cmp_total

pub key_tied : IsAntisymmetric (slice_cmp nat_cmp)
key_tied = slice_cmp-IsAntisymmetric nat_cmp-IsAntisymmetric
