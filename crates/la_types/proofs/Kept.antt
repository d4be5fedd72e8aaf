-- What is kept in the order in which it came is what is kept by replica.
use Rattle.std.proofs.Common.{◌≡◌, ℕ, suc, ◌+◌, ◌<◌, ◌≤◌, List, [], ◌∷◌, length, take, get_or, fold, All}
use Rattle.std.proofs.Common.{refl, ap, sym, ◌∙◌, arith}
use Rattle.std.proofs.lemmas.List.Sums.{fold_more, sum_by-take-le}
use Rattle.la_types.specs.declared.counter_map.KeptCount.{KeptCount}
use Rattle.la_types.specs.CounterMaps.{KeptCounters, with_kept, kept_by_replica, fold_kept, counter_start}
use Rattle.la_types.specs.CounterMaps.{amount_of, total_kept}
use Rattle.la_types.specs.CounterMapLaws.{keeps_length, one_more}

abbrev AreOfReplicas : List KeptCount → Type 0
AreOfReplicas ks = All (λ (k : KeptCount). k.id.replica < 8) ks

all_eight : (s : KeptCounters) (ks : List KeptCount) → length (fold with_kept s ks) ≡ length s
all_eight s [] = refl
all_eight s (k ∷ ks) = all_eight (with_kept s k) ks ∙ keeps_length k.id.replica k s

pub eight_kept : (ks : List KeptCount) → length (kept_by_replica ks) ≡ 8
eight_kept ks = all_eight counter_start ks

module _ {X : Type 0} (g : X → KeptCount → X) (any : (x : X) (a b : KeptCount) → g (g x a) b ≡ g (g x b) a) where
  one_by_one : (x : X) (s : KeptCounters) (ks : List KeptCount) → length s ≡ 8 → AreOfReplicas ks
      → fold_kept g x (fold with_kept s ks) ≡ fold g (fold_kept g x s) ks
  one_by_one x s [] long all = refl
  one_by_one x s (k ∷ ks) long all =
      let here : k.id.replica < 8 = all 0 k (omega arith) in
      one_by_one x (with_kept s k) ks (keeps_length k.id.replica k s ∙ long) (λ j d lt. all (suc j) d (omega arith))
      ∙ ap (λ y. fold g y ks) (one_more g any x k.id.replica k s (omega (arith, here, long)))

  pub whole : (x : X) (ks : List KeptCount) → AreOfReplicas ks → fold g x ks ≡ fold_kept g x (kept_by_replica ks)
  whole x ks all = sym (one_by_one x counter_start ks refl all)

one_each : ℕ → KeptCount → ℕ
one_each n k = n + 1

more_each : (n : ℕ) (ks : List KeptCount) → n ≤ fold one_each n ks
unfolding one_each
more_each n [] = omega arith
more_each n (k ∷ ks) = omega (arith, more_each (n + 1) ks)

pub none_kept : (ks : List KeptCount) → AreOfReplicas ks → kept_by_replica ks ≡ counter_start → length ks ≡ 0
unfolding one_each
none_kept [] all is = refl
none_kept (k ∷ ks) all is =
    let counted : fold one_each 0 (k ∷ ks) ≡ 0 = whole one_each (λ n a b. refl) 0 (k ∷ ks) all
    ∙ ap (fold_kept one_each 0) is in
    absurd (omega (arith, more_each 1 ks, counted))

pub is_start : (ks : List KeptCount) → length ks ≡ 0 → kept_by_replica ks ≡ counter_start
is_start [] none = refl
is_start (k ∷ ks) none = absurd (omega arith)

-- all amounts are no less than some and one more
pub amount_more : (ks : List KeptCount) (i : ℕ) (d : KeptCount) → i < length ks
    → total_kept (take i ks) + amount_of (get_or ks i d).does ≤ total_kept ks
amount_more ks i d lt =
    omega (
      arith,
      fold_more (λ n (k : KeptCount). n + amount_of k.does) 0 ks i d lt,
      sum_by-take-le (λ (k : KeptCount). amount_of k.does) ks (i + 1),
    )
