-- What was written is a front of more.
use Rattle.std.proofs.Common.{◌≡◌, ℕ, ◌+◌, ◌≤◌, min, refl, arith, List, ◌++◌, length, take, drop, Option, ap, sym, ◌∙◌, subst}
use Rattle.std.specs.Io.KnownBytes.{Appends}
use Rattle.std.proofs.Math.Seq.{take-add}
use Rattle.std.proofs.lemmas.List.{take_at, take_min, drop_at, take-append-le}
use Rattle.std.proofs.KnownBytes.{Appends-trans}
use Rattle.la_io.specs.Streams.{AppendsPrefix}

-- a front of the first bytes is one of more
pub prefix_more : (a b : Option (List ℕ)) (xs more : List ℕ) → AppendsPrefix a b xs → AppendsPrefix a b (xs ++ more)
prefix_more a b xs more (n, p) =
    let within : min n (length xs) ≤ length xs = omega arith in
    (min n (length xs), subst (Appends a b) (sym (take-append-le (min n (length xs)) xs more within ∙ take_min n xs)) p)

-- some bytes, and then a front of others
pub prefix_behind : (a b c : Option (List ℕ)) (xs ys : List ℕ) → Appends a b xs → AppendsPrefix b c ys
    → AppendsPrefix a c (xs ++ ys)
prefix_behind a b c xs ys p (n, q) =
    (length xs + n, subst (Appends a c) (sym (take_behind xs ys n)) (Appends-trans a b c xs (take n ys) p q))
  where
    take_behind : (xs ys : List ℕ) (n : ℕ) → take (length xs + n) (xs ++ ys) ≡ xs ++ take n ys
    take_behind xs ys n =
        take-add (length xs) n (xs ++ ys)
        ∙ ap (λ t. t ++ take n (drop (length xs) (xs ++ ys))) (take_at xs ys (length xs) refl)
        ∙ ap (λ t. xs ++ take n t) (drop_at xs ys (length xs) refl)
