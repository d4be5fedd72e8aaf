-- An interval doubles.
use Rattle.std.proofs.Common.{◌≡◌, ℕ, ◌+◌, ◌-◌, ◌*◌, ◌^◌, ◌<◌, min, max, sym, add-one, mul_assoc, arith}
use Rattle.std.proofs.Math.Nat.{pow-suc}
use Rattle.la_tick.specs.Paces.{interval}

twice : (f n : ℕ) → f * 2 ^ (n + 1) ≡ (f * 2 ^ n) * 2
twice f n = rw add-one (rw pow-suc (sym (mul_assoc f (2 ^ n) 2)))

below : (x y m now : ℕ) → y ≡ x * 2 → now ≡ min x m → m < 2 ^ 64 → min (min (now * 2) (2 ^ 64 - 1)) m ≡ min y m
below x y m now double is fits = omega arith

pub doubles : (f n now : ℕ) → max f 60000 < 2 ^ 64 → now ≡ interval f n
    → min (min (now * 2) (2 ^ 64 - 1)) (max f 60000) ≡ interval f (n + 1)
doubles f n now fits is = below (f * 2 ^ n) (f * 2 ^ (n + 1)) (max f 60000) now (twice f n) is fits
