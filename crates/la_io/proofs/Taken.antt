-- What is read part by part.
use Rattle.std.proofs.Common.{◌≡◌, ℕ, ◌+◌, ◌≤◌, List, ◌++◌, length, Option, arith}
use Rattle.std.specs.Io.KnownBytes.{Consumes, Keeps}
use Rattle.std.proofs.KnownBytes.{Consumes-trans, Consumes-kept}
use Rattle.std.proofs.lemmas.List.{length-append}
use Rattle.la_io.specs.Streams.{TakesBytes, TakesAtMost}

-- what was read so far, and then a part
pub reads_on : (a b c : Option (List ℕ)) (xs ys : List ℕ) → Consumes a b xs → Consumes b c ys → Consumes a c (xs ++ ys)
reads_on = Consumes-trans

pub takes : (n : ℕ) (a b : Option (List ℕ)) (xs : List ℕ) → Consumes a b xs → length xs ≤ n → TakesAtMost n a b
takes n a b xs p le = (xs, p, le)

-- a part more, within what is allowed
pub takes_more : (n : ℕ) (a b c : Option (List ℕ)) (xs ys : List ℕ) → Consumes a b xs → Consumes b c ys
    → length xs + length ys ≤ n → TakesAtMost n a c
takes_more n a b c xs ys p q le = (xs ++ ys, Consumes-trans a b c xs ys p q, omega (arith, length-append xs ys))

-- a part more, just what is allowed
pub takes_so_many : (n : ℕ) (a b c : Option (List ℕ)) (xs ys : List ℕ) → Consumes a b xs → Consumes b c ys
    → length xs + length ys ≡ n → TakesBytes n a c
takes_so_many n a b c xs ys p q e = (xs ++ ys, Consumes-trans a b c xs ys p q, omega (arith, length-append xs ys))

-- nothing more, since the read failed
pub takes_no_more : (n : ℕ) (a b c : Option (List ℕ)) (xs : List ℕ) → Consumes a b xs → Keeps b c → length xs ≤ n
    → TakesAtMost n a c
takes_no_more n a b c xs p q le = (xs, Consumes-kept a b c xs p q, le)

-- what a read adds to what was taken
pub ruleset reads = (takes_no_more, takes, takes_more, takes_so_many, reads_on)
