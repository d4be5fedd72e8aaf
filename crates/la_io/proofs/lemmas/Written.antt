-- What is written part by part.
use Rattle.std.proofs.Common.{ℕ, ◌+◌, ◌-◌, arith, Some, None, List, ◌++◌, length, take, drop, Option, ap, sym, ◌∙◌, subst}
use Rattle.std.specs.Io.KnownBytes.{Appends, Keeps}
use Rattle.std.proofs.Math.Seq.{take-add}
use Rattle.std.proofs.lemmas.List.{take_rest, take_all, append-nil}
use Rattle.std.proofs.KnownBytes.{Appends-trans, Appends-kept}
use Rattle.la_io.specs.Streams.{AppendsPrefix}

-- what is written after the first d bytes
pub written_more : (a b c : Option (List ℕ)) (bytes : List ℕ) (d n : ℕ) → Appends a b (take d bytes)
    → Appends b c (take n (take (length bytes - d) (drop d bytes))) → Appends a c (take (d + n) bytes)
written_more a b c bytes d n p q =
    subst (Appends a c) (ap (λ l. take d bytes ++ take n l) (take_rest bytes d) ∙ sym (take-add d n bytes))
    (Appends-trans a b c _ _ p q)

-- no byte was written
pub kept_by_none : (a b : Option (List ℕ)) (xs : List ℕ) → Appends a b (take 0 xs) → Keeps a b
kept_by_none None b xs p = tt
kept_by_none (Some x) None xs p = absurd p
kept_by_none (Some x) (Some y) xs p = p ∙ append-nil x

-- all of the bytes are a front of them
pub prefix_all : (a b : Option (List ℕ)) (xs : List ℕ) → Appends a b xs → AppendsPrefix a b xs
prefix_all a b xs p = (length xs, subst (Appends a b) (sym (take_all (length xs) xs (omega arith))) p)

pub kept_all : (a b c : Option (List ℕ)) (xs : List ℕ) → Appends a b xs → Keeps b c → Appends a c xs
kept_all = Appends-kept
