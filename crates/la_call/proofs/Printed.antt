-- A line's bytes, and then its end.
use Rattle.std.proofs.Common.{◌≡◌, ℕ, List, ◌++◌, Option, Result, Ok, Err, OnOk, OnErr, IfErr, subst, sym}
use Rattle.std.specs.Io.KnownBytes.{Appends}
use Rattle.la_io.specs.Streams.{AppendsPrefix}
use Rattle.la_io.proofs.lemmas.Fronts.{prefix_behind}

pub prefix_then : {T E : Type 0} (r : Result T E) (a b c : Option (List ℕ)) (xs ys : List ℕ) → Appends a b xs
    → OnErr r (AppendsPrefix b c ys) → OnErr r (AppendsPrefix a c (xs ++ ys))
prefix_then (Ok x) a b c xs ys p q = tt
prefix_then (Err e) a b c xs ys p q = prefix_behind a b c xs ys p q

-- what holds of a fault, where it is this one
pub if_err : {T E : Type 0} (P : E → Type 0) (f : E) (r : Result T E) → IfErr r (λ e. e ≡ f) → P f → IfErr r P
if_err P f (Ok x) is p = tt
if_err P f (Err e) is p = subst P (sym is) p

pub if_ok : {T E : Type 0} {P : Type 0} (r : Result T E) → P → OnOk r P
if_ok (Ok x) p = p
if_ok (Err e) p = tt
