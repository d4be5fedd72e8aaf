-- What stands after mail was sent, or was not.
use Rattle.std.proofs.Common.{Result, Ok, Err, OnOk, OnErr}

pub either_way : {T E : Type 0} {A B C : Type 0} (r : Result T E) → OnOk r A → OnErr r B → (A → C) → (B → C) → C
either_way (Ok x) a b done left = done a
either_way (Err e) a b done left = left b

pub where_ok : {T E : Type 0} {A B : Type 0} (r : Result T E) → (A → B) → OnOk r A → OnOk r B
where_ok (Ok x) so a = so a
where_ok (Err e) so a = a
