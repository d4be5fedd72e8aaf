-- What a line has, where something was put behind it.
use Rattle.std.proofs.Common.{◌≡◌, ℕ, List, Result, Ok, Err, OnOk}
use Rattle.std.specs.Prelude.{if◌then◌else◌}
use Rattle.std.specs.Result.{is_ok}

pub put_behind : {T E : Type 0} (r : Result T E) (now put old : List ℕ) → now ≡ (if is_ok r then put else old)
    → OnOk r (now ≡ put)
put_behind (Ok x) now put old is = is
put_behind (Err e) now put old is = tt
