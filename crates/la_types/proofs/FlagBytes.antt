-- A flag's operation comes back from what was submitted.
use Rattle.std.proofs.Common.{◌≡◌, List, ℕ, Some, Result, Ok, Err, IsOk, IfOk, refl, ap, ◌∙◌}
use Rattle.std.specs.Option.{option_and_then}
use Rattle.la_set.specs.declared.update.Op.{Op}
use Rattle.la_own.specs.declared.error.OwnError.{OwnError}
use Rattle.la_own.specs.Own.{AreOwnBytes, own, own_bytes_of}
use Rattle.la_types.specs.declared.flag.FlagOp.{FlagOp}
use Rattle.la_types.specs.Flags.{flag_bytes, flag_read, flag_op, flag_of, plain_flag_op}

pub op_back : ((bytes : List ℕ) → AreOwnBytes bytes → own_bytes_of (own bytes) ≡ Some bytes)
    → (does : FlagOp) → flag_read (flag_bytes does) ≡ Some (plain_flag_op does)
    → (r : Result Op OwnError) → (IsOk r → AreOwnBytes (flag_bytes does)) → IfOk r (λ op. op ≡ flag_op does)
    → IfOk r (λ op. flag_of op ≡ Some (plain_flag_op does))
unfolding flag_of
op_back read does back (Ok op) fits is =
    ap (λ o. option_and_then flag_read (own_bytes_of o)) is
    ∙ ap (option_and_then flag_read) (read (flag_bytes does) (fits refl)) ∙ back
op_back read does back (Err e) fits is = tt
