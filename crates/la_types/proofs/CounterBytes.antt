-- What is done to counters comes back from what was submitted.
use Rattle.std.proofs.Common.{◌≡◌, ℕ, ◌<◌, ◌^◌, ◌==◌, nat_le, Bool, ◌&&◌, cond, List, length, drop, slice_index, Option}
use Rattle.std.proofs.Common.{Some, None, Result, Ok, Err, IsOk, IfOk, refl, ap, ◌∙◌, arith}
use Rattle.std.specs.Option.{option_and_then}
use Rattle.std.specs.Int.{w32, from_le_bytes}
use Rattle.std.proofs.lemmas.Bool.{le-leb, and_from}
use Rattle.std.proofs.lemmas.Nat.{from_le_bytes-to_le_bytes_4}
use Rattle.la_set.specs.declared.update.Op.{Op}
use Rattle.la_set.specs.declared.counts.Counts.{Counts}
use Rattle.la_own.specs.declared.error.OwnError.{OwnError}
use Rattle.la_own.specs.Own.{AreOwnBytes, own, own_bytes_of}
use Rattle.la_types.specs.declared.counter_map.CounterOp.{CounterOp}
use Rattle.la_types.specs.declared.counter_map.CounterOp.TheVariants.{Add, Reset}
use Rattle.la_types.specs.Bytes.{counts_bytes, counts_in, plain}
use Rattle.la_types.specs.CounterMaps.{counter_bytes, counter_op, counter_read, counter_of}
use Rattle.la_types.proofs.MultiBytes.{counts_behind}

abbrev reset_read : List ℕ → Bool → Option CounterOp
reset_read bytes b = cond b (Some (Reset (counts_in (drop 1 bytes)) (drop 33 bytes))) None

abbrev read_by : List ℕ → Bool → Bool → Option CounterOp
read_by bytes a b = cond a (Some (Add (from_le_bytes w32 (drop 1 bytes)) (drop 5 bytes))) (reset_read bytes b)

abbrev is_add : List ℕ → Bool
is_add bytes = nat_le 5 (length bytes) && (slice_index bytes 0 == 1)

abbrev is_reset : List ℕ → Bool
is_reset bytes = nat_le 33 (length bytes) && (slice_index bytes 0 == 2)

pub add_back : (amount : ℕ) (key : List ℕ) → amount < 2 ^ 32
    → counter_read (counter_bytes (Add amount key)) ≡ Some (Add amount key)
add_back amount key fits =
    let bytes = counter_bytes (Add amount key) in
    ap (λ a. read_by bytes a (is_reset bytes)) (and_from _ _ (le-leb 5 (length bytes) (omega arith)) refl)
    ∙ ap (λ n. Some (Add n key)) (from_le_bytes-to_le_bytes_4 amount fits)

pub reset_back : (seen : Counts) (key : List ℕ) → counts_in (counts_bytes seen) ≡ plain seen
    → counter_read (counter_bytes (Reset seen key)) ≡ Some (Reset (plain seen) key)
reset_back seen key back =
    let bytes = counter_bytes (Reset seen key) in
    ap (λ a. read_by bytes (a && (2 == 1)) (is_reset bytes)) (le-leb 5 (length bytes) (omega arith))
    ∙ ap (reset_read bytes) (and_from _ _ (le-leb 33 (length bytes) (omega arith)) refl)
    ∙ ap (λ counts. Some (Reset counts key)) (counts_behind seen key ∙ back)

pub counter_back : ((bytes : List ℕ) → AreOwnBytes bytes → own_bytes_of (own bytes) ≡ Some bytes)
    → (does other : CounterOp) → counter_read (counter_bytes does) ≡ Some other
    → (r : Result Op OwnError) → (IsOk r → AreOwnBytes (counter_bytes does)) → IfOk r (λ op. op ≡ counter_op does)
    → IfOk r (λ op. counter_of op ≡ Some other)
unfolding counter_of
counter_back read does other back (Ok op) fits is =
    ap (λ o. option_and_then counter_read (own_bytes_of o)) is
    ∙ ap (option_and_then counter_read) (read (counter_bytes does) (fits refl)) ∙ back
counter_back read does other back (Err e) fits is = tt
