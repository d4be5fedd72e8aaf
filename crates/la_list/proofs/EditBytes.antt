-- What is done to a list comes back from what was submitted.
use Rattle.std.proofs.Common.{◌≡◌, ℕ, ◌<◌, ◌^◌, ◌==◌, nat_le, Bool, false, ◌&&◌, cond, List}
use Rattle.std.proofs.Common.{length, drop, slice_index, Option, Some, None, IfSome, Result, Ok, Err, IsOk, IfOk, refl, ap, ◌∙◌}
use Rattle.std.proofs.Common.{arith}
use Rattle.std.specs.Option.{option_and_then}
use Rattle.std.specs.Int.{w64, from_le_bytes}
use Rattle.std.proofs.lemmas.Bool.{le-leb, and_from}
use Rattle.std.proofs.lemmas.Nat.{from_le_bytes-to_le_bytes_8}
use Rattle.la_set.specs.declared.update.UpdateId.{UpdateId}
use Rattle.la_set.specs.declared.update.Op.{Op}
use Rattle.la_own.specs.declared.error.OwnError.{OwnError}
use Rattle.la_own.specs.Own.{AreOwnBytes, own, own_bytes_of}
use Rattle.la_list.specs.declared.op.ListOp.{ListOp}
use Rattle.la_list.specs.declared.op.ListOp.TheVariants.{Insert, Delete}
use Rattle.la_list.specs.ListBytes.{id_bytes, id_in, edit_bytes, edit_op, edit_read, edit_of}

-- what bytes say, by the three tests
abbrev said : List ℕ → Bool → Bool → Bool → Option ListOp
said bytes a b c =
    cond a (Some (Insert None (from_le_bytes w64 (drop 1 bytes)) (drop 9 bytes)))
    (cond b (Some (Insert (Some (id_in (drop 9 bytes))) (from_le_bytes w64 (drop 1 bytes)) (drop 14 bytes)))
    (cond c (Some (Delete (id_in (drop 1 bytes)))) None))

abbrev puts_behind : List ℕ → Bool
puts_behind bytes = nat_le 14 (length bytes) && (slice_index bytes 0 == 2)

abbrev takes : List ℕ → Bool
takes bytes = (length bytes == 6) && (slice_index bytes 0 == 3)

first_back : (stamp : ℕ) (value : List ℕ) → stamp < 2 ^ 64
    → edit_read (edit_bytes (Insert None stamp value)) ≡ Some (Insert None stamp value)
first_back stamp value fits =
    let bytes = edit_bytes (Insert None stamp value) in
    ap (λ a. said bytes a (puts_behind bytes) (takes bytes)) (and_from _ _ (le-leb 9 (length bytes) (omega arith)) refl)
    ∙ ap (λ n. Some (Insert None n value)) (from_le_bytes-to_le_bytes_8 stamp fits)

behind_back : (id : UpdateId) (stamp : ℕ) (value : List ℕ) → stamp < 2 ^ 64 → id_in (id_bytes id) ≡ id
    → edit_read (edit_bytes (Insert (Some id) stamp value)) ≡ Some (Insert (Some id) stamp value)
behind_back id stamp value fits back =
    let bytes = edit_bytes (Insert (Some id) stamp value) in
    ap (λ a. said bytes (a && (2 == 1)) (puts_behind bytes) (takes bytes)) (le-leb 9 (length bytes) (omega arith))
    ∙ ap (λ b. said bytes false b (takes bytes)) (and_from _ _ (le-leb 14 (length bytes) (omega arith)) refl)
    ∙ (λ i. Some (Insert (Some (back i)) (from_le_bytes-to_le_bytes_8 stamp fits i) value))

pub place_back : (behind : Option UpdateId) (stamp : ℕ) (value : List ℕ) → stamp < 2 ^ 64
    → IfSome behind (λ id. id_in (id_bytes id) ≡ id)
    → edit_read (edit_bytes (Insert behind stamp value)) ≡ Some (Insert behind stamp value)
place_back None stamp value fits back = first_back stamp value fits
place_back (Some id) stamp value fits back = behind_back id stamp value fits back

pub delete_back : (element : UpdateId) → id_in (id_bytes element) ≡ element
    → edit_read (edit_bytes (Delete element)) ≡ Some (Delete element)
delete_back element back = ap (λ id. Some (Delete id)) back

pub edit_back : ((bytes : List ℕ) → AreOwnBytes bytes → own_bytes_of (own bytes) ≡ Some bytes)
    → (does : ListOp) → edit_read (edit_bytes does) ≡ Some does
    → (r : Result Op OwnError) → (IsOk r → AreOwnBytes (edit_bytes does)) → IfOk r (λ op. op ≡ edit_op does)
    → IfOk r (λ op. edit_of op ≡ Some does)
unfolding edit_of
edit_back read does back (Ok op) fits is =
    ap (λ o. option_and_then edit_read (own_bytes_of o)) is
    ∙ ap (option_and_then edit_read) (read (edit_bytes does) (fits refl)) ∙ back
edit_back read does back (Err e) fits is = tt
