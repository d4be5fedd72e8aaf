-- An element comes back from what was submitted, and what other operations are read as.
use Rattle.std.proofs.Common.{◌≡◌, ℕ, ◌==◌, nat_le, Bool, true, false, ◌&&◌, cond, List, ◌∷◌, length, drop}
use Rattle.std.proofs.Common.{slice_index, Some, None, Result, Ok, Err, IsOk, IfOk, refl, ap, sym, ◌∙◌, arith}
use Rattle.std.specs.Option.{option_and_then}
use Rattle.std.proofs.lemmas.Bool.{le-leb, and_parts, eqb-true}
use Rattle.la_set.specs.declared.update.Op.{Op}
use Rattle.la_own.specs.declared.error.OwnError.{OwnError}
use Rattle.la_own.specs.Own.{AreOwnBytes, own, own_bytes_of}
use Rattle.la_types.specs.Elements.{element_behind, first_byte_is, element_by}

pub no_bytes : (first : ℕ) (op : Op) → None ≡ own_bytes_of op → element_by first op ≡ None
unfolding element_by
no_bytes first op none = ap (option_and_then (element_behind first)) (sym none)

pub by_first : (first : ℕ) (op : Op) (bytes : List ℕ) (b : Bool) → Some bytes ≡ own_bytes_of op
    → first_byte_is bytes first ≡ b → element_by first op ≡ cond b (Some (drop 1 bytes)) None
unfolding element_by
by_first first op bytes b is e =
    ap (option_and_then (element_behind first)) (sym is) ∙ ap (λ t. cond t (Some (drop 1 bytes)) None) e

-- what an operation with this first byte is read as, where another or the same is asked for
pub element_back : ((bytes : List ℕ) → AreOwnBytes bytes → own_bytes_of (own bytes) ≡ Some bytes)
    → (first asked : ℕ) (b : Bool) → (first == asked) ≡ b → (element : List ℕ)
    → (r : Result Op OwnError) → (IsOk r → AreOwnBytes (first ∷ element)) → IfOk r (λ op. op ≡ own (first ∷ element))
    → IfOk r (λ op. element_by asked op ≡ cond b (Some element) None)
element_back read first asked b same element (Ok op) fits is =
    by_first asked op (first ∷ element) b
    (sym (ap own_bytes_of is ∙ read (first ∷ element) (fits refl)))
    (ap (λ t. t && (first == asked)) (le-leb 1 (length (first ∷ element)) (omega arith)) ∙ same)
element_back read first asked b same element (Err e) fits is = tt

-- what begins with one byte begins with no other
pub not_both : (bytes : List ℕ) → first_byte_is bytes 1 ≡ true → first_byte_is bytes 2 ≡ false
not_both bytes is =
    let parts = and_parts _ _ is in
    ap (λ b. nat_le 1 (length bytes) && b) (ap (λ n. n == 2) (eqb-true (slice_index bytes 0) 1 parts.1))
    ∙ and_false (nat_le 1 (length bytes))
  where
    and_false : (a : Bool) → (a && false) ≡ false
    and_false true = refl
    and_false false = refl
