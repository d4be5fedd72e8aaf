-- A write that says what was seen comes back from what was submitted, and what other operations are
-- read as.
use Rattle.std.proofs.Common.{◌≡◌, ℕ, suc, zero, ◌+◌, ◌<◌, ◌≤◌, Bool, cond, List, [], ◌∷◌, ◌++◌, length, drop, get_or}
use Rattle.std.proofs.Common.{replicate, Option, Some, None, Result, Ok, Err, IsOk, IfOk, refl, ap, sym, ◌∙◌, arith}
use Rattle.std.proofs.Common.{true≢false}
use Rattle.std.specs.Bool.{Decides}
use Rattle.std.specs.Option.{option_and_then, is_some, option_eq}
use Rattle.std.specs.List.{filter_map, cons_option, range_with_len}
use Rattle.std.specs.Cmp.Lexicographic.{pointwise}
use Rattle.std.proofs.lemmas.Bool.{le-leb, lt-leb}
use Rattle.std.proofs.lemmas.List.Elements.{filter_map-append}
use Rattle.std.proofs.lemmas.List.FromFn.{fill_by_all}
use Rattle.la_set.specs.declared.update.Op.{Op}
use Rattle.la_set.specs.declared.counts.Counts.{Counts}
use Rattle.la_set.specs.Counts.{from_counts}
use Rattle.la_own.specs.declared.error.OwnError.{OwnError}
use Rattle.la_own.specs.Own.{AreOwnBytes, own, own_bytes_of}
use Rattle.la_types.specs.Bytes.{counts_bytes, counts_in, plain}
use Rattle.la_types.specs.Multis.{multi_bytes, multi_op, multi_read, multi_of}
use Rattle.la_types.proofs.CountBytes.{range_more}

module _ (op : Op) where
  pub not_own : None ≡ own_bytes_of op → multi_of op ≡ None
  unfolding multi_of
  not_own none = ap (option_and_then multi_read) (sym none)

  pub too_short : (bytes : List ℕ) → Some bytes ≡ own_bytes_of op → length bytes < 32 → multi_of op ≡ None
  unfolding multi_of
  too_short bytes is short =
      ap (option_and_then multi_read) (sym is)
      ∙ ap (λ b. cond b (Some (counts_in bytes, drop 32 bytes)) None) (lt-leb 32 (length bytes) short)

  pub is_multi : (bytes : List ℕ) → Some bytes ≡ own_bytes_of op → 32 ≤ length bytes
      → multi_of op ≡ Some (counts_in bytes, drop 32 bytes)
  unfolding multi_of
  is_multi bytes is long =
      ap (option_and_then multi_read) (sym is)
      ∙ ap (λ b. cond b (Some (counts_in bytes, drop 32 bytes)) None) (le-leb 32 (length bytes) long)

pub counts_behind : (seen : Counts) (value : List ℕ)
    → counts_in (counts_bytes seen ++ value) ≡ counts_in (counts_bytes seen)
unfolding from_counts
counts_behind seen value = refl

pub multi_back : ((bytes : List ℕ) → AreOwnBytes bytes → own_bytes_of (own bytes) ≡ Some bytes)
    → (seen : Counts) (value : List ℕ) → counts_in (counts_bytes seen) ≡ plain seen
    → (r : Result Op OwnError) → (IsOk r → AreOwnBytes (multi_bytes seen value))
    → IfOk r (λ op. op ≡ multi_op seen value)
    → IfOk r (λ op. multi_of op ≡ Some (plain seen, value))
multi_back read seen value back (Ok op) own_bytes is =
    is_multi op (multi_bytes seen value) (sym (ap own_bytes_of is
    ∙ read (multi_bytes seen value) (own_bytes refl))) (omega arith)
    ∙ ap (λ counts. Some (counts, value)) (counts_behind seen value ∙ back)
multi_back read seen value back (Err e) own_bytes is = tt

-- ## Lists of eight

pub none_there : {X : Type 0} (E : X → X → Bool) (n : ℕ) (os : List (Option X))
    → Decides (pointwise (option_eq E) os (replicate n None)) (os ≡ replicate n None)
none_there E zero [] = ((λ e. refl), (λ e. refl))
none_there E zero (x ∷ os) = ((λ e. absurd (true≢false (sym e))), (λ e. absurd (omega (arith, ap length e))))
none_there E (suc n) [] = ((λ e. absurd (true≢false (sym e))), (λ e. absurd (omega (arith, ap length e))))
none_there E (suc n) (Some x ∷ os) =
    ((λ e. absurd (true≢false (sym e))), (λ e. absurd (true≢false (ap (λ all. is_some (get_or all 0 None)) e))))
none_there E (suc n) (None ∷ os) =
    let rest = none_there E n os in ((λ e. ap (λ all. None ∷ all) (rest.0 e)), (λ e. rest.1 (ap (drop 1) e)))

pub eight_of : {X : Type 0} (xs : List X) (d : X) → length xs ≡ 8
    → get_or xs 0 d ∷ get_or xs 1 d ∷ get_or xs 2 d ∷ get_or xs 3 d ∷ get_or xs 4 d ∷ get_or xs 5 d ∷ get_or xs 6 d
    ∷ get_or xs 7 d ∷ [] ≡ xs
eight_of xs d long = sym (fill_by_all (λ k. get_or xs k d) xs 8 d long (λ k lt. refl))

-- ## One more

pub range_filter_more : {Y : Type 0} (f : ℕ → Option Y) (r : ℕ)
    → filter_map f (range_with_len 0 (r + 1)) ≡ filter_map f (range_with_len 0 r) ++ cons_option (f r) []
range_filter_more f r =
    ap (λ n. filter_map f (range_with_len 0 n)) {x = r + 1} {y = suc r} (omega arith)
    ∙ ap (filter_map f) (range_more 0 r ∙ ap (λ j. range_with_len 0 r ++ j ∷ []) {x = 0 + r} {y = r} (omega arith))
    ∙ filter_map-append f (range_with_len 0 r) (r ∷ [])
