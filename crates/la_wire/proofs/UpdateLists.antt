-- Updates that are read one after another, and parts that are written so.
use Rattle.std.proofs.Common.{◌≡◌, ℕ, zero, suc, ◌+◌, ◌<◌, List, [], ◌∷◌, ◌++◌, take, drop, map, Some}
use Rattle.std.proofs.Common.{◌∙◌, Ok, Err, Result, refl, sym, ap, append_assoc, arith, ◌≤◌, length, subst, All}
use Rattle.std.specs.Fmt.{decimal}
use Rattle.std.specs.List.{slice_get}
use Rattle.std.proofs.lemmas.List.{take_all}
use Rattle.std.proofs.lemmas.List.Elements.{All-nil, All-cons, All-head, All-tail}
use Rattle.std.proofs.lemmas.Option.{none-some, same_Some}
use Rattle.la_set.specs.declared.counts.Counts.{Counts}
use Rattle.la_set.specs.Counts.{count_in}
use Rattle.la_wire.specs.declared.error.LineFault.{LineFault}
use Rattle.la_wire.specs.Joined.{spaced}
use Rattle.la_wire.specs.Readings.{◌>>=◌}
use Rattle.la_wire.specs.Updates.{made}
use Rattle.la_wire.specs.MessageLines.{count_words}

-- one more in front of those that are left
pub goes_on : {A : Type 0} (us : List A) (u : A) (rest : Result (List A) LineFault)
    → made (λ more. us ++ more) (rest >>= (λ more. Ok (u ∷ more))) ≡ made (λ more. (us ++ u ∷ []) ++ more) rest
goes_on us u (Ok more) = ap Ok (sym (append_assoc us (u ∷ []) more))
goes_on us u (Err fault) = refl

-- the next count
pub next_count : (c : Counts) (r : ℕ) → r < 8
    → drop r (count_words c) ≡ decimal (count_in c r) ∷ drop (r + 1) (count_words c)
next_count c zero lt = refl
next_count c (suc zero) lt = refl
next_count c (suc (suc zero)) lt = refl
next_count c (suc (suc (suc zero))) lt = refl
next_count c (suc (suc (suc (suc zero)))) lt = refl
next_count c (suc (suc (suc (suc (suc zero))))) lt = refl
next_count c (suc (suc (suc (suc (suc (suc zero)))))) lt = refl
next_count c (suc (suc (suc (suc (suc (suc (suc zero))))))) lt = refl
next_count c (suc (suc (suc (suc (suc (suc (suc (suc r)))))))) lt = absurd (omega arith)

-- the next part of those that are left
next_part : {A : Type 0} (byte : ℕ) (f : A → List ℕ) (xs : List A) (k : ℕ) (x : A) → slice_get xs k ≡ Some x
    → spaced byte (map f (drop k xs)) ≡ (byte ∷ f x) ++ spaced byte (map f (drop (k + 1) xs))
next_part byte f [] k x got = absurd (none-some x got)
next_part byte f (y ∷ xs) zero x got = ap (λ z. (byte ∷ f z) ++ spaced byte (map f xs)) (same_Some y x got)
next_part byte f (y ∷ xs) (suc k) x got =
    next_part byte f xs k x got
    ∙ ap (λ n. (byte ∷ f x) ++ spaced byte (map f (drop n (y ∷ xs)))) {x = suc (k + 1)} {y = suc k + 1} (omega arith)

-- some parts, and then others
pub spaced_append : (byte : ℕ) (xs ys : List (List ℕ)) → spaced byte (xs ++ ys) ≡ spaced byte xs ++ spaced byte ys
spaced_append byte [] ys = refl
spaced_append byte (x ∷ xs) ys =
    ap (λ t. byte ∷ x ++ t) (spaced_append byte xs ys)
    ∙ ap (λ t. byte ∷ t) (sym (append_assoc x (spaced byte xs) (spaced byte ys)))

-- a part that is written leaves the others to be written
pub put_next : {A : Type 0} (byte : ℕ) (f : A → List ℕ) (xs : List A) (k : ℕ) (x : A) (before after all : List ℕ)
    → slice_get xs k ≡ Some x → after ≡ before ++ byte ∷ f x → before ++ spaced byte (map f (drop k xs)) ≡ all
    → after ++ spaced byte (map f (drop (k + 1) xs)) ≡ all
put_next byte f xs k x before after all got is so_far =
    ap (λ bytes. bytes ++ spaced byte (map f (drop (k + 1) xs))) is
    ∙ append_assoc before (byte ∷ f x) (spaced byte (map f (drop (k + 1) xs)))
    ∙ ap (λ bytes. before ++ bytes) (sym (next_part byte f xs k x got))
    ∙ so_far

-- ## What has been written so far

one_further : {A : Type 0} (P : A → Type 0) (xs : List A) (k : ℕ) (x : A) → slice_get xs k ≡ Some x → P x
    → All P (take k xs) → All P (take (suc k) xs)
one_further P [] k x got is all = absurd (none-some x got)
one_further P (y ∷ xs) zero x got is all = All-cons P y [] (subst P (sym (same_Some y x got)) is) (All-nil P)
one_further P (y ∷ xs) (suc k) x got is all =
    All-cons P y (take (suc k) xs) (All-head P y (take k xs) all)
    (one_further P xs k x got is (All-tail P y (take k xs) all))

-- one more element
pub one_more : {A : Type 0} (P : A → Type 0) (xs : List A) (k : ℕ) (x : A) → slice_get xs k ≡ Some x → P x
    → All P (take k xs) → All P (take (k + 1) xs)
one_more P xs k x got is all =
    let e : suc k ≡ k + 1 = omega arith in
    subst (λ n. All P (take n xs)) e (one_further P xs k x got is all)

-- and all of them
pub all_of : {A : Type 0} (P : A → Type 0) (xs : List A) (k : ℕ) → length xs ≤ k → All P (take k xs) → All P xs
all_of P xs k le all = subst (All P) (take_all k xs le) all
