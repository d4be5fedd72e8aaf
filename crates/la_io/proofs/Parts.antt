-- Parts of what is pending.
use Rattle.std.proofs.Common.{◌≡◌, ℕ, zero, suc, ◌+◌, ◌-◌, ◌≤◌, ◌<◌, Bool, true, false, List, [], ◌∷◌, ◌++◌, length, take, drop, get_or, refl, sym, subst, ap, ◌∙◌, arith, append-nil, take-append-drop, take_all, drop_of_length-le}
use Rattle.std.proofs.lemmas.List.{drop-take, take_more}
use Rattle.la_io.specs.Sources.{IsOneLine, IsPart}

drop-none : (n : ℕ) → drop {A = ℕ} n [] ≡ []
drop-none zero = refl
drop-none (suc n) = refl

pub drop-on : (a b : ℕ) (xs : List ℕ) → drop (a + b) xs ≡ drop b (drop a xs)
drop-on zero b xs = ap (λ n. drop n xs) {x = zero + b} {y = b} (omega arith)
drop-on (suc a) b [] = drop-none (suc a + b) ∙ sym (drop-none b)
drop-on (suc a) b (x ∷ xs) = ap (λ n. drop n (x ∷ xs)) {x = suc a + b} {y = suc (a + b)} (omega arith) ∙ drop-on a b xs

-- the bytes from a place to another, either way
pub rest-is : (start end : ℕ) (xs : List ℕ) → start ≤ end
    → drop start (take end xs) ≡ take (end - start) (drop start xs)
rest-is start end xs le =
    ap (λ n. drop start (take n xs)) {x = end} {y = start + (end - start)} (omega arith)
    ∙ drop-take start (end - start) xs

-- a line ends at a byte
pub ends_at : (bytes : List ℕ) (n : ℕ) → n < length bytes → IsOneLine (take n bytes) → get_or bytes n 0 ≡ 10
    → IsPart bytes (drop (n + 1) bytes) true (take n bytes)
ends_at bytes n lt one is = record {
  one = one;
  taken =
      sym (take-append-drop (n + 1) bytes)
      ∙ ap (λ t. t ++ drop (n + 1) bytes) (take_more bytes n 0 lt ∙ ap (λ b. take n bytes ++ b ∷ []) is);
  all = λ e. absurd cc;
}

-- and none does
pub ends_not : (bytes : List ℕ) (n m k : ℕ) → length bytes ≤ n → m ≡ length bytes → k ≡ length bytes
    → IsOneLine (take n bytes) → IsPart bytes (drop k bytes) false (take m bytes)
ends_not bytes n m k le im ik one =
    let all : take m bytes ≡ bytes = take_all m bytes (omega arith) in
    let none : drop k bytes ≡ [] = drop_of_length-le bytes {i = k} (omega arith) in
    record {
      one = subst IsOneLine (take_all n bytes le ∙ sym all) one;
      taken =
          sym all ∙ sym (append-nil (take m bytes)) ∙ ap (λ t. t ++ []) (sym (append-nil (take m bytes)))
          ∙ ap (λ t. (take m bytes ++ []) ++ t) (sym none);
      all = λ e. none;
    }

-- what is pending once a part is taken
pub part_taken : (xs rest : List ℕ) (start end behind : ℕ) (ended : Bool) (part : List ℕ) → start ≤ end
    → rest ≡ take (end - start) (drop start xs) → IsPart rest (drop behind rest) ended part
    → IsPart (drop start (take end xs)) (drop (start + behind) (take end xs)) ended part
part_taken xs rest start end behind ended part le is p =
    let pend : rest ≡ drop start (take end xs) = is ∙ sym (rest-is start end xs le) in
    let after : drop behind rest ≡ drop (start + behind) (take end xs) =
    ap (drop behind) pend ∙ sym (drop-on start behind (take end xs)) in
    subst (λ a. IsPart (drop start (take end xs)) a ended part) after
    (subst (λ b. IsPart b (drop behind rest) ended part) pend p)
