-- Bytes of a chunk that are handed on.
use Rattle.std.proofs.Common.{◌≡◌, ℕ, ◌+◌, ◌-◌, ◌≤◌, List, [], ◌++◌, length, take, drop, ap, sym, ◌∙◌}
use Rattle.std.proofs.Common.{append_assoc, length-drop, arith}
use Rattle.std.proofs.lemmas.List.{take-append-drop, drop-drop, drop_all, take_at, length-take-le}

-- some bytes are handed on, of those that were not
pub hands_on : (whole handed chunk copied rest : List ℕ) (taken n : ℕ) → whole ≡ handed ++ drop taken chunk
    → copied ≡ take n (drop taken chunk) → n ≤ length (drop taken chunk)
    → whole ≡ (handed ++ take n (copied ++ rest)) ++ drop (taken + n) chunk
hands_on whole handed chunk copied rest taken n was is within =
    let ahead = drop taken chunk in
    let front : take n (copied ++ rest) ≡ take n ahead =
    take_at copied rest n (ap length is ∙ length-take-le n ahead within) ∙ is in
    let back : drop (taken + n) chunk ≡ drop n ahead = sym (drop-drop n taken chunk) in
    rw (front, back)
    (was ∙ ap (λ (xs : List ℕ). handed ++ xs) (sym (take-append-drop n ahead))
    ∙ sym (append_assoc handed (take n ahead) (drop n ahead)))

-- where nothing is left, all was handed on
pub all_handed : (taken : ℕ) (chunk : List ℕ) → taken ≤ length chunk → drop taken chunk ≡ [] → taken ≡ length chunk
all_handed taken chunk within none =
    let no_length : length chunk - taken ≡ 0 = sym (length-drop taken chunk) ∙ ap length none in omega arith

pub none_left : (taken : ℕ) (chunk : List ℕ) → taken ≡ length chunk → drop taken chunk ≡ []
none_left taken chunk is = drop_all taken chunk (omega arith)
