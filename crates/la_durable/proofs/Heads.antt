-- Votes that are written one after another.
use Rattle.std.proofs.Common.{◌≡◌, ℕ, zero, suc, ◌+◌, List, [], ◌∷◌, ◌++◌, drop, Some, ◌∙◌, sym, ap}
use Rattle.std.proofs.Common.{append_assoc, arith}
use Rattle.std.specs.Fmt.{decimal}
use Rattle.std.specs.List.{slice_get}
use Rattle.std.proofs.lemmas.Option.{none-some, same_Some}
use Rattle.la_script.specs.Text.{spaced_text}

-- the next number of those that are left
next_number : (ns : List ℕ) (k n : ℕ) → slice_get ns k ≡ Some n
    → spaced_text (drop k ns) ≡ (32 ∷ decimal n) ++ spaced_text (drop (k + 1) ns)
next_number [] k n got = absurd (none-some n got)
next_number (m ∷ ns) zero n got = ap (λ z. (32 ∷ decimal z) ++ spaced_text ns) (same_Some m n got)
next_number (m ∷ ns) (suc k) n got =
    next_number ns k n got
    ∙ ap (λ i. (32 ∷ decimal n) ++ spaced_text (drop i (m ∷ ns))) {x = suc (k + 1)} {y = suc k + 1} (omega arith)

-- a number that is written leaves the others to be written
pub put_next : (ns : List ℕ) (k n : ℕ) (before after all : List ℕ) → slice_get ns k ≡ Some n
    → after ≡ before ++ 32 ∷ decimal n → before ++ spaced_text (drop k ns) ≡ all
    → after ++ spaced_text (drop (k + 1) ns) ≡ all
put_next ns k n before after all got is so_far =
    ap (λ bytes. bytes ++ spaced_text (drop (k + 1) ns)) is
    ∙ append_assoc before (32 ∷ decimal n) (spaced_text (drop (k + 1) ns))
    ∙ ap (λ bytes. before ++ bytes) (sym (next_number ns k n got))
    ∙ so_far
