-- Whether what stands behind the groups is damage, as a truth value.
use Rattle.std.proofs.Common.{◌≡◌, ◌⊎◌, inl, inr, arith, ℕ, zero, suc, ◌≤◌, Bool, true, false, List, [], ◌∷◌, refl, sym, ◌∙◌, ap, length, take, reverse}
use Rattle.std.specs.Prelude.{◌==◌, ◌||◌}
use Rattle.std.proofs.lemmas.Bool.{false≢true}
use Rattle.std.proofs.lemmas.Bool.Decides.{nat_tests}
use Rattle.la_journal.specs.Lines.{file_of}
use Rattle.la_journal.specs.Commits.{same_bytes, is_record}
use Rattle.la_journal.specs.Records.{record_of, ended, stated_link, IsRecordOfLast, RecordStands, IsRunOn, IsGroupDamage, any_up_to, is_record_of_last, record_stands, is_run_on, is_damage}
use Rattle.la_journal.proofs.Recorded.{same_self}
use Rattle.la_journal.proofs.TornRecords.{same_are, either}

one_of : (a b : Bool) → (a || b) ≡ true → (a ≡ true) ⊎ (b ≡ true)
one_of true b is = inl refl
one_of false b is = inr is

first_is : (a b : Bool) → a ≡ true → (a || b) ≡ true
first_is a b is = ap (λ (c : Bool). c || b) is

second_is : (a b : Bool) → b ≡ true → (a || b) ≡ true
second_is true b is = refl
second_is false b is = is

any_is : (n k : ℕ) (is : ℕ → Bool) → k ≤ n → is k ≡ true → any_up_to n is ≡ true
any_is zero k is le so = ap is (omega arith) ∙ so
any_is (suc n) k is le so = elim (either (k == suc n)) [
  | inl same ↦ first_is (is (suc n)) (any_up_to n is) (ap is (sym (equal k (suc n) same)) ∙ so)
  | inr less ↦ second_is (is (suc n)) (any_up_to n is) (any_is n k is (before k n le less) so)
]
  where
    equal : (k n : ℕ) → (k == n) ≡ true → k ≡ n
    equal k n is = grind (arith, nat_tests)

    before : (k n : ℕ) → k ≤ suc n → (k == suc n) ≡ false → k ≤ n
    before k n le is = grind (arith, nat_tests)

some_is : (n : ℕ) (is : ℕ → Bool) → any_up_to n is ≡ true → (k : ℕ) × (k ≤ n) × (is k ≡ true)
some_is zero is so = (0, omega arith, so)
some_is (suc n) is so = elim (one_of (is (suc n)) (any_up_to n is) so) [
  | inl last ↦ (suc n, omega arith, last)
  | inr before ↦ let at = some_is n is before in (at.0, omega (arith, at.1), at.2)
]

record_is : (before : List (List ℕ)) (line : List ℕ) → IsRecordOfLast before line → is_record_of_last before line ≡ true
record_is before line is =
    any_is (length before) is.0 _ is.1 (ap (same_bytes line) (sym is.2) ∙ same_self line)

is_of_last : (before : List (List ℕ)) (line : List ℕ) → is_record_of_last before line ≡ true
    → IsRecordOfLast before line
is_of_last before line so =
    let at = some_is (length before) _ so in
    (at.0, at.1, same_are line (record_of at.0 (stated_link line) (file_of (reverse (take at.0 before)))) at.2)

stands_is : (before ls : List (List ℕ)) → RecordStands before ls → record_stands before ls ≡ true
stands_is before [] is = absurd is
stands_is before (line ∷ rest) (inl is) =
    first_is (is_record_of_last before line) (record_stands (line ∷ before) rest) (record_is before line is)
stands_is before (line ∷ rest) (inr is) =
    second_is (is_record_of_last before line) (record_stands (line ∷ before) rest) (stands_is (line ∷ before) rest is)

it_stands : (before ls : List (List ℕ)) → record_stands before ls ≡ true → RecordStands before ls
it_stands before [] so = absurd (false≢true so)
it_stands before (line ∷ rest) so =
    elim (one_of (is_record_of_last before line) (record_stands (line ∷ before) rest) so) [
      | inl last ↦ inl (is_of_last before line last)
      | inr later ↦ inr (it_stands (line ∷ before) rest later)
    ]

run_is : (ls : List (List ℕ)) → IsRunOn ls → is_run_on ls ≡ true
run_is [] is = absurd is
run_is (line ∷ []) is = absurd is
run_is (line ∷ next ∷ rest) (inl is) = first_is (is_record line) (is_run_on (next ∷ rest)) is
run_is (line ∷ next ∷ rest) (inr is) =
    second_is (is_record line) (is_run_on (next ∷ rest)) (run_is (next ∷ rest) is)

it_runs : (ls : List (List ℕ)) → is_run_on ls ≡ true → IsRunOn ls
it_runs [] so = absurd (false≢true so)
it_runs (line ∷ []) so = absurd (false≢true so)
it_runs (line ∷ next ∷ rest) so = elim (one_of (is_record line) (is_run_on (next ∷ rest)) so) [
  | inl begins ↦ inl begins
  | inr later ↦ inr (it_runs (next ∷ rest) later)
]

pub damage : (tail : List ℕ) → IsGroupDamage tail → is_damage tail ≡ true
damage tail (inl stands) =
    first_is (record_stands [] (ended tail)) (is_run_on (ended tail)) (stands_is [] (ended tail) stands)
damage tail (inr runs) =
    second_is (record_stands [] (ended tail)) (is_run_on (ended tail)) (run_is (ended tail) runs)

it_is_damage : (tail : List ℕ) → is_damage tail ≡ true → IsGroupDamage tail
it_is_damage tail so = elim (one_of (record_stands [] (ended tail)) (is_run_on (ended tail)) so) [
  | inl stands ↦ inl (it_stands [] (ended tail) stands)
  | inr runs ↦ inr (it_runs (ended tail) runs)
]

pub no_damage : (tail : List ℕ) → (IsGroupDamage tail → ⊥) → is_damage tail ≡ false
no_damage tail not = elim (either (is_damage tail)) [
  | inl is ↦ absurd (not (it_is_damage tail is))
  | inr is ↦ is
]
