-- What is found in the rows of one replica, and what an edit of them does to it.
use Rattle.std.proofs.Common.{◌≡◌, ℕ, zero, suc, ◌+◌, ◌-◌, ◌<◌, ◌≤◌, eqb, ◌≢◌, Bool, true, false, List, [], ◌∷◌, length, get_or, set, if◌then◌else◌, Some, None, is_some, Result, Ok, Err, is_ok, IfOk, IfErr, refl, ap, sym, ◌∙◌, subst, arith}
use Rattle.std.specs.List.{insert}
use Rattle.std.specs.List.Sorted.{IsSearchInRange, IsBinarySearchResult, IsNonDecreasingBy}
use Rattle.std.specs.Ordering.{nat_cmp, ordering_index}
use Rattle.std.proofs.lemmas.Cmp.{ranked}
use Rattle.std.proofs.lemmas.Bool.{eqb-true}
use Rattle.std.proofs.lemmas.List.{get_or_default}
use Rattle.std.proofs.lemmas.Bool.Decides.{nat_tests}
use Rattle.std.proofs.lemmas.Grind.{common_steps}
use Rattle.std.proofs.lemmas.List.Sorted.{IsNonDecreasingBy-from_default}
use Rattle.std.proofs.lemmas.List.Edits.{length-insert, get_or-insert_below, get_or-insert_at, get_or-insert_above}
use Rattle.la_orset.specs.declared.rows.Row.{Row}
use Rattle.la_orset.specs.Rows.{known_row, at_number, live_element, named_known, no_row, number_at, IsAscending, IsAt, IsGapFor, IsPut}

-- no row before a place has the number
abbrev IsNotBefore : List Row → ℕ → ℕ → Type 0
IsNotBefore rows n i = (j : ℕ) → j < i → number_at rows j ≢ n

not_before_later : (row : Row) (rows : List Row) (n i : ℕ) → IsNotBefore (row ∷ rows) n (suc i) → IsNotBefore rows n i
not_before_later row rows n i none j lt = none (suc j) (omega arith)

at_later : (row : Row) (rows : List Row) (n i : ℕ) → IsAt (row ∷ rows) n (suc i) → IsAt rows n i
at_later row rows n i at = record { in_range = omega (arith, at.in_range); has_number = at.has_number }

-- a number that no row has
absent : (rows : List Row) (n : ℕ) → IsNotBefore rows n (length rows) → at_number rows n ≡ None
absent [] n none = refl
absent (row ∷ rows) n none =
    grind (arith, nat_tests, none 0 (omega arith), absent rows n (not_before_later row rows n _ none))

-- the first row that has it
present : (rows : List Row) (n i : ℕ) → IsAt rows n i → IsNotBefore rows n i
    → at_number rows n ≡ Some (known_row (get_or rows i no_row))
present [] n i at none = absurd (omega (arith, at.in_range))
present (row ∷ rows) n zero at none = grind (arith, nat_tests, at.has_number)
present (row ∷ rows) n (suc i) at none =
    grind (
      arith,
      nat_tests,
      none 0 (omega arith),
      present rows n i (at_later row rows n i at)
          (not_before_later row rows n i none),
    )

-- a row in the place of the first that has its number
put_set : (rows : List Row) (row : Row) (i : ℕ) → IsAt rows row.number i → IsNotBefore rows row.number i
    → IsPut rows row.number (Some (known_row row)) (set rows i row)
put_set [] row i at none q = absurd (omega (arith, at.in_range))
put_set (x ∷ rows) row zero at none q = grind (arith, nat_tests, at.has_number)
put_set (x ∷ rows) row (suc i) at none q =
    grind (
      arith,
      nat_tests,
      none 0 (omega arith),
      put_set rows row i (at_later x rows row.number i at)
          (not_before_later x rows row.number i none) q,
    )

-- a new row before any that has its number
put_insert : (rows : List Row) (row : Row) (i : ℕ) → IsNotBefore rows row.number i
    → IsPut rows row.number (Some (known_row row)) (insert rows i row)
put_insert rows row zero none q = grind (arith, nat_tests)
put_insert [] row (suc i) none q = grind (arith, nat_tests)
put_insert (x ∷ rows) row (suc i) none q =
    grind (arith, nat_tests, none 0 (omega arith), put_insert rows row i (not_before_later x rows row.number i none) q)

module _ (rows : List Row) (ascending : IsAscending rows) (n : ℕ) where
  comparisons_rise : IsNonDecreasingBy (λ row. ordering_index (nat_cmp row.number n)) rows
  comparisons_rise = IsNonDecreasingBy-from_default (λ row. ordering_index (nat_cmp row.number n)) rows no_row (λ i j le in_range.
      let rise : number_at rows i ≤ number_at rows j =
      grind (arith, ascending i j, λ (same : i ≡ j). ap (number_at rows) same) in
      grind (arith, nat_tests))

  -- where a binary search ends
  pub searched : (r : Result ℕ ℕ) → IsSearchInRange r (length rows) → IsBinarySearchResult (λ row. nat_cmp row.number n) rows r → record { found : IfOk r (IsAt rows n); absent : IfErr r (IsGapFor rows n) }
  searched (Ok at) in_range equal = record { found = record { in_range = in_range; has_number = ranked _ n _ (sym (equal no_row)) }; absent = tt }
  searched (Err at) in_range parted = record {
    found = tt;
    absent = record {
      in_range = in_range;
      lower_before = λ j lt. ranked _ n _ (sym ((parted comparisons_rise).0 j no_row (omega arith) lt));
      higher_after = λ j le lt. ranked _ n _ (sym ((parted comparisons_rise).1 j no_row le lt));
    };
  }

module _ (rows : List Row) (ascending : IsAscending rows) (n i : ℕ) (at : IsAt rows n i) where
  none_before : IsNotBefore rows n i
  none_before j lt same = omega (arith, ascending j i lt at.in_range, at.has_number)

  pub row_there : at_number rows n ≡ Some (known_row (get_or rows i no_row))
  row_there = present rows n i at none_before

  pub put_there : (row : Row) → row.number ≡ n → IsPut rows n (Some (known_row row)) (set rows i row)
  put_there row is =
      subst (λ m. IsPut rows m (Some (known_row row)) (set rows i row)) is
      (put_set rows row i (subst (λ m. IsAt rows m i) (sym is) at)
      (subst (λ m. IsNotBefore rows m i) (sym is) none_before))

  pub set_ascending : (row : Row) → row.number ≡ n → IsAscending (set rows i row)
  set_ascending row is j k lt in_range =
      grind (arith, common_steps, is, ascending j k, ascending j i, ascending i k, at.in_range, at.has_number)

module _ (rows : List Row) (n i : ℕ) (gap : IsGapFor rows n i) where
  pub not_there : at_number rows n ≡ None
  not_there = absent rows n (λ j lt same. grind (arith, gap.lower_before j, gap.higher_after j))

  pub put_between : (row : Row) → row.number ≡ n → IsPut rows n (Some (known_row row)) (insert rows i row)
  put_between row is =
      subst (λ m. IsPut rows m (Some (known_row row)) (insert rows i row)) is
      (put_insert rows row i (λ j lt same. omega (arith, is, same, gap.lower_before j lt)))

  pub insert_ascending : (row : Row) → row.number ≡ n → IsAscending rows → IsAscending (insert rows i row)
  insert_ascending row is ascending j k lt in_range =
      let new = insert rows i row in
      let number = λ (x : Row). x.number in
      let length_new = length-insert rows i row gap.in_range in
      let below : (j : ℕ) → j < i → number_at new j ≡ number_at rows j =
      λ j lt. ap number (get_or-insert_below rows i row no_row j lt gap.in_range) in
      let here : (j : ℕ) → j ≡ i → number_at new j ≡ n =
      λ j same. rw same (ap number (get_or-insert_at rows i row no_row gap.in_range) ∙ is) in
      let above : (j : ℕ) → i < j → number_at new j ≡ number_at rows (j - 1) =
      λ j lt.
      subst (λ q. number_at new q ≡ number_at rows (j - 1)) {x = j - 1 + 1} (omega arith)
      (ap number (get_or-insert_above rows i row no_row (j - 1) (omega arith) gap.in_range)) in
      grind (
        arith,
        below j,
        here j,
        above j,
        below k,
        here k,
        above k,
        ascending j k,
        ascending j (k - 1),
        ascending
            (j - 1) (k - 1),
        gap.lower_before j,
        gap.higher_after (k - 1),
      )

-- whether a number was found
pub searched_has : (rows : List Row) (n : ℕ) (r : Result ℕ ℕ) → IsAscending rows → IfOk r (IsAt rows n)
    → IfErr r (IsGapFor rows n) → is_ok r ≡ is_some (at_number rows n)
searched_has rows n (Ok i) ascending at gap = sym (ap is_some (row_there rows ascending n i at))
searched_has rows n (Err i) ascending at gap = sym (ap is_some (not_there rows n i gap))

pub put_nothing : (rows : List Row) (n : ℕ) → at_number rows n ≡ None → IsPut rows n None rows
put_nothing rows n none q = by (eqb n q) refl
  where
    by : (b : Bool) → eqb n q ≡ b → at_number rows q ≡ (if b then None else at_number rows q)
    by true is = ap (at_number rows) (sym (eqb-true n q is)) ∙ none
    by false is = refl

-- what follows the first row
pub later_ascending : (row : Row) (rows : List Row) → IsAscending (row ∷ rows) → IsAscending rows
later_ascending row rows ascending i j lt in_range =
    ascending (suc i) (suc j) (omega (arith, lt)) (omega (arith, in_range))

pub later_none : (row : Row) (rows : List Row) → IsAscending (row ∷ rows) → at_number rows row.number ≡ None
later_none row rows ascending =
    absent rows row.number (λ j lt same. omega (arith, same, ascending 0 (suc j) (omega arith) (omega (arith, lt))))

-- ## A row that was read

module _ (rows : List Row) (ascending : IsAscending rows) (n i : ℕ) (at : IsAt rows n i) (row : Row)
    (read : row ≡ get_or rows i row) where
  read_is : row ≡ get_or rows i no_row
  read_is = read ∙ get_or_default rows i row no_row at.in_range

  pub read_number : row.number ≡ n
  read_number = ap (λ (r : Row). r.number) read_is ∙ at.has_number

  pub read_known : at_number rows n ≡ Some (known_row row)
  read_known = row_there rows ascending n i at ∙ ap (λ r. Some (known_row r)) (sym read_is)

  pub answer_live : row.gone ≡ false → Some row.element ≡ live_element (at_number rows n)
  answer_live stays = sym (ap live_element read_known ∙ ap (λ b. if b then None else Some row.element) stays)

  pub answer_gone : row.gone ≡ true → None ≡ live_element (at_number rows n)
  answer_gone gone = sym (ap live_element read_known ∙ ap (λ b. if b then None else Some row.element) gone)

  pub named_put : IsPut rows n (named_known (at_number rows n)) (set rows i (record { number = row.number; gone = true; element = row.element }))
  named_put = subst (λ o. IsPut rows n o (set rows i (record { number = row.number; gone = true; element = row.element })))
      (sym (ap named_known read_known)) (put_there rows ascending n i at (record { number = row.number; gone = true; element = row.element }) read_number)

  pub named_ascending : IsAscending (set rows i (record { number = row.number; gone = true; element = row.element }))
  named_ascending = set_ascending rows ascending n i at (record { number = row.number; gone = true; element = row.element }) read_number

  put_same : (q : ℕ) (b : Bool) → eqb n q ≡ b → at_number rows q ≡ (if b then Some (known_row row) else at_number rows q)
  put_same q true is = ap (at_number rows) (sym (eqb-true n q is)) ∙ read_known
  put_same q false is = refl

  -- one that was named is not changed
  pub named_same : row.gone ≡ true → IsPut rows n (named_known (at_number rows n)) rows
  named_same gone = subst (λ o. IsPut rows n o rows) (sym (ap named_known read_known ∙ ap (λ b. Some (record { element = row.element; gone = b })) (sym gone))) (λ q. put_same q (eqb n q) refl)

-- ## Guesses

pub gap_none : (rows : List Row) (n : ℕ) → length rows ≡ 0 → IsGapFor rows n (length rows)
gap_none rows n none = record { in_range = omega arith; lower_before = λ j lt. absurd (omega (arith, lt, none)); higher_after = λ j le lt. absurd (omega (arith, lt, none)) }
