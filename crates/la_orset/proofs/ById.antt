-- What was put, found by id, and what becomes of it.
use Rattle.std.proofs.Common.{◌≡◌, ℕ, zero, suc, ◌+◌, ◌<◌, ◌≤◌, eqb, Bool, true, false, ◌&&◌, cond, List, [], ◌∷◌, ◌++◌, map as list_map, length, get_or, set as list_set, Option, Some, None, refl, ap, sym, ◌∙◌, arith}
use Rattle.std.specs.Option.{option_map}
use Rattle.std.specs.Map.{lookup}
use Rattle.std.specs.BTreeMap.{is_at}
use Rattle.std.specs.Ordering.{is_eq, eq_by_cmp}
use Rattle.std.specs.Cmp.{Equal-is, nat_eq_equiv}
use Rattle.std.specs.FinMap as map
use Rattle.std.specs.FinMap.Entries.{find}
use Rattle.std.specs.FinSet as set
use Rattle.std.proofs.lemmas.Bool.{eqb-true}
use Rattle.std.proofs.lemmas.Bool.Decides.{nat_tests}
use Rattle.std.proofs.lemmas.List.{get_or_default}
use Rattle.la_set.specs.declared.update.UpdateId.{UpdateId}
use Rattle.la_object.specs.IdOrder.{id_cmp}
use Rattle.la_object.proofs.lemmas.IdOrder.{id_cmp_total, id_cmp-IsAntisymmetric}
use Rattle.la_object.proofs.lemmas.Sorted.{passes, any-find, any-keys, get-lookup}
use Rattle.la_orset.specs.declared.rows.Row.{Row}
use Rattle.la_orset.specs.Index.{same_id}
use Rattle.la_orset.specs.Rows.{KnownRow, known_row, at_number, named_known, IsPut}
use Rattle.la_orset.specs.Puts.{PutMap, adds_of, named_of, named_at, with_named, row_entry, entries_from}
use Rattle.la_orset.proofs.Hashed.{id_test, id_tests}

abbrev pub element_of : Option KnownRow → Option ℕ
element_of o = option_map (λ k. k.element) o

abbrev pub is_gone : Option KnownRow → Bool
is_gone None = false
is_gone (Some k) = k.gone

-- ## Elements and named ids, found by id

get-mapped : (q : UpdateId) (es : List (UpdateId × KnownRow))
    → lookup (is_at (id_cmp q)) (list_map (λ (e : UpdateId × KnownRow). (e.0, e.1.element)) es)
    ≡ element_of (find id_cmp q es)
get-mapped q [] = refl
get-mapped q (e ∷ es) = by (is_eq (id_cmp q e.0)) (get-mapped q es)
  where
    by : (b : Bool)
        → lookup (is_at (id_cmp q)) (list_map (λ (e : UpdateId × KnownRow). (e.0, e.1.element)) es)
        ≡ element_of (find id_cmp q es)
        → cond b (Some e.1.element)
        (lookup (is_at (id_cmp q)) (list_map (λ (e : UpdateId × KnownRow). (e.0, e.1.element)) es))
        ≡ element_of (cond b (Some e.1) (find id_cmp q es))
    by true rest = refl
    by false rest = rest

pub get-adds : (puts : PutMap) (q : UpdateId) → map.get (adds_of puts) q ≡ element_of (map.get puts q)
get-adds puts q =
    get-lookup id_cmp_total _ q ∙ get-mapped q (map.entries puts) ∙ ap element_of (sym (map.get-entries puts q))

passes-gone : (o : Option KnownRow) → passes (λ k. k.gone) o ≡ is_gone o
passes-gone None = refl
passes-gone (Some k) = refl

pub contains-named : (puts : PutMap) (q : UpdateId) → set.contains (named_of puts) q ≡ is_gone (map.get puts q)
contains-named puts q =
    set.contains-from_list id_cmp_total _ q
    ∙ any-keys id_cmp (eq_by_cmp id_cmp q) (λ e. e.1.gone) (map.entries puts)
    ∙ any-find id_cmp id_cmp-IsAntisymmetric (λ k v. v.gone) (map.entries puts) q (map.entries_sorted puts)
    ∙ passes-gone (find id_cmp q (map.entries puts)) ∙ ap is_gone (sym (map.get-entries puts q))

-- ## Columns

abbrev pub at_column : List (List Row) → ℕ → ℕ → Option KnownRow
at_column [] k n = None
at_column (rows ∷ more) zero n = at_number rows n
at_column (rows ∷ more) (suc k) n = at_column more k n

abbrev pub or_else : {X : Type 0} → Option X → Option X → Option X
or_else None d = d
or_else (Some x) d = Some x

or_none : {X : Type 0} (o : Option X) → or_else o None ≡ o
or_none None = refl
or_none (Some x) = refl

pub lookup-append : {K X : Type 0} (t : K → Bool) (es fs : List (K × X))
    → lookup t (es ++ fs) ≡ or_else (lookup t es) (lookup t fs)
lookup-append t [] fs = refl
lookup-append t (e ∷ es) fs =
    elim (t e.0) as
    (λ b. cond b (Some e.1) (lookup t (es ++ fs)) ≡ or_else (cond b (Some e.1) (lookup t es)) (lookup t fs))
    [ true ↦ refl | false ↦ lookup-append t es fs ]

either_none : (b : Bool) → ◌≡◌ {A = Option KnownRow} None (cond b None None)
either_none true = refl
either_none false = refl

pub lookup-rows : (r : ℕ) (rows : List Row) (q : UpdateId)
    → lookup (same_id q) (list_map (row_entry r) rows) ≡ cond (eqb q.replica r) (at_number rows q.number) None
lookup-rows r [] q = either_none (eqb q.replica r)
lookup-rows r (row ∷ rows) q = by (eqb q.replica r) (eqb q.number row.number) (lookup-rows r rows q)
  where
    by : (b c : Bool) → lookup (same_id q) (list_map (row_entry r) rows) ≡ cond b (at_number rows q.number) None
        → cond (b && c) (Some (known_row row)) (lookup (same_id q) (list_map (row_entry r) rows))
        ≡ cond b (cond c (Some (known_row row)) (at_number rows q.number)) None
    by true true rest = refl
    by true false rest = rest
    by false c rest = rest

module _ (q : UpdateId) where
  beyond : (r : ℕ) (columns : List (List Row)) → q.replica < r → lookup (same_id q) (entries_from r columns) ≡ None
  beyond r [] lt = refl
  beyond r (rows ∷ more) lt =
      let apart : eqb q.replica r ≡ false = grind (arith, nat_tests) in
      lookup-append (same_id q) (list_map (row_entry r) rows) (entries_from (suc r) more)
      ∙ ap (λ o. or_else o (lookup (same_id q) (entries_from (suc r) more)))
      (lookup-rows r rows q ∙ ap (λ b. cond b (at_number rows q.number) None) apart)
      ∙ beyond (suc r) more (omega (arith, lt))

  pub found_from : (r : ℕ) (columns : List (List Row)) (k : ℕ) → q.replica ≡ r + k
      → lookup (same_id q) (entries_from r columns) ≡ at_column columns k q.number
  found_from r [] k is = refl
  found_from r (rows ∷ more) zero is =
      let here : eqb q.replica r ≡ true = grind (arith, nat_tests) in
      lookup-append (same_id q) (list_map (row_entry r) rows) (entries_from (suc r) more)
      ∙ ap (λ o. or_else o (lookup (same_id q) (entries_from (suc r) more)))
      (lookup-rows r rows q ∙ ap (λ b. cond b (at_number rows q.number) None) here)
      ∙ ap (or_else (at_number rows q.number)) (beyond (suc r) more (omega (arith, is)))
      ∙ or_none (at_number rows q.number)
  found_from r (rows ∷ more) (suc k) is =
      let apart : eqb q.replica r ≡ false = grind (arith, nat_tests) in
      lookup-append (same_id q) (list_map (row_entry r) rows) (entries_from (suc r) more)
      ∙ ap (λ o. or_else o (lookup (same_id q) (entries_from (suc r) more)))
      (lookup-rows r rows q ∙ ap (λ b. cond b (at_number rows q.number) None) apart)
      ∙ found_from (suc r) more k (omega (arith, is))

abbrev pub put_map : List (List Row) → PutMap
put_map columns = map.from_entries (entries_from 0 columns)

pub get-column : (columns : List (List Row)) (q : UpdateId)
    → map.get (put_map columns) q ≡ at_column columns q.replica q.number
get-column columns q =
    get-lookup id_cmp_total (entries_from 0 columns) q ∙ sym (ap (λ t. lookup (t q) (entries_from 0 columns)) id_tests)
    ∙ found_from q 0 columns q.replica (omega arith)

pub column-beyond : (columns : List (List Row)) (k n : ℕ) → length columns ≤ k → at_column columns k n ≡ None
column-beyond [] k n le = refl
column-beyond (c ∷ more) zero n le = absurd (omega (arith, le))
column-beyond (c ∷ more) (suc k) n le = column-beyond more k n (omega (arith, le))

pub column-or : (columns : List (List Row)) (k n : ℕ) → at_column columns k n ≡ at_number (get_or columns k []) n
column-or [] k n = refl
column-or (c ∷ more) zero n = refl
column-or (c ∷ more) (suc k) n = column-or more k n

-- what a column that was read has
pub column-read : (columns : List (List Row)) (k n : ℕ) (rows : List Row) → rows ≡ get_or columns k rows
    → k < length columns → at_column columns k n ≡ at_number rows n
column-read columns k n rows is lt =
    column-or columns k n ∙ ap (λ c. at_number c n) (get_or_default columns k [] rows lt ∙ sym is)

column-set : (columns : List (List Row)) (k j n : ℕ) (rows : List Row) → k < length columns
    → at_column (list_set columns k rows) j n ≡ cond (eqb k j) (at_number rows n) (at_column columns j n)
column-set [] k j n rows lt = absurd (omega (arith, lt))
column-set (c ∷ more) zero zero n rows lt = refl
column-set (c ∷ more) zero (suc j) n rows lt =
    let apart : eqb 0 (suc j) ≡ false = grind (arith, nat_tests) in
    ap (λ b. cond b (at_number rows n) (at_column more j n)) (sym apart)
column-set (c ∷ more) (suc k) zero n rows lt =
    let apart : eqb (suc k) 0 ≡ false = grind (arith, nat_tests) in
    ap (λ b. cond b (at_number rows n) (at_number c n)) (sym apart)
column-set (c ∷ more) (suc k) (suc j) n rows lt =
    let less : eqb k j ≡ eqb (suc k) (suc j) = grind (arith, nat_tests) in
    column-set more k j n rows (omega (arith, lt)) ∙ ap (λ b. cond b (at_number rows n) (at_column more j n)) less

-- one column differs, at one number
pub get-changed : (columns : List (List Row)) (id : UpdateId) (rows : List Row) (given : Option KnownRow)
    → id.replica < length columns → IsPut (get_or columns id.replica []) id.number given rows → (q : UpdateId)
    → map.get (put_map (list_set columns id.replica rows)) q
    ≡ cond (eq_by_cmp id_cmp q id) given (map.get (put_map columns) q)
get-changed columns id rows given lt put q =
    get-column (list_set columns id.replica rows) q ∙ column-set columns id.replica q.replica q.number rows lt
    ∙ by (eqb id.replica q.replica) refl
    ∙ (λ i. cond (flipped i) given (sym (get-column columns q) i))
  where
    flipped : (eqb id.replica q.replica && eqb id.number q.number) ≡ eq_by_cmp id_cmp q id
    flipped = (λ i. nat_eq_equiv.symm id.replica q.replica i && nat_eq_equiv.symm id.number q.number i) ∙ id_test q id

    by : (b : Bool) → eqb id.replica q.replica ≡ b
        → cond b (at_number rows q.number) (at_column columns q.replica q.number)
        ≡ cond (b && eqb id.number q.number) given (at_column columns q.replica q.number)
    by true is =
        put q.number
        ∙ ap (cond (eqb id.number q.number) given)
        (sym (column-or columns id.replica q.number)
        ∙ ap (λ k. at_column columns k q.number) (eqb-true id.replica q.replica is))
    by false is = refl

-- ## Changes, by id

pub get-named : (puts : PutMap) (id q : UpdateId)
    → map.get (with_named puts id) q ≡ cond (eq_by_cmp id_cmp q id) (named_known (map.get puts id)) (map.get puts q)
get-named puts id q = by (map.get puts id) refl (eq_by_cmp id_cmp q id) refl
  where
    by : (o : Option KnownRow) → map.get puts id ≡ o → (b : Bool) → eq_by_cmp id_cmp q id ≡ b
        → map.get (named_at puts id o) q ≡ cond b (named_known o) (map.get puts q)
    by None is true here = ap (map.get puts) (id_cmp-IsAntisymmetric q id ((Equal-is (id_cmp q id)).0 here)) ∙ is
    by None is false here = refl
    by (Some k) is b here = map.get-insert id_cmp_total puts id (record { element = k.element; gone = true }) q ∙ ap (λ b. cond b (Some (record { element = k.element; gone = true })) (map.get puts q)) here

pub named_columns : (columns : List (List Row)) (id : UpdateId) (rows : List Row) → id.replica < length columns
    → IsPut (get_or columns id.replica []) id.number (named_known (at_number (get_or columns id.replica []) id.number)) rows
    → put_map (list_set columns id.replica rows) ≡ with_named (put_map columns) id
named_columns columns id rows lt put = map.same_map id_cmp_total id_cmp-IsAntisymmetric _ _ (λ q.
    get-changed columns id rows _ lt put q
    ∙ ap (λ o. cond (eq_by_cmp id_cmp q id) (named_known o) (map.get (put_map columns) q))
    (sym (get-column columns id ∙ column-or columns id.replica id.number))
    ∙ sym (get-named (put_map columns) id q))

pub put_columns : (columns : List (List Row)) (id : UpdateId) (rows : List Row) (k : KnownRow)
    → id.replica < length columns → IsPut (get_or columns id.replica []) id.number (Some k) rows
    → put_map (list_set columns id.replica rows) ≡ map.insert (put_map columns) id k
put_columns columns id rows k lt put = map.same_map id_cmp_total id_cmp-IsAntisymmetric _ _ (λ q.
    get-changed columns id rows (Some k) lt put q ∙ sym (map.get-insert id_cmp_total (put_map columns) id k q))

-- a column that says the same
pub same_columns : (columns : List (List Row)) (k : ℕ) (rows new : List Row) → k < length columns
    → rows ≡ get_or columns k rows → ((n : ℕ) → at_number new n ≡ at_number rows n)
    → put_map (list_set columns k new) ≡ put_map columns
same_columns columns k rows new lt is same = map.same_map id_cmp_total id_cmp-IsAntisymmetric _ _ (λ q.
    get-column (list_set columns k new) q ∙ column-set columns k q.replica q.number new lt ∙ by q (eqb k q.replica) refl ∙ sym (get-column columns q))
  where
    by : (q : UpdateId) (b : Bool) → eqb k q.replica ≡ b
        → cond b (at_number new q.number) (at_column columns q.replica q.number) ≡ at_column columns q.replica q.number
    by q true here =
        same q.number ∙ sym (column-read columns k q.number rows is lt)
        ∙ ap (λ j. at_column columns j q.number) (eqb-true k q.replica here)
    by q false here = refl
