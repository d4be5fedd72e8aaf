-- Copies of what was put and of what is gone, which are made one entry after another.
use Rattle.std.proofs.Common.{◌≡◌, ℕ, zero, suc, ◌+◌, ◌<◌, ◌≤◌, eqb, Bool, true, false, ◌&&◌, ◌||◌, cond, List, [], ◌∷◌, ◌++◌, map as list_map, length, get_or, drop, if◌then◌else◌, Option, Some, None, is_some, refl, ap, sym, ◌∙◌, subst, inl, inr, arith}
use Rattle.std.specs.List.{list_any}
use Rattle.std.specs.Map.{lookup}
use Rattle.std.specs.Ordering.{is_eq, eq_by_cmp}
use Rattle.std.specs.Cmp.{Equal-is, tied_itself}
use Rattle.std.specs.FinMap as map
use Rattle.std.specs.FinSet as set
use Rattle.std.proofs.lemmas.Bool.{eqb-true, cases_lt}
use Rattle.std.proofs.lemmas.Bool.Decides.{nat_tests}
use Rattle.std.proofs.lemmas.Option.{none-some}
use Rattle.la_set.specs.declared.update.UpdateId.{UpdateId}
use Rattle.la_object.specs.IdOrder.{id_cmp, Elements, IdSet}
use Rattle.la_object.specs.OrSet.{with_element}
use Rattle.la_object.proofs.lemmas.IdOrder.{id_cmp_total, id_cmp-IsAntisymmetric}
use Rattle.la_object.proofs.lemmas.IdMaps.{same_ids}
use Rattle.std.proofs.Math.Seq.{drop-cons}
use Rattle.std.proofs.lemmas.List.{drop_all, get_or_default}
use Rattle.la_object.proofs.lemmas.Sorted.{get-lookup}
use Rattle.la_orset.specs.declared.rows.Row.{Row}
use Rattle.la_orset.specs.Index.{same_id}
use Rattle.la_orset.specs.Rows.{KnownRow, known_row, at_number, IsAscending}
use Rattle.la_orset.specs.Puts.{adds_of, gone_of, row_entry, entries_from, all_added, all_gone}
use Rattle.la_orset.proofs.Hashed.{id_test, id_tests}
use Rattle.la_orset.proofs.Numbers.{later_ascending, later_none}
use Rattle.la_orset.proofs.ById.{element_of, is_gone, get-adds, at_column, or_else, get-column, put_map}
use Rattle.la_orset.proofs.Absorbed.{contains-gone}

abbrev Entry : Type 0
Entry = UpdateId × KnownRow

-- ## Rows that are gone through

pub entries-nothing : (r : ℕ) (columns : List (List Row)) → entries_from r (columns ++ [] ∷ []) ≡ entries_from r columns
entries-nothing r [] = refl
entries-nothing r (rows ∷ more) = ap (λ es. list_map (row_entry r) rows ++ es) (entries-nothing (suc r) more)

pub entries-next : (k : ℕ) (columns : List (List Row)) (rows : List Row) → k < length columns
    → rows ≡ get_or columns k rows
    → entries_from k (drop k columns) ≡ list_map (row_entry k) rows ++ entries_from (k + 1) (drop (k + 1) columns)
entries-next k columns rows lt is =
    let next : suc k ≡ k + 1 = omega arith in
    ap (entries_from k) (drop-cons columns k rows lt)
    ∙ (λ i. list_map (row_entry k) (sym is i) ++ entries_from (next i) (drop (next i) columns))

pub entries-end : (k : ℕ) (columns : List (List Row)) → length columns ≤ k → entries_from k (drop k columns) ≡ []
entries-end k columns le = ap (entries_from k) (drop_all k columns le)

-- ## Elements

or_none : {X : Type 0} (o : Option X) → o ≡ or_else o None
or_none None = refl
or_none (Some x) = refl

get-with_element : (adds : Elements) (id : UpdateId) (x : ℕ) (q : UpdateId)
    → map.get (with_element adds id (Some x)) q ≡ or_else (map.get adds q) (cond (eq_by_cmp id_cmp q id) (Some x) None)
get-with_element adds id x q = by (map.get adds id) refl (eq_by_cmp id_cmp q id) refl
  where
    at_id : eq_by_cmp id_cmp q id ≡ true → map.get adds q ≡ map.get adds id
    at_id is = ap (map.get adds) (id_cmp-IsAntisymmetric q id ((Equal-is (id_cmp q id)).0 is))

    by : (o : Option ℕ) → map.get adds id ≡ o → (b : Bool) → eq_by_cmp id_cmp q id ≡ b
        → map.get (cond (is_some o) adds (map.insert adds id x)) q ≡ or_else (map.get adds q) (cond b (Some x) None)
    by (Some w) there true is = (at_id is ∙ there) ∙ sym (ap (λ o. or_else o (Some x)) (at_id is ∙ there))
    by (Some w) there false is = or_none (map.get adds q)
    by None none true is =
        map.get-insert id_cmp_total adds id x q ∙ ap (λ b. cond b (Some x) (map.get adds q)) is
        ∙ sym (ap (λ o. or_else o (Some x)) (at_id is ∙ none))
    by None none false is =
        map.get-insert id_cmp_total adds id x q ∙ ap (λ b. cond b (Some x) (map.get adds q)) is ∙ or_none (map.get adds q)

pub all_added-append : (adds : Elements) (es fs : List Entry)
    → all_added adds (es ++ fs) ≡ all_added (all_added adds es) fs
all_added-append adds [] fs = refl
all_added-append adds (e ∷ es) fs = all_added-append (with_element adds e.0 (Some e.1.element)) es fs

get-all_added : (adds : Elements) (es : List Entry) (q : UpdateId)
    → map.get (all_added adds es) q ≡ or_else (map.get adds q) (element_of (lookup (same_id q) es))
get-all_added adds [] q = or_none (map.get adds q)
get-all_added adds (e ∷ es) q =
    get-all_added (with_element adds e.0 (Some e.1.element)) es q
    ∙ ap (λ o. or_else o (element_of (lookup (same_id q) es)))
    (get-with_element adds e.0 e.1.element q
    ∙ ap (λ b. or_else (map.get adds q) (cond b (Some e.1.element) None)) (sym (id_test q e.0)))
    ∙ by (map.get adds q) (same_id q e.0)
  where
    by : (o : Option ℕ) (b : Bool)
        → or_else (or_else o (cond b (Some e.1.element) None)) (element_of (lookup (same_id q) es))
        ≡ or_else o (element_of (cond b (Some e.1) (lookup (same_id q) es)))
    by (Some w) b = refl
    by None true = refl
    by None false = refl

get-found : (es : List Entry) (q : UpdateId) → map.get (map.from_entries {R = id_cmp} es) q ≡ lookup (same_id q) es
get-found es q = get-lookup id_cmp_total es q ∙ sym (ap (λ t. lookup (t q) es) id_tests)

pub adds_copied : (es : List Entry) → all_added map.empty es ≡ adds_of (map.from_entries es)
adds_copied es = map.same_map id_cmp_total id_cmp-IsAntisymmetric _ _ (λ q.
    get-all_added map.empty es q ∙ ap (λ o. or_else o (element_of (lookup (same_id q) es))) (map.get-empty id_cmp q)
    ∙ ap element_of (sym (get-found es q)) ∙ sym (get-adds (map.from_entries es) q))

-- ## Gone ids

pub all_gone-append : (ids : IdSet) (es fs : List Entry) → all_gone ids (es ++ fs) ≡ all_gone (all_gone ids es) fs
all_gone-append ids [] fs = refl
all_gone-append ids (e ∷ es) fs = all_gone-append (if e.1.gone then set.insert ids e.0 else ids) es fs

abbrev is_gone_at : UpdateId → Entry → Bool
is_gone_at q e = e.1.gone && same_id q e.0

contains-all_gone : (ids : IdSet) (es : List Entry) (q : UpdateId)
    → set.contains (all_gone ids es) q ≡ (set.contains ids q || list_any (is_gone_at q) es)
contains-all_gone ids [] q = elim (set.contains ids q) as (λ b. b ≡ (b || false)) [ true ↦ refl | false ↦ refl ]
contains-all_gone ids (e ∷ es) q =
    contains-all_gone (if e.1.gone then set.insert ids e.0 else ids) es q
    ∙ ap (λ b. b || list_any (is_gone_at q) es) (one e.1.gone)
    ∙ move (set.contains ids q) (is_gone_at q e) (list_any (is_gone_at q) es)
  where
    or_swap : (b c : Bool) → (b || c) ≡ (c || (true && b))
    or_swap true true = refl
    or_swap true false = refl
    or_swap false true = refl
    or_swap false false = refl

    one : (b : Bool)
        → set.contains (if b then set.insert ids e.0 else ids) q ≡ (set.contains ids q || (b && same_id q e.0))
    one true =
        set.contains-insert id_cmp_total ids e.0 q ∙ ap (λ b. b || set.contains ids q) (sym (id_test q e.0))
        ∙ or_swap (same_id q e.0) (set.contains ids q)
    one false = elim (set.contains ids q) as (λ b. b ≡ (b || false)) [ true ↦ refl | false ↦ refl ]

    move : (b c d : Bool) → ((b || c) || d) ≡ (b || (c || d))
    move true c d = refl
    move false c d = refl

any-append : (t : Entry → Bool) (es fs : List Entry) → list_any t (es ++ fs) ≡ (list_any t es || list_any t fs)
any-append t [] fs = refl
any-append t (e ∷ es) fs =
    elim (t e) as (λ b. (b || list_any t (es ++ fs)) ≡ ((b || list_any t es) || list_any t fs))
    [ true ↦ refl | false ↦ any-append t es fs ]

module _ (q : UpdateId) where
  gone-rows : (r : ℕ) (rows : List Row) → IsAscending rows
      → list_any (is_gone_at q) (list_map (row_entry r) rows) ≡ (eqb q.replica r && is_gone (at_number rows q.number))
  gone-rows r [] ascending = elim (eqb q.replica r) as (λ b. false ≡ (b && false)) [ true ↦ refl | false ↦ refl ]
  gone-rows r (row ∷ rows) ascending =
      by (eqb q.replica r) (eqb q.number row.number) refl (gone-rows r rows (later_ascending row rows ascending))
    where
      and_false : (b : Bool) → (b && false) ≡ false
      and_false true = refl
      and_false false = refl

      and_true : (b : Bool) → ((b && true) || false) ≡ b
      and_true true = refl
      and_true false = refl

      by : (b c : Bool) → eqb q.number row.number ≡ c
          → list_any (is_gone_at q) (list_map (row_entry r) rows) ≡ (b && is_gone (at_number rows q.number))
          → (((known_row row).gone && (b && c)) || list_any (is_gone_at q) (list_map (row_entry r) rows))
          ≡ (b && is_gone (cond c (Some (known_row row)) (at_number rows q.number)))
      by true true is rest =
          let none : at_number rows q.number ≡ None =
          ap (at_number rows) (eqb-true q.number row.number is) ∙ later_none row rows ascending in
          ap (λ b. ((known_row row).gone && true) || b) (rest ∙ ap is_gone none) ∙ and_true ((known_row row).gone)
      by true false is rest =
          ap (λ b. b || list_any (is_gone_at q) (list_map (row_entry r) rows)) (and_false ((known_row row).gone)) ∙ rest
      by false c is rest =
          ap (λ b. b || list_any (is_gone_at q) (list_map (row_entry r) rows)) (and_false ((known_row row).gone)) ∙ rest

  abbrev AllAscending : List (List Row) → Type 0
  AllAscending columns = (j : ℕ) → j < length columns → IsAscending (get_or columns j [])

  gone-beyond : (r : ℕ) (columns : List (List Row)) → AllAscending columns → q.replica < r
      → list_any (is_gone_at q) (entries_from r columns) ≡ false
  gone-beyond r [] all lt = refl
  gone-beyond r (rows ∷ more) all lt =
      let apart : eqb q.replica r ≡ false = grind (arith, nat_tests) in
      any-append (is_gone_at q) (list_map (row_entry r) rows) (entries_from (suc r) more)
      ∙ ap (λ b. b || list_any (is_gone_at q) (entries_from (suc r) more))
      (gone-rows r rows (all 0 (omega arith)) ∙ ap (λ b. b && is_gone (at_number rows q.number)) apart)
      ∙ gone-beyond (suc r) more (λ j within. all (suc j) (omega (arith, within))) (omega (arith, lt))

  gone-from : (r : ℕ) (columns : List (List Row)) (k : ℕ) → AllAscending columns → q.replica ≡ r + k
      → list_any (is_gone_at q) (entries_from r columns) ≡ is_gone (at_column columns k q.number)
  gone-from r [] k all is = refl
  gone-from r (rows ∷ more) zero all is =
      let here : eqb q.replica r ≡ true = grind (arith, nat_tests) in
      any-append (is_gone_at q) (list_map (row_entry r) rows) (entries_from (suc r) more)
      ∙ (λ i.
      (gone-rows r rows (all 0 (omega arith)) ∙ ap (λ b. b && is_gone (at_number rows q.number)) here) i
      || gone-beyond (suc r) more (λ j within. all (suc j) (omega (arith, within))) (omega (arith, is)) i)
      ∙ elim (is_gone (at_number rows q.number)) as (λ b. (b || false) ≡ b) [ true ↦ refl | false ↦ refl ]
  gone-from r (rows ∷ more) (suc k) all is =
      let apart : eqb q.replica r ≡ false = grind (arith, nat_tests) in
      any-append (is_gone_at q) (list_map (row_entry r) rows) (entries_from (suc r) more)
      ∙ ap (λ b. b || list_any (is_gone_at q) (entries_from (suc r) more))
      (gone-rows r rows (all 0 (omega arith)) ∙ ap (λ b. b && is_gone (at_number rows q.number)) apart)
      ∙ gone-from (suc r) more k (λ j within. all (suc j) (omega (arith, within))) (omega (arith, is))

pub gone_copied : (early : IdSet) (columns : List (List Row))
    → ((j : ℕ) → j < length columns → IsAscending (get_or columns j []))
    → all_gone early (entries_from 0 columns) ≡ gone_of early (put_map columns)
gone_copied early columns all = same_ids _ _ (λ q.
    contains-all_gone early (entries_from 0 columns) q
    ∙ ap (λ b. set.contains early q || b)
    (gone-from q 0 columns q.replica all (omega arith) ∙ ap is_gone (sym (get-column columns q)))
    ∙ sym (contains-gone early (put_map columns) q))

-- ## Nothing

pub something_put : (e : Entry) (es : List Entry) → map.from_entries {R = id_cmp} (e ∷ es) ≡ map.empty → ⊥
something_put e es h =
    none-some e.1
    (sym (map.get-empty id_cmp e.0) ∙ ap (λ m. map.get m e.0) (sym h)
    ∙ map.get-insert id_cmp_total (map.from_entries es) e.0 e.1 e.0
    ∙ ap (λ r. cond (is_eq r) (Some e.1) (map.get {R = id_cmp} (map.from_entries es) e.0))
    (tied_itself id_cmp_total e.0))

pub entries-skip : (k : ℕ) (columns : List (List Row)) (rows : List Row) → k < length columns
    → rows ≡ get_or columns k rows → rows ≡ []
    → entries_from k (drop k columns) ≡ entries_from (k + 1) (drop (k + 1) columns)
entries-skip k columns rows lt is none =
    entries-next k columns rows lt is
    ∙ ap (λ rs. list_map (row_entry k) rs ++ entries_from (k + 1) (drop (k + 1) columns)) none

pub some_rows : (k : ℕ) (columns : List (List Row)) (rows : List Row) → k < length columns
    → rows ≡ get_or columns k rows → 0 < length rows → entries_from 0 columns ≡ entries_from k (drop k columns)
    → put_map columns ≡ map.empty → ⊥
some_rows k columns [] lt is some same h = absurd (omega (arith, some))
some_rows k columns (row ∷ rows) lt is some same h =
    something_put (row_entry k row) (list_map (row_entry k) rows ++ entries_from (k + 1) (drop (k + 1) columns))
    (sym (ap (map.from_entries {R = id_cmp}) (same ∙ entries-next k columns (row ∷ rows) lt is)) ∙ h)

-- columns that ascend, and one more
pub ascending_more : (columns : List (List Row)) (k : ℕ) (rows : List Row) → k < length columns
    → rows ≡ get_or columns k rows → IsAscending rows → ((j : ℕ) → j < k → IsAscending (get_or columns j [])) → (j : ℕ)
    → j < k + 1 → IsAscending (get_or columns j [])
ascending_more columns k rows lt is ascending before j within = elim (cases_lt j k) [
  | inl less ↦ before j less
  | inr least ↦ (
      let same : k ≡ j = omega (arith, within, least) in
      subst (λ i. IsAscending (get_or columns i [])) same (subst IsAscending (is ∙ get_or_default columns k rows [] lt) ascending))
]
