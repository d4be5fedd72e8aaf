-- What is found by hash, read by the order of the keys.
use Rattle.std.proofs.Common.{◌≡◌, ℕ, suc, ◌+◌, eqb, T, Bool, true, false, ◌&&◌, ◌||◌, cond, List, [], ◌∷◌, length, Option, Some, None, is_some, refl, ap, sym, ◌∙◌, subst, arith}
use Rattle.std.specs.List.{list_any, AllByRecursion, IsDistinct}
use Rattle.std.specs.List.Sorted.{IsPermutation, IsSorted, IsStrictlySortedBy}
use Rattle.std.specs.Map.{keys_of, lookup}
use Rattle.std.specs.BTreeMap.{is_at}
use Rattle.std.specs.Ordering.{nat_cmp, ordering_then, is_eq, eq_by_cmp}
use Rattle.std.specs.declared.cmp.Ordering.{Ordering}
use Rattle.std.specs.declared.cmp.Ordering.TheVariants.{Less, Equal, Greater}
use Rattle.std.specs.Cmp.{nat_cmp_total, unsigned_tied, nat_eq_equiv}
use Rattle.std.specs.FinMap as map
use Rattle.std.specs.FinMap.{nat_cmp-IsAntisymmetric}
use Rattle.std.proofs.lemmas.Bool.{eqb-true}
use Rattle.std.proofs.lemmas.Map.Keys.{IsDistinct-from_sorted, IsDistinct-head, IsDistinct-tail, IsDistinct-IsPermutation, IsStrictlyIncreasing-from_distinct, sorted_from_strictly_increasing}
use Rattle.std.proofs.lemmas.List.Sorted.{list_any-IsPermutation, IsNonDecreasingBy-from_sort}
use Rattle.la_set.specs.declared.update.UpdateId.{UpdateId}
use Rattle.la_object.specs.IdOrder.{id_cmp}
use Rattle.la_object.proofs.lemmas.Sorted.{get-lookup, one_put}
use Rattle.la_orset.specs.Index.{same_id, key_set, TagMap, Index}
use Rattle.la_orset.proofs.Sets.{same_members, contains-set_of, keys-set_of, sorted-entries, sorted-units}
use Rattle.la_orset.proofs.LiveTags.{changed_from}

then_tied : (r s : Ordering) → is_eq (ordering_then r s) ≡ (is_eq r && is_eq s)
then_tied Less s = refl
then_tied Equal s = refl
then_tied Greater s = refl

pub id_test : (q k : UpdateId) → same_id q k ≡ is_at (id_cmp q) k
id_test q k =
    sym
    (then_tied (nat_cmp q.replica k.replica) (nat_cmp q.number k.number)
    ∙ (λ i. unsigned_tied q.replica k.replica i && unsigned_tied q.number k.number i))

pub id_tests : ◌≡◌ {A = UpdateId → UpdateId → Bool} same_id (λ q k. is_at (id_cmp q) k)
id_tests = λ i q k. id_test q k i

nat_tests : ◌≡◌ {A = ℕ → ℕ → Bool} eqb (λ q k. is_at (nat_cmp q) k)
nat_tests = λ i q k. sym (unsigned_tied q k) i

by_order : {K X : Type 0} (e f : K → K → Bool) → e ≡ f → (es fs : List (K × X)) (x : K) (o : Option X)
    → ((q : K) → lookup (e q) fs ≡ cond (e x q) o (lookup (e q) es)) → (q : K)
    → lookup (f q) fs ≡ cond (f x q) o (lookup (f q) es)
by_order {K} {X} e f p es fs x o h =
    let P : (K → K → Bool) → Type 0 = λ t. (q : K) → lookup (t q) fs ≡ cond (t x q) o (lookup (t q) es) in
    subst P p h

-- ## Ids

any_by_order : (ks ls : List UpdateId) (id : UpdateId) (b : Bool)
    → ((q : UpdateId) → list_any (same_id q) ls ≡ cond (same_id id q) b (list_any (same_id q) ks)) → (q : UpdateId)
    → list_any (is_at (id_cmp q)) ls ≡ cond (is_at (id_cmp id) q) b (list_any (is_at (id_cmp q)) ks)
any_by_order ks ls id b h =
    let P : (UpdateId → UpdateId → Bool) → Type 0 =
    λ t. (q : UpdateId) → list_any (t q) ls ≡ cond (t id q) b (list_any (t q) ks) in
    subst P id_tests h

-- ## Distinct keys

pub absent : {K X : Type 0} (e : K → K → Bool) (k : K) (es : List (K × X))
    → AllByRecursion (λ y. e k y ≡ false) (keys_of es) → lookup (e k) es ≡ None
absent e k [] h = refl
absent e k (f ∷ es) h = ap (λ b. cond b (Some f.1) (lookup (e k) es)) h.0 ∙ absent e k es h.1

any-lookup : {K X : Type 0} (t : K → Bool) (es : List (K × X)) → list_any t (keys_of es) ≡ is_some (lookup t es)
any-lookup t [] = refl
any-lookup t (e ∷ es) = by (t e.0) (any-lookup t es)
  where
    by : (b : Bool) → list_any t (keys_of es) ≡ is_some (lookup t es)
        → (b || list_any t (keys_of es)) ≡ is_some (cond b (Some e.1) (lookup t es))
    by true rest = refl
    by false rest = rest

-- ## Elements

pub nat_found : (es : List (ℕ × TagMap)) (q : ℕ) → map.get (map.from_entries {R = nat_cmp} es) q ≡ lookup (eqb q) es
nat_found es q = get-lookup nat_cmp_total es q ∙ sym (ap (λ t. lookup (t q) es) nat_tests)

-- entries that differ under one element make maps that differ there
pub nat_changed : (es fs : List (ℕ × TagMap)) (x : ℕ) (o : Option TagMap)
    → ((q : ℕ) → lookup (eqb q) fs ≡ cond (eqb x q) o (lookup (eqb q) es)) → (y : ℕ)
    → map.get (map.from_entries {R = nat_cmp} fs) y
    ≡ cond (is_at (nat_cmp x) y) o (map.get (map.from_entries {R = nat_cmp} es) y)
nat_changed es fs x o h = changed_from es fs x o (by_order eqb (λ q k. is_at (nat_cmp q) k) nat_tests es fs x o h)

pub nat_same : (es fs : List (ℕ × TagMap)) → ((q : ℕ) → lookup (eqb q) fs ≡ lookup (eqb q) es)
    → map.from_entries {R = nat_cmp} fs ≡ map.from_entries es
nat_same es fs h =
    map.same_map nat_cmp_total nat_cmp-IsAntisymmetric _ _ (λ q. nat_found fs q ∙ h q ∙ sym (nat_found es q))

pub nat_changed_same : (es fs gs : List (ℕ × TagMap)) (x : ℕ) (o : Option TagMap)
    → ((q : ℕ) → lookup (eqb q) fs ≡ cond (eqb x q) o (lookup (eqb q) es))
    → map.from_entries {R = nat_cmp} gs ≡ map.from_entries fs → (y : ℕ)
    → map.get (map.from_entries {R = nat_cmp} gs) y
    ≡ cond (is_at (nat_cmp x) y) o (map.get (map.from_entries {R = nat_cmp} es) y)
nat_changed_same es fs gs x o h same y = ap (λ m. map.get m y) same ∙ nat_changed es fs x o h y

pub nat_len : (es : List (ℕ × TagMap)) → IsDistinct eqb (keys_of es)
    → length es ≡ map.len (map.from_entries {R = nat_cmp} es)
nat_len [] h = sym (map.len-empty nat_cmp TagMap)
nat_len (e ∷ es) h =
    let m = map.from_entries {R = nat_cmp} es in
    let none : map.get m e.0 ≡ None = nat_found es e.0 ∙ absent eqb e.0 es (IsDistinct-head eqb e.0 (keys_of es) h) in
    let one : suc (map.len m) ≡ map.len m + 1 = omega arith in
    ap (λ n. suc n) (nat_len es (IsDistinct-tail eqb e.0 (keys_of es) h)) ∙ one
    ∙ sym (map.len-insert nat_cmp_total m e.0 e.1 ∙ ap (λ o. cond (is_some o) (map.len m) (map.len m + 1)) none)

-- the keys, sorted
pub nat_sorted : (es : List (ℕ × TagMap)) (ks : List ℕ) → IsDistinct eqb (keys_of es) → IsPermutation (keys_of es) ks
    → IsSorted nat_cmp ks → ks ≡ map.keys (map.from_entries {R = nat_cmp} es)
nat_sorted es ks distinct moved sorted =
    let m = map.from_entries {R = nat_cmp} es in
    let strict =
    sorted_from_strictly_increasing ks
    (IsStrictlyIncreasing-from_distinct ks (IsNonDecreasingBy-from_sort (λ x. x) ks sorted)
    (IsDistinct-IsPermutation eqb nat_eq_equiv.symm (keys_of es) ks moved distinct)) in
    sym
    (keys-set_of nat_cmp_total nat_cmp-IsAntisymmetric ks
    (sorted-units nat_cmp_total nat_cmp-IsAntisymmetric ks strict))
    ∙ ap map.keys (same_members nat_cmp_total nat_cmp-IsAntisymmetric (key_set ks) (key_set (map.keys m)) (λ q.
    contains-set_of nat_cmp_total nat_cmp-IsAntisymmetric ks q
    ∙ sym (list_any-IsPermutation (eq_by_cmp nat_cmp q) (keys_of es) ks moved)
    ∙ any-lookup (is_at (nat_cmp q)) es ∙ ap is_some (sym (get-lookup nat_cmp_total es q))
    ∙ map.contains_key-keys m q ∙ sym (contains-set_of nat_cmp_total nat_cmp-IsAntisymmetric (map.keys m) q)))
    ∙ keys-set_of nat_cmp_total nat_cmp-IsAntisymmetric (map.keys m)
    (subst T (sym (sorted-entries nat_cmp (map.entries m))) (map.entries_sorted m))

-- ## A copy that is made one element after another

pub nat_put : (es fs : List (ℕ × TagMap)) (x : ℕ) (tags : TagMap)
    → ((q : ℕ) → lookup (eqb q) fs ≡ cond (eqb x q) (Some tags) (lookup (eqb q) es))
    → map.from_entries {R = nat_cmp} fs ≡ map.insert (map.from_entries es) x tags
nat_put es fs x tags h =
    one_put nat_cmp_total nat_cmp-IsAntisymmetric es fs x tags
    (by_order eqb (λ q k. is_at (nat_cmp q) k) nat_tests es fs x (Some tags) h)

abbrev pub all_put : Index → List (ℕ × TagMap) → Index
all_put m [] = m
all_put m (e ∷ es) = all_put (map.insert m e.0 e.1) es

abbrev or_else : Option TagMap → Option TagMap → Option TagMap
or_else None d = d
or_else (Some x) d = Some x

get-all_put : (m : Index) (es : List (ℕ × TagMap)) (q : ℕ) → IsDistinct eqb (keys_of es)
    → map.get (all_put m es) q ≡ or_else (lookup (eqb q) es) (map.get m q)
get-all_put m [] q h = refl
get-all_put m (e ∷ es) q h =
    get-all_put (map.insert m e.0 e.1) es q (IsDistinct-tail eqb e.0 (keys_of es) h)
    ∙ ap (or_else (lookup (eqb q) es))
    (map.get-insert nat_cmp_total m e.0 e.1 q ∙ ap (λ b. cond b (Some e.1) (map.get m q)) (unsigned_tied q e.0))
    ∙ by (eqb q e.0) refl
  where
    by : (b : Bool) → eqb q e.0 ≡ b
        → or_else (lookup (eqb q) es) (cond b (Some e.1) (map.get m q))
        ≡ or_else (cond b (Some e.1) (lookup (eqb q) es)) (map.get m q)
    by true is =
        ap (λ g. or_else g (Some e.1))
        (ap (λ k. lookup (eqb k) es) (eqb-true q e.0 is) ∙ absent eqb e.0 es (IsDistinct-head eqb e.0 (keys_of es) h))
    by false is = refl

or_none : (o : Option TagMap) → or_else o None ≡ o
or_none None = refl
or_none (Some x) = refl

pub all_put-whole : (es : List (ℕ × TagMap)) → IsStrictlySortedBy nat_cmp (keys_of es)
    → all_put map.empty es ≡ map.from_entries es
all_put-whole es sorted =
    let distinct =
    subst (λ e. IsDistinct e (keys_of es)) (sym nat_tests) (IsDistinct-from_sorted nat_cmp (keys_of es) sorted) in
    map.same_map nat_cmp_total nat_cmp-IsAntisymmetric _ _ (λ q.
    get-all_put map.empty es q distinct ∙ ap (or_else (lookup (eqb q) es)) (map.get-empty nat_cmp q) ∙ or_none _ ∙ sym (nat_found es q))
