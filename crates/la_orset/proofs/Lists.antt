-- Tags in a list, in any order.
use Rattle.std.proofs.Common.{◌≡◌, ℕ, zero, suc, ◌+◌, ◌≤◌, ◌<◌, ◌⊎◌, ◌↔◌, IsTrue, nat_lt, Bool, true, false, not, ◌&&◌, ◌||◌, cond, List, [], ◌∷◌, ◌++◌, map as list_map, length, take, get_or, Some, AllPairs, Contains, if◌then◌else◌, refl, ap, sym, ◌∙◌, subst, inl, inr, arith}
use Rattle.std.specs.List.{list_any, slice_get, insert, remove, swap_remove, AllByRecursion, IsDistinct}
use Rattle.std.specs.List.Sorted.{IsPermutation, IsStrictlySortedBy}
use Rattle.std.specs.Cmp.{IsEquivalence, eq_by_cmp_equiv}
use Rattle.std.specs.FinMap as map
use Rattle.std.proofs.lemmas.Bool.{false≢true, lt-ltb}
use Rattle.std.proofs.lemmas.Option.{none-some, same_Some}
use Rattle.std.proofs.lemmas.List.{take_more}
use Rattle.std.proofs.lemmas.List.Folds.{list_any-append}
use Rattle.std.proofs.lemmas.List.Sorted.{IsPermutation-to_front, IsPermutation-insert, IsPermutation-remove, IsPermutation-swap_remove, list_any-IsPermutation}
use Rattle.std.proofs.lemmas.Map.Keys.{IsDistinct-head, IsDistinct-tail, IsDistinct-push, IsDistinct-IsPermutation, IsDistinct-from_sorted, sorted_from_all_adjacent}
use Rattle.std.proofs.lemmas.Map.Made.{length-le_from_is_member}
use Rattle.std.proofs.lemmas.Map.Views.{Contains-from_any, list_any-from_Contains}
use Rattle.la_set.specs.declared.update.UpdateId.{UpdateId}
use Rattle.la_set.specs.Ids.{IsBelow}
use Rattle.la_set.specs.Tags.{with_tag}
use Rattle.la_set.proofs.lemmas.IdOrder.{below-cmp}
use Rattle.la_set.proofs.lemmas.TagPlaces.{with_tag-members, members-with_tag}
use Rattle.la_object.specs.IdOrder.{id_cmp}
use Rattle.la_object.proofs.lemmas.IdOrder.{id_cmp_total, id_cmp-IsAntisymmetric}
use Rattle.la_orset.specs.Index.{TagMap, same_id, key_set, has_any}
use Rattle.la_orset.proofs.Sets.{same_members, contains-set_of, contains-put, contains-taken, keys-set_of, sorted-units}
use Rattle.la_orset.proofs.Hashed.{id_test, id_tests}
use Rattle.la_orset.proofs.LiveTags.{same-id}

pub id_equiv : IsEquivalence same_id
id_equiv = subst IsEquivalence (sym id_tests) (eq_by_cmp_equiv id_cmp_total)

-- what a set of ids has
pub contains-list : (ks : List UpdateId) (q : UpdateId)
    → map.contains_key (key_set {R = id_cmp} ks) q ≡ list_any (same_id q) ks
contains-list ks q =
    contains-set_of id_cmp_total id_cmp-IsAntisymmetric ks q ∙ sym (ap (λ t. list_any (t q) ks) id_tests)

contains-more : (s : TagMap) (k q : UpdateId)
    → map.contains_key (map.insert s k tt) q ≡ (same_id q k || map.contains_key s q)
contains-more s k q =
    contains-put id_cmp_total id_cmp-IsAntisymmetric s k q ∙ ap (λ b. b || map.contains_key s q) (sym (id_test q k))

contains-less : (s : TagMap) (k q : UpdateId)
    → map.contains_key (map.remove s k) q ≡ (not (same_id q k) && map.contains_key s q)
contains-less s k q =
    contains-taken id_cmp_total id_cmp-IsAntisymmetric s k q ∙ ap (λ b. not b && map.contains_key s q) (sym (id_test q k))

same_tags : (s t : TagMap) → ((q : UpdateId) → map.contains_key s q ≡ map.contains_key t q) → s ≡ t
same_tags s t h = same_members id_cmp_total id_cmp-IsAntisymmetric s t h

-- one more id
module _ (ks : List UpdateId) (i : ℕ) (id : UpdateId) where
  pub list-put : key_set {R = id_cmp} (insert ks i id) ≡ map.insert (key_set ks) id tt
  list-put = same_tags _ _ (λ q.
      contains-list (insert ks i id) q
      ∙ sym (list_any-IsPermutation (same_id q) (id ∷ ks) (insert ks i id) (IsPermutation-insert ks i id))
      ∙ sym (contains-more (key_set ks) id q ∙ ap (λ b. same_id q id || b) (contains-list ks q)))

  pub list-put-distinct : IsDistinct same_id ks → list_any (same_id id) ks ≡ false → IsDistinct same_id (insert ks i id)
  list-put-distinct distinct new =
      let first =
      IsDistinct-IsPermutation same_id id_equiv.symm (ks ++ id ∷ []) (id ∷ ks) (IsPermutation-to_front ks id)
      (IsDistinct-push id_equiv ks id distinct new) in
      IsDistinct-IsPermutation same_id id_equiv.symm (id ∷ ks) (insert ks i id) (IsPermutation-insert ks i id) first

none-any : (e : UpdateId → UpdateId → Bool) (k : UpdateId) (ks : List UpdateId) → AllByRecursion (λ y. e k y ≡ false) ks
    → list_any (e k) ks ≡ false
none-any e k [] h = refl
none-any e k (x ∷ ks) h = ap (λ b. b || list_any (e k) ks) h.0 ∙ none-any e k ks h.1

pub at_place : (ks : List UpdateId) (i : ℕ) (id d : UpdateId) → slice_get ks i ≡ Some id
    → (i < length ks) × (id ≡ get_or ks i d)
at_place [] i id d h = absurd (none-some id h)
at_place (k ∷ ks) zero id d h = (omega arith, sym (same_Some _ _ h))
at_place (k ∷ ks) (suc i) id d h = let rest = at_place ks i id d h in (omega (arith, rest.0), rest.1)

any-at : (ks : List UpdateId) (i : ℕ) (id : UpdateId) → slice_get ks i ≡ Some id → list_any (same_id id) ks ≡ true
any-at [] i id h = absurd (none-some id h)
any-at (k ∷ ks) zero id h = ap (λ b. b || list_any (same_id id) ks) (ap (same_id id) (same_Some _ _ h) ∙ id_equiv.refl id)
any-at (k ∷ ks) (suc i) id h = ap (λ b. same_id id k || b) (any-at ks i id h) ∙ or_true (same_id id k)
  where
    or_true : (b : Bool) → (b || true) ≡ true
    or_true true = refl
    or_true false = refl

-- an id is taken out
module _ (ks rest : List UpdateId) (id : UpdateId) (distinct : IsDistinct same_id ks)
    (moved : IsPermutation ks (id ∷ rest)) where
  still : IsDistinct same_id (id ∷ rest)
  still = IsDistinct-IsPermutation same_id id_equiv.symm ks (id ∷ rest) moved distinct

  pub list-taken-distinct : IsDistinct same_id rest
  list-taken-distinct = IsDistinct-tail same_id id rest still

  pub list-taken : key_set {R = id_cmp} rest ≡ map.remove (key_set ks) id
  list-taken =
      let gone = none-any same_id id rest (IsDistinct-head same_id id rest still) in
      same_tags _ _ (λ q.
      contains-list rest q ∙ by gone q (same_id q id) refl
      ∙ sym (contains-less (key_set ks) id q ∙ ap (λ b. not (same_id q id) && b) (contains-list ks q ∙ list_any-IsPermutation (same_id q) ks (id ∷ rest) moved)))
    where
      by : list_any (same_id id) rest ≡ false → (q : UpdateId) (b : Bool) → same_id q id ≡ b
          → list_any (same_id q) rest ≡ (not b && (b || list_any (same_id q) rest))
      by gone q true is = ap (λ k. list_any (same_id k) rest) (same-id q id is) ∙ gone
      by gone q false is = refl

-- the places of an id
pub taken_last : (ks : List UpdateId) (i : ℕ) (id : UpdateId) → slice_get ks i ≡ Some id
    → IsPermutation ks (id ∷ swap_remove ks i id)
taken_last ks i id at = IsPermutation-swap_remove ks i id (at_place ks i id id at).0 (at_place ks i id id at).1

pub taken_out : (ks : List UpdateId) (i : ℕ) (id : UpdateId) → slice_get ks i ≡ Some id
    → IsPermutation ks (id ∷ remove ks i)
taken_out ks i id at = IsPermutation-remove ks i id (at_place ks i id id at).0 (at_place ks i id id at).1

-- an id that is not there
pub list-absent : (ks : List UpdateId) (id : UpdateId) → list_any (same_id id) ks ≡ false
    → key_set {R = id_cmp} ks ≡ map.remove (key_set ks) id
list-absent ks id none = same_tags _ _ (λ q.
    contains-list ks q ∙ by q (same_id q id) refl
    ∙ sym (contains-less (key_set ks) id q ∙ ap (λ b. not (same_id q id) && b) (contains-list ks q)))
  where
    by : (q : UpdateId) (b : Bool) → same_id q id ≡ b → list_any (same_id q) ks ≡ (not b && list_any (same_id q) ks)
    by q true is = ap (λ k. list_any (same_id k) ks) (same-id q id is) ∙ none
    by q false is = refl

-- ## How many

len-list : (ks : List UpdateId) → IsDistinct same_id ks → map.len (key_set {R = id_cmp} ks) ≡ length ks
len-list [] h = map.len-empty id_cmp (Unit {0})
len-list (k ∷ ks) h =
    let m = key_set {R = id_cmp} ks in
    let none : map.contains_key m k ≡ false = contains-list ks k ∙ none-any same_id k ks (IsDistinct-head same_id k ks h) in
    let rest = len-list ks (IsDistinct-tail same_id k ks h) in
    let one : map.len m + 1 ≡ suc (length ks) = omega arith in
    map.len-insert id_cmp_total m k tt ∙ ap (λ b. cond b (map.len m) (map.len m + 1)) none ∙ one

length-keys : {K X : Type 0} (es : List (K × X)) → length (list_map (λ (e : K × X). e.0) es) ≡ length es
length-keys [] = refl
length-keys (e ∷ es) = ap (λ n. suc n) (length-keys es)

pub length-list : (ks : List UpdateId) → IsDistinct same_id ks → length (map.keys (key_set {R = id_cmp} ks)) ≡ length ks
length-list ks h =
    length-keys (map.entries (key_set {R = id_cmp} ks)) ∙ sym (map.len-entries (key_set ks)) ∙ len-list ks h

some_length : {X : Type 0} (xs : List X) → nat_lt 0 (length xs) ≡ has_any xs
some_length [] = refl
some_length (x ∷ xs) = lt-ltb 0 (suc (length xs)) (omega arith)

pub any-list : (ks : List UpdateId) → IsDistinct same_id ks
    → nat_lt 0 (length ks) ≡ has_any (map.keys (key_set {R = id_cmp} ks))
any-list ks h = ap (nat_lt 0) (sym (length-list ks h)) ∙ some_length (map.keys (key_set {R = id_cmp} ks))

-- ## In ascending order

both_ways : (a b : Bool) → (a ≡ true → b ≡ true) → (b ≡ true → a ≡ true) → a ≡ b
both_ways true b f g = sym (f refl)
both_ways false true f g = g refl
both_ways false false f g = refl

or_cases : (a b : Bool) → (a || b) ≡ true → (a ≡ true) ⊎ (b ≡ true)
or_cases true b h = inl refl
or_cases false b h = inr h

or_left : (a b : Bool) → a ≡ true → (a || b) ≡ true
or_left a b h = ap (λ c. c || b) h

or_right : (a b : Bool) → b ≡ true → (a || b) ≡ true
or_right true b h = refl
or_right false b h = h

-- what is pushed is one more, where it is new
pub pushed : (ts : List UpdateId) (id : UpdateId) (new : Bool) → (IsTrue new ↔ (Contains ts id → ⊥)) → (q : UpdateId)
    → list_any (same_id q) (if new then with_tag id ts else ts) ≡ (list_any (same_id q) ts || same_id q id)
pushed ts id true is q = both_ways _ _
    (λ h. elim (with_tag-members id q ts (Contains-from_any same-id q (with_tag id ts) h)) [
      | inl e ↦ or_right (list_any (same_id q) ts) (same_id q id) (ap (same_id q) (sym e) ∙ id_equiv.refl q)
      | inr there ↦ or_left (list_any (same_id q) ts) (same_id q id) (list_any-from_Contains id_equiv q ts there)
    ])
    (λ h. list_any-from_Contains id_equiv q (with_tag id ts) (members-with_tag id q ts (elim (or_cases (list_any (same_id q) ts) (same_id q id) h) [
      | inl there ↦ inr (Contains-from_any same-id q ts there)
      | inr e ↦ inl (same-id q id e)
    ])))
pushed ts id false is q = both_ways _ _
    (λ h. or_left (list_any (same_id q) ts) (same_id q id) h)
    (λ h. elim (or_cases (list_any (same_id q) ts) (same_id q id) h) [
      | inl there ↦ there
      | inr e ↦ ap (λ k. list_any (same_id k) ts) (same-id q id e) ∙ known (list_any (same_id id) ts) refl
    ])
  where
    known : (b : Bool) → list_any (same_id id) ts ≡ b → b ≡ true
    known true h = refl
    known false h =
        absurd (false≢true (is.1 (λ there. false≢true (sym h ∙ list_any-from_Contains id_equiv id ts there))))

pub strict : (ts : List UpdateId) → AllPairs IsBelow ts → IsStrictlySortedBy id_cmp ts
strict ts up = let d : UpdateId = record { replica = 0; number = 0 } in
    sorted_from_all_adjacent id_cmp_total ts d
    (λ k lt. below-cmp (get_or ts k d) (get_or ts (k + 1) d) (up k (k + 1) d (omega arith) lt))

-- ascending ids with a set's members
pub ascending-list : (ts ks : List UpdateId) → AllPairs IsBelow ts
    → ((q : UpdateId) → list_any (same_id q) ts ≡ list_any (same_id q) ks) → ts ≡ map.keys (key_set {R = id_cmp} ks)
ascending-list ts ks up h =
    sym
    (keys-set_of id_cmp_total id_cmp-IsAntisymmetric ts
    (sorted-units id_cmp_total id_cmp-IsAntisymmetric ts (strict ts up)))
    ∙ ap map.keys (same_tags (key_set ts) (key_set ks) (λ q. contains-list ts q ∙ h q ∙ sym (contains-list ks q)))

-- ascending ids that are all among others are no more than these
pub no_more : (ts ks : List UpdateId) → AllPairs IsBelow ts
    → ((q : UpdateId) → list_any (same_id q) ts ≡ list_any (same_id q) ks) → length ts ≤ length ks
no_more ts ks up h =
    let distinct = subst (λ e. IsDistinct e ts) (sym id_tests) (IsDistinct-from_sorted id_cmp ts (strict ts up)) in
    length-le_from_is_member id_equiv ts ks distinct (λ q there. sym (h q) ∙ there)

pub any-take_more : (ks : List UpdateId) (i : ℕ) (d q : UpdateId) → i < length ks
    → list_any (same_id q) (take (i + 1) ks) ≡ (list_any (same_id q) (take i ks) || same_id q (get_or ks i d))
any-take_more ks i d q lt =
    ap (list_any (same_id q)) (take_more ks i d lt) ∙ list_any-append (same_id q) (take i ks) (get_or ks i d ∷ [])
    ∙ ap (λ b. list_any (same_id q) (take i ks) || b) (or_false (same_id q (get_or ks i d)))
  where
    or_false : (b : Bool) → (b || false) ≡ b
    or_false true = refl
    or_false false = refl

-- one step further through a list, each id of which is pushed
pub pushed_at : (ts new ks : List UpdateId) (i : ℕ) (d id : UpdateId) (is_new : Bool)
    → new ≡ (if is_new then with_tag id ts else ts) → (IsTrue is_new ↔ (Contains ts id → ⊥)) → id ≡ get_or ks i d
    → i < length ks → ((q : UpdateId) → list_any (same_id q) ts ≡ list_any (same_id q) (take i ks)) → (q : UpdateId)
    → list_any (same_id q) new ≡ list_any (same_id q) (take (i + 1) ks)
pushed_at ts new ks i d id is_new ok is here lt before q =
    ap (list_any (same_id q)) ok ∙ pushed ts id is_new is q ∙ (λ j. before q j || same_id q (here j))
    ∙ sym (any-take_more ks i d q lt)
