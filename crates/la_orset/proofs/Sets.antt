-- Finite sets of keys, as maps with nothing at each key.
use Rattle.std.proofs.Common.{◌≡◌, Bool, true, false, not, ◌&&◌, ◌||◌, cond, T, List, [], ◌∷◌, map as list_map, length, Option, Some, None, is_some, refl, ap, sym, ◌∙◌, subst}
use Rattle.std.specs.List.{list_any}
use Rattle.std.specs.List.Sorted.{IsStrictlySortedBy}
use Rattle.std.specs.BTreeMap.{is_at}
use Rattle.std.specs.Ordering.{eq_by_cmp, is_lt}
use Rattle.std.specs.Cmp.{IsTotalOrder, eq_by_cmp_equiv}
use Rattle.std.specs.declared.cmp.Ordering.{Ordering}
use Rattle.std.specs.FinMap as map
use Rattle.std.specs.FinMap.{FinMap, IsAntisymmetric}
use Rattle.std.specs.FinMap.Entries.{is_sorted, below_all}
use Rattle.std.proofs.lemmas.List.{nil_from_length}
use Rattle.la_orset.specs.Index.{key_set, has_any}
use Rattle.la_object.proofs.lemmas.Sorted.{units, entries-from_entries, sorted-keys}

abbrev marked : Bool → Option (Unit {0})
marked b = cond b (Some tt) None

marks : (x : Option (Unit {0})) → x ≡ marked (is_some x)
marks None = refl
marks (Some u) = refl

is_some-marked : (b : Bool) → is_some (marked b) ≡ b
is_some-marked true = refl
is_some-marked false = refl

marked-or : (a b : Bool) → cond a (Some tt) (marked b) ≡ marked (a || b)
marked-or true b = refl
marked-or false b = refl

some-or : (b : Bool) (x : Option (Unit {0})) → is_some (cond b (Some tt) x) ≡ (b || is_some x)
some-or true x = refl
some-or false x = refl

none-and : (b : Bool) (x : Option (Unit {0})) → is_some (cond b None x) ≡ (not b && is_some x)
none-and true x = refl
none-and false x = refl

cond-or : (b c : Bool) → cond b true c ≡ (b || c)
cond-or true c = refl
cond-or false c = refl

cond-and : (b c : Bool) → cond b false c ≡ (not b && c)
cond-and true c = refl
cond-and false c = refl

pub keys-units : {K : Type 0} (ks : List K) → list_map (λ (e : K × Unit {0}). e.0) (units ks) ≡ ks
keys-units [] = refl
keys-units (k ∷ ks) = ap (λ xs. k ∷ xs) (keys-units ks)

pub has_any-true : {X : Type 0} (p : X → Bool) (xs : List X) → list_any p xs ≡ true → has_any xs ≡ true
has_any-true p [] h = h
has_any-true p (x ∷ xs) h = refl

no_length : {X Y : Type 0} (f : X → Y) (xs : List X) → has_any (list_map f xs) ≡ false → length xs ≡ 0
no_length f [] h = refl
no_length f (x ∷ xs) h = absurd (subst T h tt)

pub entries-empty : {K : Type 0} (R : K → K → Ordering) (X : Type 0) → map.entries (map.empty {X = X} {R = R}) ≡ []
entries-empty R X = nil_from_length _ (sym (map.len-entries map.empty) ∙ map.len-empty R X)

pub keys-empty : {K : Type 0} (R : K → K → Ordering) (X : Type 0) → map.keys (map.empty {X = X} {R = R}) ≡ []
keys-empty {K} R X = ap (list_map (λ (e : K × X). e.0)) (entries-empty R X)

module _ {K : Type 0} {R : K → K → Ordering} (o : IsTotalOrder R) (same : IsAntisymmetric R) where
  get-set_of : (ks : List K) (q : K) → map.get (key_set {R = R} ks) q ≡ marked (list_any (eq_by_cmp R q) ks)
  get-set_of [] q = map.get-empty R q
  get-set_of (k ∷ ks) q =
      map.get-insert o (key_set ks) k tt q ∙ ap (cond (eq_by_cmp R q k) (Some tt)) (get-set_of ks q)
      ∙ marked-or (eq_by_cmp R q k) (list_any (eq_by_cmp R q) ks)

  pub contains-set_of : (ks : List K) (q : K) → map.contains_key (key_set {R = R} ks) q ≡ list_any (eq_by_cmp R q) ks
  contains-set_of ks q = ap is_some (get-set_of ks q) ∙ is_some-marked _

  pub same_members : (s t : FinMap R (Unit {0})) → ((q : K) → map.contains_key s q ≡ map.contains_key t q) → s ≡ t
  same_members s t h = map.same_map o same s t (λ q. marks _ ∙ ap marked (h q) ∙ sym (marks _))

  pub contains-put : (s : FinMap R (Unit {0})) (k q : K)
      → map.contains_key (map.insert s k tt) q ≡ (eq_by_cmp R q k || map.contains_key s q)
  contains-put s k q = ap is_some (map.get-insert o s k tt q) ∙ some-or _ _

  pub contains-taken : (s : FinMap R (Unit {0})) (k q : K)
      → map.contains_key (map.remove s k) q ≡ (not (eq_by_cmp R q k) && map.contains_key s q)
  contains-taken s k q = ap is_some (map.get-remove o s k q) ∙ none-and _ _

  pub sorted-units : (ks : List K) → IsStrictlySortedBy R ks → T (is_sorted R (units ks))
  sorted-units ks h = sorted-keys R (units ks) (subst (IsStrictlySortedBy R) (sym (keys-units ks)) h)

  pub keys-set_of : (ks : List K) → T (is_sorted R (units ks)) → map.keys (key_set {R = R} ks) ≡ ks
  keys-set_of ks h =
      ap (list_map (λ (e : K × Unit {0}). e.0)) (entries-from_entries o same (units ks) h) ∙ keys-units ks

  pub one_more : (ks ls : List K) (k : K)
      → ((q : K) → list_any (is_at (R q)) ls ≡ cond (is_at (R k) q) true (list_any (is_at (R q)) ks))
      → key_set {R = R} ls ≡ map.insert (key_set ks) k tt
  one_more ks ls k h = same_members _ _ (λ q.
      contains-set_of ls q ∙ h q ∙ ap (λ b. cond b true (list_any (is_at (R q)) ks)) ((eq_by_cmp_equiv o).symm k q)
      ∙ cond-or (eq_by_cmp R q k) (list_any (eq_by_cmp R q) ks)
      ∙ sym (contains-put (key_set ks) k q ∙ ap (λ b. eq_by_cmp R q k || b) (contains-set_of ks q)))

  pub one_less : (ks ls : List K) (k : K)
      → ((q : K) → list_any (is_at (R q)) ls ≡ cond (is_at (R k) q) false (list_any (is_at (R q)) ks))
      → key_set {R = R} ls ≡ map.remove (key_set ks) k
  one_less ks ls k h = same_members _ _ (λ q.
      contains-set_of ls q ∙ h q ∙ ap (λ b. cond b false (list_any (is_at (R q)) ks)) ((eq_by_cmp_equiv o).symm k q)
      ∙ cond-and (eq_by_cmp R q k) (list_any (eq_by_cmp R q) ks)
      ∙ sym (contains-taken (key_set ks) k q ∙ ap (λ b. not (eq_by_cmp R q k) && b) (contains-set_of ks q)))

  -- a set that nothing is in
  pub nothing_in : (s : FinMap R (Unit {0})) → has_any (map.keys s) ≡ false → s ≡ map.empty
  nothing_in s h = map.empty_of_len s (map.len-entries s ∙ no_length (λ (e : K × Unit {0}). e.0) (map.entries s) h)

  pub something_in : (s : FinMap R (Unit {0})) (k : K) → map.contains_key s k ≡ true → has_any (map.keys s) ≡ true
  something_in s k h = has_any-true (eq_by_cmp R k) (map.keys s) (sym (map.contains_key-keys s k) ∙ h)

below-units : {K X : Type 0} (R : K → K → Ordering) (x : K) (es : List (K × X))
    → below_all R x (units (list_map (λ (e : K × X). e.0) es)) ≡ below_all R x es
below-units R x [] = refl
below-units R x (e ∷ es) = ap (λ b. is_lt (R x e.0) && b) (below-units R x es)

-- the keys of entries in strict order
pub sorted-entries : {K X : Type 0} (R : K → K → Ordering) (es : List (K × X))
    → is_sorted R (units (list_map (λ (e : K × X). e.0) es)) ≡ is_sorted R es
sorted-entries R [] = refl
sorted-entries R (e ∷ es) = (λ i. below-units R e.0 es i && sorted-entries R es i)
