-- Entries in strict order of their keys, and what stands in a finite map that is made of them.
use Rattle.std.proofs.Common.{◌≡◌, Bool, true, false, ◌&&◌, ◌||◌, cond, T, List, [], ◌∷◌, map as list_map, filter, Option, Some, None, refl, ap, sym, ◌∙◌, subst}
use Rattle.std.specs.List.{list_any, AllByRecursion}
use Rattle.std.specs.List.Sorted.{IsStrictlySortedBy}
use Rattle.std.specs.Map.{keys_of, lookup}
use Rattle.std.specs.BTreeMap.{is_at}
use Rattle.std.specs.Ordering.{is_eq, is_lt, eq_by_cmp}
use Rattle.std.specs.Cmp.{IsTotalOrder, Equal-is, eq_by_cmp_equiv}
use Rattle.std.specs.declared.cmp.Ordering.{Ordering}
use Rattle.std.specs.declared.cmp.Ordering.TheVariants.{Less, Equal, Greater}
use Rattle.std.specs.FinMap as map
use Rattle.std.specs.FinMap.{IsAntisymmetric}
use Rattle.std.specs.FinMap.Entries.{is_sorted, below_all, find}

both : (a b : Bool) → T a → T b → T (a && b)
both true b p q = q
both false b p q = p

pub first : (a b : Bool) → T (a && b) → T a
first true b p = tt
first false b p = p

pub second : (a b : Bool) → T (a && b) → T b
second true b p = p
second false b p = absurd p

and_false : (b : Bool) → (b && false) ≡ false
and_false true = refl
and_false false = refl

and_true : (b : Bool) → (b && true) ≡ b
and_true true = refl
and_true false = refl

or_false : (b : Bool) → (b || false) ≡ b
or_false true = refl
or_false false = refl

not_tied : (r : Ordering) → T (is_lt r) → is_eq r ≡ false
not_tied Less h = refl
not_tied Equal h = absurd h
not_tied Greater h = refl

-- what a test says of a value that may be there
abbrev pub passes : {X : Type 0} → (X → Bool) → Option X → Bool
passes p None = false
passes p (Some x) = p x

abbrev pub units : {K : Type 0} → List K → List (K × Unit {0})
units ks = list_map (λ k. (k, tt)) ks

module _ {K X : Type 0} (R : K → K → Ordering) where
  below-keys : (x : K) (es : List (K × X)) → AllByRecursion (λ y. R x y ≡ Less) (keys_of es) → T (below_all R x es)
  below-keys x [] h = tt
  below-keys x (e ∷ es) h = both _ _ (subst (λ r. T (is_lt r)) (sym h.0) tt) (below-keys x es h.1)

  -- keys in strict order
  pub sorted-keys : (es : List (K × X)) → IsStrictlySortedBy R (keys_of es) → T (is_sorted R es)
  unfolding IsStrictlySortedBy
  sorted-keys [] h = tt
  sorted-keys (e ∷ es) h = both _ _ (below-keys e.0 es h.0) (sorted-keys es h.1)

  none-above : (p : K × X → Bool) (x : K) (es : List (K × X)) → T (below_all R x es)
      → list_any (λ e. p e && eq_by_cmp R x e.0) es ≡ false
  none-above p x [] h = refl
  none-above p x (e ∷ es) h =
      ap (λ b. (p e && b) || list_any (λ (f : K × X). p f && eq_by_cmp R x f.0) es) (not_tied (R x e.0) (first _ _ h))
      ∙ ap (λ b. b || list_any (λ (f : K × X). p f && eq_by_cmp R x f.0) es) (and_false (p e))
      ∙ none-above p x es (second _ _ h)

  -- no entry is found under a key below all
  pub not_found : (x : K) (es : List (K × X)) → T (below_all R x es) → find R x es ≡ None
  not_found x [] h = refl
  not_found x (e ∷ es) h =
      ap (λ b. cond b (Some e.1) (find R x es)) (not_tied (R x e.0) (first _ _ h)) ∙ not_found x es (second _ _ h)

  -- the one entry under a key, if it passes
  pub any-find : IsAntisymmetric R → (p : K → X → Bool) (es : List (K × X)) (q : K) → T (is_sorted R es)
      → list_any (λ e. p e.0 e.1 && eq_by_cmp R q e.0) es ≡ passes (p q) (find R q es)
  any-find same p [] q h = refl
  any-find same p (e ∷ es) q h = by (eq_by_cmp R q e.0) refl (any-find same p es q (second _ _ h))
    where
      by : (b : Bool) → eq_by_cmp R q e.0 ≡ b
          → list_any (λ (f : K × X). p f.0 f.1 && eq_by_cmp R q f.0) es ≡ passes (p q) (find R q es)
          → ((p e.0 e.1 && b) || list_any (λ (f : K × X). p f.0 f.1 && eq_by_cmp R q f.0) es)
          ≡ passes (p q) (cond b (Some e.1) (find R q es))
      by true is rest =
          let here : q ≡ e.0 = same q e.0 ((Equal-is (R q e.0)).0 is) in
          (λ i. (p e.0 e.1 && true) || list_any (λ (f : K × X). p f.0 f.1 && eq_by_cmp R (here i) f.0) es)
          ∙ ap (λ b. (p e.0 e.1 && true) || b) (none-above (λ f. p f.0 f.1) e.0 es (first _ _ h))
          ∙ or_false (p e.0 e.1 && true) ∙ and_true (p e.0 e.1) ∙ ap (λ k. p k e.1) (sym here)
      by false is rest =
          ap (λ b. b || list_any (λ (f : K × X). p f.0 f.1 && eq_by_cmp R q f.0) es) (and_false (p e.0 e.1)) ∙ rest

  -- the keys of entries that pass
  pub any-keys : (r : K → Bool) (p : K × X → Bool) (es : List (K × X))
      → list_any r (list_map (λ (e : K × X). e.0) (filter p es)) ≡ list_any (λ e. p e && r e.0) es
  any-keys r p [] = refl
  any-keys r p (e ∷ es) =
      elim (p e) as
      (λ b.
      list_any r (list_map (λ (f : K × X). f.0) (cond b (e ∷ filter p es) (filter p es)))
      ≡ ((b && r e.0) || list_any (λ f. p f && r f.0) es))
      [ true ↦ ap (λ b. r e.0 || b) (any-keys r p es) | false ↦ any-keys r p es ]

  below-filter : (x : K) (p : K × X → Bool) (es : List (K × X)) → T (below_all R x es)
      → T (below_all R x (units (list_map (λ (e : K × X). e.0) (filter p es))))
  below-filter x p [] h = tt
  below-filter x p (e ∷ es) h =
      let rest = below-filter x p es (second _ _ h) in
      elim (p e) as
      (λ b. T (below_all R x (units (list_map (λ (f : K × X). f.0) (cond b (e ∷ filter p es) (filter p es))))))
      [ true ↦ both _ _ (first _ _ h) rest | false ↦ rest ]

  -- these keys are in strict order too
  pub sorted-filter : (p : K × X → Bool) (es : List (K × X)) → T (is_sorted R es)
      → T (is_sorted R (units (list_map (λ (e : K × X). e.0) (filter p es))))
  sorted-filter p [] h = tt
  sorted-filter p (e ∷ es) h =
      let rest = sorted-filter p es (second _ _ h) in
      elim (p e) as
      (λ b. T (is_sorted R (units (list_map (λ (f : K × X). f.0) (cond b (e ∷ filter p es) (filter p es))))))
      [ true ↦ both _ _ (below-filter e.0 p es (first _ _ h)) rest | false ↦ rest ]

  find-lookup : (es : List (K × X)) (q : K) → find R q es ≡ lookup (is_at (R q)) es
  find-lookup [] q = refl
  find-lookup (e ∷ es) q = ap (cond (is_at (R q) e.0) (Some e.1)) (find-lookup es q)

module _ {K X : Type 0} {R : K → K → Ordering} (o : IsTotalOrder R) where
  -- what the map of some entries has at a key
  pub get-lookup : (es : List (K × X)) (q : K) → map.get (map.from_entries {R = R} es) q ≡ lookup (is_at (R q)) es
  get-lookup es q = map.get-from_entries o es q ∙ find-lookup R es q

  -- the map of entries in strict order has these entries
  pub entries-from_entries : IsAntisymmetric R → (es : List (K × X)) → T (is_sorted R es)
      → map.entries (map.from_entries {R = R} es) ≡ es
  entries-from_entries same es h =
      ap map.entries
      (map.same_map o same (map.from_entries es) (map.from_sorted es)
      (λ q. map.get-from_entries o es q ∙ sym (map.get-from_sorted R es q h)))
      ∙ map.entries-from_sorted R es h

  -- entries that differ at one key make maps that differ there
  pub one_put : IsAntisymmetric R → (es fs : List (K × X)) (k : K) (x : X)
      → ((q : K) → lookup (is_at (R q)) fs ≡ cond (is_at (R k) q) (Some x) (lookup (is_at (R q)) es))
      → map.from_entries {R = R} fs ≡ map.insert (map.from_entries es) k x
  one_put same es fs k x h = map.same_map o same _ _ (λ q.
      get-lookup fs q ∙ h q ∙ ap (λ b. cond b (Some x) (lookup (is_at (R q)) es)) ((eq_by_cmp_equiv o).symm k q)
      ∙ sym (map.get-insert o (map.from_entries es) k x q ∙ ap (cond (eq_by_cmp R q k) (Some x)) (get-lookup es q)))

  -- entries that lack one key make a map that lacks it
  pub one_taken : IsAntisymmetric R → (es fs : List (K × X)) (k : K)
      → ((q : K) → lookup (is_at (R q)) fs ≡ cond (is_at (R k) q) None (lookup (is_at (R q)) es))
      → map.from_entries {R = R} fs ≡ map.remove (map.from_entries es) k
  one_taken same es fs k h = map.same_map o same _ _ (λ q.
      get-lookup fs q ∙ h q ∙ ap (λ b. cond b None (lookup (is_at (R q)) es)) ((eq_by_cmp_equiv o).symm k q)
      ∙ sym (map.get-remove o (map.from_entries es) k q ∙ ap (cond (eq_by_cmp R q k) None) (get-lookup es q)))
