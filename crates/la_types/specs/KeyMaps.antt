-- Finite maps from keys, which are bytes, in the order of a dictionary.
use Rattle.std.specs.Prelude.{◌≡◌, ℕ, Bool, true, false, cond, List, [], ◌∷◌, map, Option, Some, None, option_map, refl}
use Rattle.std.proofs.Common.{ap, sym, ◌∙◌}
use Rattle.std.specs.Ordering.{nat_cmp, eq_by_cmp}
use Rattle.std.specs.Cmp.Lexicographic.{slice_cmp}
use Rattle.std.specs.Coded.{Coded, coded_ℕ, coded_list}
use Rattle.std.specs.FinMap as fin
use Rattle.std.proofs.lemmas.Option.{none-some}
use Rattle.la_types.specs.KeyOrder.{key_total, key_tied}

abbrev pub KeyMap : Type 0 → Type 0
KeyMap X = fin.FinMap (slice_cmp nat_cmp) X

abbrev pub key_map_code : {X : Type 0} → Coded X → Coded (KeyMap X)
key_map_code x = fin.code (coded_list coded_ℕ) x

-- the map of some entries, whose keys are read so
abbrev pub with_keys : {K X : Type 0} → (K → List ℕ) → List (K × X) → KeyMap X
with_keys read es = fin.from_entries (map (λ e. (read e.0, e.1)) es)

-- the same keys, each with what its value is made into
abbrev pub map_values : {X Y : Type 0} → (X → Y) → KeyMap X → KeyMap Y
map_values f m = fin.from_entries (map (λ e. (e.0, f e.1)) (fin.entries m))

module _ {X Y : Type 0} (f : X → Y) where
  find_made : (es : List (List ℕ × X)) (q : List ℕ)
      → fin.find (slice_cmp nat_cmp) q (map (λ e. (e.0, f e.1)) es)
      ≡ option_map f (fin.find (slice_cmp nat_cmp) q es)
  find_made [] q = refl
  find_made (e ∷ es) q = by (eq_by_cmp (slice_cmp nat_cmp) q e.0) (find_made es q)
    where
      by : (b : Bool)
          → fin.find (slice_cmp nat_cmp) q (map (λ d. (d.0, f d.1)) es)
          ≡ option_map f (fin.find (slice_cmp nat_cmp) q es)
          → cond b (Some (f e.1)) (fin.find (slice_cmp nat_cmp) q (map (λ d. (d.0, f d.1)) es))
          ≡ option_map f (cond b (Some e.1) (fin.find (slice_cmp nat_cmp) q es))
      by true rest = refl
      by false rest = rest

  pub get-map_values : (m : KeyMap X) (q : List ℕ) → fin.get (map_values f m) q ≡ option_map f (fin.get m q)
  get-map_values m q =
      fin.get-from_entries key_total (map (λ e. (e.0, f e.1)) (fin.entries m)) q
      ∙ find_made (fin.entries m) q
      ∙ ap (option_map f) (sym (fin.get-entries m q))

  pub map_values-empty : map_values f fin.empty ≡ fin.empty
  map_values-empty = fin.same_map key_total key_tied _ _ (λ q.
      get-map_values fin.empty q ∙ ap (option_map f) (fin.get-empty (slice_cmp nat_cmp) q)
      ∙ sym (fin.get-empty (slice_cmp nat_cmp) q))

  pub empty-map_values : (m : KeyMap X) → map_values f m ≡ fin.empty → m ≡ fin.empty
  empty-map_values m is = fin.same_map key_total key_tied _ _ (λ q.
      none (fin.get m q) (sym (get-map_values m q) ∙ ap (λ n. fin.get n q) is ∙ fin.get-empty (slice_cmp nat_cmp) q)
      ∙ sym (fin.get-empty (slice_cmp nat_cmp) q))
    where
      none : (o : Option X) → option_map f o ≡ None → o ≡ None
      none None e = refl
      none (Some x) e = absurd (none-some (f x) (sym e))

  pub map_values-insert : (m : KeyMap X) (k : List ℕ) (x : X)
      → map_values f (fin.insert m k x) ≡ fin.insert (map_values f m) k (f x)
  map_values-insert m k x = fin.same_map key_total key_tied _ _ (λ q.
      get-map_values (fin.insert m k x) q
      ∙ ap (option_map f) (fin.get-insert key_total m k x q)
      ∙ by q (eq_by_cmp (slice_cmp nat_cmp) q k)
      ∙ sym (fin.get-insert key_total (map_values f m) k (f x) q))
    where
      by : (q : List ℕ) (b : Bool)
          → option_map f (cond b (Some x) (fin.get m q)) ≡ cond b (Some (f x)) (fin.get (map_values f m) q)
      by q true = refl
      by q false = sym (get-map_values m q)
