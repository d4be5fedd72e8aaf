-- The elements that an observed-remove set holds are those that its updates make present.
use Rattle.std.proofs.Common.{◌≡◌, ◌≢◌, ℕ, Bool, true, false, not, cond, ◌||◌, ◌&&◌, List, [], ◌∷◌, map as list_map, filter, fold, Option, Some, None, is_some, refl, ap, sym, ◌∙◌}
use Rattle.std.specs.List.{list_any, filter_map, cons_option}
use Rattle.std.proofs.lemmas.List.{nil_from_length}
use Rattle.std.specs.Ordering.{nat_cmp, is_eq, eq_by_cmp}
use Rattle.std.specs.FinMap.Entries.{by_order}
use Rattle.std.specs.Cmp.{nat_cmp_total, Equal-is}
use Rattle.std.specs.declared.cmp.Ordering.TheVariants.{Less, Equal, Greater}
use Rattle.std.specs.FinMap as map
use Rattle.std.specs.FinMap.{nat_cmp-IsAntisymmetric}
use Rattle.std.specs.FinSet as set
use Rattle.std.proofs.lemmas.Option.{none-some}
use Rattle.la_set.specs.declared.update.UpdateId.{UpdateId}
use Rattle.la_set.specs.declared.update.Update.{Update}
use Rattle.la_object.specs.IdOrder.{id_cmp, Elements, IdSet}
use Rattle.la_object.specs.declared.state.State.TheVariants.{Set}
use Rattle.la_object.specs.OrSet.{element, named, is_removed, live, present, held, with_element, with_ids, element_set}
use Rattle.la_object.specs.Objects.{steps}
use Rattle.la_object.proofs.lemmas.IdOrder.{id_cmp_total, id_cmp-IsAntisymmetric}
use Rattle.la_object.proofs.Steps.{AllOther, or_else, get-with_element, or_else-None}

or_false : (a : Bool) → a ≡ (a || false)
or_false true = refl
or_false false = refl

or_assoc : (a b c : Bool) → ((a || b) || c) ≡ (a || (b || c))
or_assoc true b c = refl
or_assoc false b c = refl

or_swap : (a b c : Bool) → (a || (b || c)) ≡ (b || (a || c))
or_swap true true c = refl
or_swap true false c = refl
or_swap false b c = refl

-- no two updates in the list have one id
abbrev pub IsDistinctList : List Update → Type 0
IsDistinctList [] = Unit {0}
IsDistinctList (u ∷ us) = AllOther u us × IsDistinctList us

module _ (p : UpdateId × ℕ → Bool) where
  -- one more entry passes a test or not
  any-put : (k : UpdateId) (v : ℕ) (es : List (UpdateId × ℕ)) → map.find id_cmp k es ≡ None
      → list_any p (map.put id_cmp k v es) ≡ (p (k, v) || list_any p es)
  any-put k v [] none = refl
  any-put k v (e ∷ es) none =
      elim (id_cmp k e.0) as
      (λ o.
      id_cmp k e.0 ≡ o
      → (map.find id_cmp k es ≡ None → list_any p (map.put id_cmp k v es) ≡ (p (k, v) || list_any p es))
      → list_any p (by_order o ((k, v) ∷ e ∷ es) ((e.0, v) ∷ es) (e ∷ map.put id_cmp k v es))
      ≡ (p (k, v) || (p e || list_any p es))) [
        | Less ↦ λ is rest. refl
        | Equal ↦ λ is rest. absurd (none-some e.1 (sym none ∙ ap (λ o. cond (is_eq o) (Some e.1) (map.find id_cmp k es)) is))
        | Greater ↦ λ is rest. ap (λ b. p e || b) (rest (ap (λ o. cond (is_eq o) (Some e.1) (map.find id_cmp k es)) (sym is) ∙ none)) ∙ or_swap (p e) (p (k, v)) (list_any p es)
      ] refl (any-put k v es)

any-map-filter : (p : ℕ → Bool) (q : UpdateId → Bool) (es : List (UpdateId × ℕ))
    → list_any p (list_map (λ e. e.1) (filter (λ e. q e.0) es)) ≡ list_any (λ e. q e.0 && p e.1) es
any-map-filter p q [] = refl
any-map-filter p q (e ∷ es) =
    elim (q e.0) as
    (λ b.
    list_any p (list_map (λ (x : UpdateId × ℕ). x.1) (cond b (e ∷ filter (λ x. q x.0) es) (filter (λ x. q x.0) es)))
    ≡ ((b && p e.1) || list_any (λ x. q x.0 && p x.1) es))
    [ true ↦ ap (λ b. p e.1 || b) (any-map-filter p q es) | false ↦ any-map-filter p q es ]

-- the ids that are gone after some steps
pub gone_after : IdSet → List Update → IdSet
gone_after gone us = fold (λ g u. with_ids g (named u.op)) gone us

unfoldable pub adds_after : Elements → List Update → Elements
adds_after adds us = fold (λ a u. with_element a u.id (element u.op)) adds us

pub steps-Set : (adds : Elements) (gone : IdSet) (us : List Update)
    → steps (Set adds gone) us ≡ Set (adds_after adds us) (gone_after gone us)
unfolding gone_after adds_after
steps-Set adds gone [] = refl
steps-Set adds gone (u ∷ us) = steps-Set (with_element adds u.id (element u.op)) (with_ids gone (named u.op)) us

pub contains-gone_after : (gone : IdSet) (us : List Update) (id : UpdateId)
    → set.contains (gone_after gone us) id ≡ (set.contains gone id || is_removed us id)
unfolding gone_after
contains-gone_after gone [] id = or_false _
contains-gone_after gone (u ∷ us) id =
    contains-gone_after (with_ids gone (named u.op)) us id
    ∙ ap (λ b. b || is_removed us id)
    (set.contains-union id_cmp_total gone (set.from_list (named u.op)) id
    ∙ ap (λ b. set.contains gone id || b) (set.contains-from_list id_cmp_total (named u.op) id))
    ∙ or_assoc (set.contains gone id) (list_any (eq_by_cmp id_cmp id) (named u.op)) (is_removed us id)

-- the element of a Put whose id passes
left : (UpdateId → Bool) → UpdateId → Option ℕ → Option ℕ
left q id o = cond (q id) o None

or_comm : (a b : Bool) → (a || b) ≡ (b || a)
or_comm true true = refl
or_comm true false = refl
or_comm false true = refl
or_comm false false = refl

any-cons_option : (p : ℕ → Bool) (o : Option ℕ) (ys : List ℕ)
    → list_any p (cons_option o ys) ≡ (list_any p (cons_option o []) || list_any p ys)
any-cons_option p None ys = refl
any-cons_option p (Some y) ys = ap (λ b. b || list_any p ys) (or_false (p y))

-- no update's id is a key
abbrev pub AreNew : Elements → List Update → Type 0
AreNew adds [] = Unit {0}
AreNew adds (u ∷ us) = (map.get adds u.id ≡ None) × AreNew adds us

differ : (a b : UpdateId) → a ≢ b → eq_by_cmp id_cmp b a ≡ false
differ a b ne = by (eq_by_cmp id_cmp b a) refl
  where
    by : (r : Bool) → eq_by_cmp id_cmp b a ≡ r → r ≡ false
    by true e = absurd (ne (sym (id_cmp-IsAntisymmetric b a ((Equal-is (id_cmp b a)).0 e))))
    by false e = refl

still_new : (adds : Elements) (id : UpdateId) (o : Option ℕ) (v : UpdateId) → id ≢ v → map.get adds v ≡ None
    → map.get (with_element adds id o) v ≡ None
still_new adds id None v ne none = none
still_new adds id (Some x) v ne none =
    get-with_element adds id x v ∙ ap (λ b. or_else (map.get adds v) (cond b (Some x) None)) (differ id v ne)
    ∙ ap (λ g. or_else g None) none ∙ or_else-None

pub AreNew-more : (adds : Elements) (u : Update) (us : List Update) → AllOther u us → AreNew adds us
    → AreNew (with_element adds u.id (element u.op)) us
AreNew-more adds u [] other new = tt
AreNew-more adds u (v ∷ us) other new =
    (still_new adds u.id (element u.op) v.id other.0 new.0, AreNew-more adds u us other.1 new.1)

module _ (q : UpdateId → Bool) (x : ℕ) where
  abbrev passes : UpdateId × ℕ → Bool
  passes e = q e.0 && eq_by_cmp nat_cmp x e.1

  one-element : (adds : Elements) (id : UpdateId) (o : Option ℕ) → map.get adds id ≡ None
      → list_any passes (map.entries (with_element adds id o))
      ≡ (list_any passes (map.entries adds) || list_any (eq_by_cmp nat_cmp x) (cons_option (left q id o) []))
  unfolding left
  one-element adds id None none =
      elim (q id) as
      (λ b.
      list_any passes (map.entries adds)
      ≡ (list_any passes (map.entries adds) || list_any (eq_by_cmp nat_cmp x) (cons_option (cond b None None) [])))
      [ true ↦ or_false _ | false ↦ or_false _ ]
  one-element adds id (Some y) none =
      ap (λ g. list_any passes (map.entries (cond (is_some g) adds (map.insert adds id y)))) none
      ∙ ap (list_any passes) (map.entries-insert id_cmp_total adds id y)
      ∙ any-put passes id y (map.entries adds) (sym (map.get-entries adds id) ∙ none)
      ∙ or_comm (passes (id, y)) (list_any passes (map.entries adds))
      ∙ ap (λ b. list_any passes (map.entries adds) || b)
      (elim (q id) as
      (λ b. (b && eq_by_cmp nat_cmp x y) ≡ list_any (eq_by_cmp nat_cmp x) (cons_option (cond b (Some y) None) []))
      [ true ↦ or_false _ | false ↦ refl ])

  held-after : (adds : Elements) (us : List Update) → AreNew adds us → IsDistinctList us
      → list_any passes (map.entries (adds_after adds us))
      ≡ (list_any passes (map.entries adds)
      || list_any (eq_by_cmp nat_cmp x) (filter_map (λ u. left q u.id (element u.op)) us))
  unfolding adds_after
  held-after adds [] new distinct = or_false _
  held-after adds (u ∷ us) new distinct =
      let more = with_element adds u.id (element u.op) in
      let rest = list_any (eq_by_cmp nat_cmp x) (filter_map (λ (v : Update). left q v.id (element v.op)) us) in
      held-after more us (AreNew-more adds u us distinct.0 new.1) distinct.1
      ∙ ap (λ b. b || rest) (one-element adds u.id (element u.op) new.0)
      ∙ or_assoc (list_any passes (map.entries adds)) _ rest
      ∙ ap (λ b. list_any passes (map.entries adds) || b)
      (sym
      (any-cons_option (eq_by_cmp nat_cmp x) (left q u.id (element u.op))
      (filter_map (λ (v : Update). left q v.id (element v.op)) us)))

pub AreNew-empty : (us : List Update) → AreNew map.empty us
AreNew-empty [] = tt
AreNew-empty (u ∷ us) = (map.get-empty id_cmp u.id, AreNew-empty us)

pub entries-empty : map.entries (map.empty {X = ℕ} {R = id_cmp}) ≡ []
entries-empty = nil_from_length _ (sym (map.len-entries map.empty) ∙ map.len-empty id_cmp ℕ)

-- whether an element is in the set of some elements
pub get-element_set : (xs : List ℕ) (x : ℕ)
    → map.get (element_set xs) x ≡ cond (list_any (eq_by_cmp nat_cmp x) xs) (Some (tt {0})) None
get-element_set [] x = map.get-empty nat_cmp x
get-element_set (y ∷ ys) x =
    map.get-insert nat_cmp_total (element_set ys) y tt x
    ∙ ap (cond (eq_by_cmp nat_cmp x y) (Some (tt {0}))) (get-element_set ys x)
    ∙ elim (eq_by_cmp nat_cmp x y) as
    (λ b.
    cond b (Some (tt {0})) (cond (list_any (eq_by_cmp nat_cmp x) ys) (Some (tt {0})) None)
    ≡ cond (b || list_any (eq_by_cmp nat_cmp x) ys) (Some (tt {0})) None) [ true ↦ refl | false ↦ refl ]

-- the elements that the steps hold are those that are present
pub held-present : (us : List Update) → IsDistinctList us
    → held (adds_after map.empty us) (gone_after set.empty us) ≡ present us
unfolding left
held-present us distinct = map.same_map nat_cmp_total nat_cmp-IsAntisymmetric _ _ (λ x.
    let gone =
    gone_after set.empty us in let q : UpdateId
    → Bool = λ id. not (set.contains gone id) in let eq = eq_by_cmp nat_cmp x in
    let removed : (id : UpdateId) → set.contains gone id ≡ is_removed us id =
    λ id. contains-gone_after set.empty us id ∙ ap (λ b. b || is_removed us id) (set.contains-empty id_cmp id) in
    let alike : (u : Update) → left q u.id (element u.op) ≡ live us u =
    λ u.
    ap (λ b. cond (not b) (element u.op) None) (removed u.id)
    ∙ elim (is_removed us u.id) as (λ b. cond (not b) (element u.op) None ≡ cond b None (element u.op))
    [ true ↦ refl | false ↦ refl ] in
    get-element_set _ x
    ∙ ap (λ b. cond b (Some (tt {0})) None) (any-map-filter eq q (map.entries (adds_after map.empty us))
    ∙ held-after q x map.empty us (AreNew-empty us) distinct
    ∙ ap (λ es. list_any (passes q x) es || list_any eq (filter_map (λ (u : Update). left q u.id (element u.op)) us))
    entries-empty
    ∙ (λ i. list_any eq (filter_map (λ u. alike u i) us)))
    ∙ sym (get-element_set (filter_map (live us) us) x))
