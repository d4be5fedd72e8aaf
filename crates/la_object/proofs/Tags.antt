-- The live tags of an element, where the updates come in the order of their ids: what a state holds of them, in that order.
use Rattle.std.proofs.Common.{◌≡◌, ◌≢◌, ℕ, suc, ◌<◌, ◌==◌, Bool, true, false, not, ◌&&◌, ◌||◌, cond, List, [], ◌∷◌, ◌++◌, map as list_map, filter, Option, Some, None, is_some, refl, ap, sym, ◌∙◌, subst, append_assoc, append-nil, length, get_or, arith, inl, inr}
use Rattle.std.specs.List.{filter_map, cons_option}
use Rattle.std.specs.Option.{option_map}
use Rattle.std.specs.Ordering.{is_eq}
use Rattle.std.specs.Cmp.{tied_itself}
use Rattle.std.specs.declared.cmp.Ordering.TheVariants.{Greater}
use Rattle.std.specs.FinMap as map
use Rattle.std.specs.FinMap.Entries.{by_order}
use Rattle.std.specs.FinSet as set
use Rattle.la_set.specs.declared.update.UpdateId.{UpdateId}
use Rattle.la_set.specs.declared.update.Update.{Update}
use Rattle.la_set.specs.Ids.{IsBelow}
use Rattle.la_set.proofs.lemmas.IdOrder.{id_cases, below_trans, below_irreflexive}
use Rattle.la_shelf.specs.Meanings.{AreAscending}
use Rattle.la_object.specs.IdOrder.{id_cmp, Elements}
use Rattle.la_object.specs.OrSet.{element, is_removed, is_element, live_tags, with_element, held_tags}
use Rattle.la_object.proofs.lemmas.IdOrder.{id_cmp_total}
use Rattle.la_object.proofs.Steps.{AllOther}
use Rattle.la_object.proofs.Presence.{IsDistinctList, AreNew, AreNew-more, AreNew-empty, entries-empty, adds_after, gone_after, contains-gone_after}

-- ## Updates in the order of their ids

-- each update in the list has an id above this one's
abbrev pub AllAbove : Update → List Update → Type 0
AllAbove u [] = Unit {0}
AllAbove u (v ∷ vs) = (id_cmp v.id u.id ≡ Greater) × AllAbove u vs

abbrev pub IsAscendingList : List Update → Type 0
IsAscendingList [] = Unit {0}
IsAscendingList (u ∷ us) = AllAbove u us × IsAscendingList us

greater_differs : (x y : UpdateId) → id_cmp y x ≡ Greater → x ≢ y
greater_differs x y above same =
    absurd
    (subst (λ o. is_eq o ≡ false → ⊥) (sym (tied_itself id_cmp_total x)) (λ e. cc)
    (ap is_eq (subst (λ z. id_cmp z x ≡ Greater) (sym same) above)))

pub AllAbove-other : (u : Update) (vs : List Update) → AllAbove u vs → AllOther u vs
AllAbove-other u [] above = tt
AllAbove-other u (v ∷ vs) above = (greater_differs u.id v.id above.0, AllAbove-other u vs above.1)

pub ascending-distinct : (us : List Update) → IsAscendingList us → IsDistinctList us
ascending-distinct [] ascending = tt
ascending-distinct (u ∷ us) ascending = (AllAbove-other u us ascending.0, ascending-distinct us ascending.1)

below-greater : (x y : UpdateId) → IsBelow x y → id_cmp y x ≡ Greater
below-greater x y below = elim (id_cases y x) [
  | inl less ↦ absurd (below_irreflexive x (below_trans x y x below less.0))
  | inr more ↦ elim more [
    | inl same ↦ absurd (below_irreflexive x (subst (λ z. IsBelow x z) same.0 below))
    | inr greater ↦ greater.1
  ]
]

above-each : (u : Update) (vs : List Update) → ((j : ℕ) (d : Update) → j < length vs → IsBelow u.id (get_or vs j d).id)
    → AllAbove u vs
above-each u [] below = tt
above-each u (v ∷ vs) below = (
  below-greater u.id v.id (below 0 u (omega arith)),
  above-each u vs (λ j d within. below (suc j) d (omega arith)),
)

-- each pair of updates in the order of their ids, as a step along the list has it
pub ascending-list : (us : List Update) → AreAscending us → IsAscendingList us
ascending-list [] up = tt
ascending-list (u ∷ us) up = (
  above-each u us (λ j d within. up 0 (suc j) d (omega arith) (omega arith)),
  ascending-list us (λ i j d lt within. up (suc i) (suc j) d (omega arith) (omega arith)),
)

-- ## What was put, in that order

abbrev Entry : Type 0
Entry = UpdateId × ℕ

-- what an update puts
abbrev put_by : Update → Option Entry
put_by u = option_map (λ y. (u.id, y)) (element u.op)

-- the id is above those of all entries
abbrev AllUnder : UpdateId → List Entry → Type 0
AllUnder k [] = Unit {0}
AllUnder k (e ∷ es) = (id_cmp k e.0 ≡ Greater) × AllUnder k es

AllUnder-append : (k : UpdateId) (xs ys : List Entry) → AllUnder k xs → AllUnder k ys → AllUnder k (xs ++ ys)
AllUnder-append k [] ys a b = b
AllUnder-append k (x ∷ xs) ys a b = (a.0, AllUnder-append k xs ys a.1 b)

-- an entry above all others is put last
put-last : (k : UpdateId) (v : ℕ) (es : List Entry) → AllUnder k es → map.put id_cmp k v es ≡ es ++ (k, v) ∷ []
put-last k v [] under = refl
put-last k v (e ∷ es) under =
    ap (λ o. by_order o ((k, v) ∷ e ∷ es) ((e.0, v) ∷ es) (e ∷ map.put id_cmp k v es)) under.0
    ∙ ap (λ xs. e ∷ xs) (put-last k v es under.1)

entries-more : (adds : Elements) (id : UpdateId) (o : Option ℕ) → map.get adds id ≡ None
    → AllUnder id (map.entries adds)
    → map.entries (with_element adds id o) ≡ map.entries adds ++ cons_option (option_map (λ y. (id, y)) o) []
entries-more adds id None none under = sym (append-nil (map.entries adds))
entries-more adds id (Some y) none under =
    ap (λ g. map.entries (cond (is_some g) adds (map.insert adds id y))) none
    ∙ map.entries-insert id_cmp_total adds id y
    ∙ put-last id y (map.entries adds) under

-- each update's id is above those of all entries
abbrev AreAbove : List Entry → List Update → Type 0
AreAbove es [] = Unit {0}
AreAbove es (u ∷ us) = AllUnder u.id es × AreAbove es us

AreAbove-nil : (us : List Update) → AreAbove [] us
AreAbove-nil [] = tt
AreAbove-nil (u ∷ us) = (tt, AreAbove-nil us)

under-one : (k id : UpdateId) (o : Option ℕ) → id_cmp k id ≡ Greater
    → AllUnder k (cons_option (option_map (λ y. (id, y)) o) [])
under-one k id None above = tt
under-one k id (Some y) above = (above, tt)

AreAbove-more : (es : List Entry) (u : Update) (us : List Update) → AllAbove u us → AreAbove es us
    → AreAbove (es ++ cons_option (put_by u) []) us
AreAbove-more es u [] above all = tt
AreAbove-more es u (v ∷ vs) above all =
    (AllUnder-append v.id es _ all.0 (under-one v.id u.id (element u.op) above.0), AreAbove-more es u vs above.1 all.1)

cons_option-append : (o : Option Entry) (es : List Entry) → cons_option o [] ++ es ≡ cons_option o es
cons_option-append None es = refl
cons_option-append (Some e) es = refl

entries-adds_after : (adds : Elements) (us : List Update) → AreNew adds us → IsDistinctList us
    → AreAbove (map.entries adds) us → IsAscendingList us
    → map.entries (adds_after adds us) ≡ map.entries adds ++ filter_map put_by us
unfolding adds_after
entries-adds_after adds [] new distinct above ascending = sym (append-nil (map.entries adds))
entries-adds_after adds (u ∷ us) new distinct above ascending =
    let more = with_element adds u.id (element u.op) in
    let now = entries-more adds u.id (element u.op) new.0 above.0 in
    entries-adds_after more us (AreNew-more adds u us distinct.0 new.1) distinct.1
    (subst (λ es. AreAbove es us) (sym now) (AreAbove-more (map.entries adds) u us ascending.0 above.1)) ascending.1
    ∙ ap (λ es. es ++ filter_map put_by us) now
    ∙ append_assoc (map.entries adds) (cons_option (put_by u) []) (filter_map put_by us)
    ∙ ap (λ es. map.entries adds ++ es) (cons_option-append (put_by u) (filter_map put_by us))

-- ## The tags that are left

module _ (gone : UpdateId → Bool) (x : ℕ) where
  abbrev is_left : Entry → Bool
  is_left e = not (gone e.0) && (e.1 == x)

  abbrev is_live : Update → Bool
  is_live u = is_element x (cond (gone u.id) None (element u.op))

  left-live : (us : List Update)
      → list_map (λ (e : Entry). e.0) (filter is_left (filter_map put_by us))
      ≡ list_map (λ (u : Update). u.id) (filter is_live us)
  left-live [] = refl
  left-live (u ∷ us) = by (element u.op) (left-live us)
    where
      by : (o : Option ℕ)
          → list_map (λ (e : Entry). e.0) (filter is_left (filter_map put_by us))
          ≡ list_map (λ (v : Update). v.id) (filter is_live us)
          → list_map (λ (e : Entry). e.0)
          (filter is_left (cons_option (option_map (λ y. (u.id, y)) o) (filter_map put_by us)))
          ≡ list_map (λ (v : Update). v.id)
          (cond (is_element x (cond (gone u.id) None o)) (u ∷ filter is_live us) (filter is_live us))
      by None rest =
          elim (gone u.id) as
          (λ b.
          list_map (λ (e : Entry). e.0) (filter is_left (filter_map put_by us))
          ≡ list_map (λ (v : Update). v.id)
          (cond (is_element x (cond b None None)) (u ∷ filter is_live us) (filter is_live us)))
          [ true ↦ rest | false ↦ rest ]
      by (Some y) rest =
          elim (gone u.id) as
          (λ b.
          list_map (λ (e : Entry). e.0)
          (cond (not b && (y == x)) ((u.id, y) ∷ filter is_left (filter_map put_by us))
          (filter is_left (filter_map put_by us)))
          ≡ list_map (λ (v : Update). v.id)
          (cond (is_element x (cond b None (Some y))) (u ∷ filter is_live us) (filter is_live us))) [
            | true ↦ rest
            | false ↦ elim (y == x)
                as (λ c. list_map (λ (e : Entry). e.0)
                (cond c ((u.id, y) ∷ filter is_left (filter_map put_by us)) (filter is_left (filter_map put_by us)))
                ≡ list_map (λ (v : Update). v.id) (cond c (u ∷ filter is_live us) (filter is_live us)))
                [ true ↦ ap (λ ids. u.id ∷ ids) rest | false ↦ rest ]
          ]

-- the tags that the steps hold are those that are live
pub held-live : (us : List Update) (x : ℕ) → IsAscendingList us
    → held_tags (adds_after map.empty us) (gone_after set.empty us) x ≡ live_tags us x
held-live us x ascending =
    let gone = gone_after set.empty us in
    let removed : (id : UpdateId) → set.contains gone id ≡ is_removed us id =
    λ id. contains-gone_after set.empty us id ∙ ap (λ b. b || is_removed us id) (set.contains-empty id_cmp id) in
    let distinct = ascending-distinct us ascending in
    let put : map.entries (adds_after map.empty us) ≡ filter_map put_by us =
    entries-adds_after map.empty us (AreNew-empty us) distinct
    (subst (λ es. AreAbove es us) (sym entries-empty) (AreAbove-nil us)) ascending
    ∙ ap (λ es. es ++ filter_map put_by us) entries-empty in
    ap (λ es. list_map (λ (e : Entry). e.0) (filter (λ e. not (set.contains gone e.0) && (e.1 == x)) es)) put
    ∙ (λ i. list_map (λ (e : Entry). e.0) (filter (λ e. not (removed e.0 i) && (e.1 == x)) (filter_map put_by us)))
    ∙ left-live (is_removed us) x us
