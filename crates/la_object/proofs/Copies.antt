-- Copies that are made one entry or id after another.
use Rattle.std.proofs.Common.{◌≡◌, ℕ, Bool, true, false, cond, ◌||◌, T, List, [], ◌∷◌, Option, Some, None, refl, ap, sym, ◌∙◌}
use Rattle.std.specs.List.{list_any}
use Rattle.std.specs.Ordering.{eq_by_cmp}
use Rattle.std.specs.Cmp.{Equal-is}
use Rattle.std.specs.FinMap as map
use Rattle.std.specs.FinMap.Entries.{is_sorted, find}
use Rattle.std.specs.FinSet as set
use Rattle.la_set.specs.declared.update.UpdateId.{UpdateId}
use Rattle.la_object.specs.IdOrder.{id_cmp, Elements, IdSet}
use Rattle.la_object.specs.OrSet.{with_ids}
use Rattle.la_object.proofs.lemmas.IdOrder.{id_cmp_total, id_cmp-IsAntisymmetric}
use Rattle.la_object.proofs.lemmas.Sorted.{first, second, not_found}
use Rattle.la_object.proofs.lemmas.IdMaps.{with_ids-nil, with_ids-more, contains-with_ids, same_ids}

-- ## Ids

abbrev pub filled : IdSet → List UpdateId → IdSet
filled s [] = s
filled s (id ∷ ids) = filled (set.insert s id) ids

filled-with_ids : (s : IdSet) (ids : List UpdateId) → filled s ids ≡ with_ids s ids
filled-with_ids s [] = sym (with_ids-nil s)
filled-with_ids s (id ∷ ids) = filled-with_ids (set.insert s id) ids ∙ with_ids-more s id ids

pub filled-from_list : (ids : List UpdateId) → filled set.empty ids ≡ set.from_list ids
filled-from_list ids = filled-with_ids set.empty ids ∙ same_ids _ _ (λ q.
    contains-with_ids set.empty ids q ∙ ap (λ b. b || list_any (eq_by_cmp id_cmp q) ids) (set.contains-empty id_cmp q) ∙ sym (set.contains-from_list id_cmp_total ids q))

-- ## Entries

abbrev pub all_put : Elements → List (UpdateId × ℕ) → Elements
all_put m [] = m
all_put m (e ∷ es) = all_put (map.insert m e.0 e.1) es

abbrev or_else : Option ℕ → Option ℕ → Option ℕ
or_else None d = d
or_else (Some x) d = Some x

get-all_put : (m : Elements) (es : List (UpdateId × ℕ)) (q : UpdateId) → T (is_sorted id_cmp es)
    → map.get (all_put m es) q ≡ or_else (find id_cmp q es) (map.get m q)
get-all_put m [] q h = refl
get-all_put m (e ∷ es) q h =
    get-all_put (map.insert m e.0 e.1) es q (second _ _ h)
    ∙ ap (or_else (find id_cmp q es)) (map.get-insert id_cmp_total m e.0 e.1 q)
    ∙ by (eq_by_cmp id_cmp q e.0) refl
  where
    by : (b : Bool) → eq_by_cmp id_cmp q e.0 ≡ b
        → or_else (find id_cmp q es) (cond b (Some e.1) (map.get m q))
        ≡ or_else (cond b (Some e.1) (find id_cmp q es)) (map.get m q)
    by true is =
        ap (λ g. or_else g (Some e.1))
        (ap (λ k. find id_cmp k es) (id_cmp-IsAntisymmetric q e.0 ((Equal-is (id_cmp q e.0)).0 is))
        ∙ not_found id_cmp e.0 es (first _ _ h))
    by false is = refl

or_none : (o : Option ℕ) → or_else o None ≡ o
or_none None = refl
or_none (Some x) = refl

pub all_put-from_entries : (es : List (UpdateId × ℕ)) → T (is_sorted id_cmp es)
    → all_put map.empty es ≡ map.from_entries es
all_put-from_entries es h = map.same_map id_cmp_total id_cmp-IsAntisymmetric _ _ (λ q.
    get-all_put map.empty es q h ∙ ap (or_else (find id_cmp q es)) (map.get-empty id_cmp q) ∙ or_none _ ∙ sym (map.get-from_entries id_cmp_total es q))
