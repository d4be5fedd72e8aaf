-- What was put, by the ids of the Puts, and which ids are gone.
use Rattle.std.specs.Prelude.{◌≡◌, ℕ, suc, ◌&&◌, ◌||◌, not, Bool, true, List, [], ◌∷◌, ◌++◌, filter, map as list_map, Option, Some, None, if◌then◌else◌, refl}
use Rattle.std.specs.List.{list_any}
use Rattle.std.specs.Ordering.{eq_by_cmp}
use Rattle.std.specs.Coded.{Coded, code_by, coded×, coded_ℕ, coded_bool}
use Rattle.std.specs.FinMap as map
use Rattle.std.specs.FinSet as set
use Rattle.la_set.specs.declared.update.UpdateId.{UpdateId}
use Rattle.la_object.specs.IdOrder.{id_cmp, id_code, Elements, IdSet}
use Rattle.la_object.specs.OrSet.{with_element}
use Rattle.la_orset.specs.declared.rows.Row.{Row}
use Rattle.la_orset.specs.Rows.{KnownRow, known_row}

abbrev pub known_code : Coded KnownRow
known_code =
    code_by (ℕ × Bool) (coded× coded_ℕ coded_bool)
    (λ k. (k.element, k.gone)) (λ p. record { element = p.0; gone = p.1 }) (λ _. refl)

-- what was put, by id
abbrev pub PutMap : Type 0
PutMap = map.FinMap id_cmp KnownRow

abbrev pub put_map_code : Coded PutMap
put_map_code = map.code id_code known_code

-- the elements alone
abbrev pub adds_of : PutMap → Elements
adds_of puts = map.from_entries (list_map (λ e. (e.0, e.1.element)) (map.entries puts))

-- the ids that a Remove named
abbrev pub named_of : PutMap → IdSet
named_of puts = set.from_list (list_map (λ e. e.0) (filter (λ e. e.1.gone) (map.entries puts)))

-- the ids that are gone: those that were named before anything was put under them, and those
-- that are named beside what was put
abbrev pub gone_of : IdSet → PutMap → IdSet
gone_of early puts = set.union early (named_of puts)

-- what was put, with the id named where something was put under it
abbrev pub named_at : PutMap → UpdateId → Option KnownRow → PutMap
named_at puts id None = puts
named_at puts id (Some k) = map.insert puts id (record { element = k.element; gone = true })

abbrev pub with_named : PutMap → UpdateId → PutMap
with_named puts id = named_at puts id (map.get puts id)

abbrev pub is_one : List UpdateId → UpdateId → Bool
is_one ids id = list_any (eq_by_cmp id_cmp id) ids

-- the ids that nothing was put under are added
abbrev pub KeepsEarly : IdSet → PutMap → List UpdateId → IdSet → Type 0
KeepsEarly old puts ids new = (id : UpdateId)
    → set.contains new id ≡ (set.contains old id || (is_one ids id && not (map.contains_key puts id)))

-- the ids that something was put under are named
abbrev pub NamesPut : PutMap → List UpdateId → PutMap → Type 0
NamesPut old ids new = (id : UpdateId)
    → set.contains (named_of new) id ≡ (set.contains (named_of old) id || (is_one ids id && map.contains_key old id))

-- the rows of a replica by id, and those of all from a replica on
abbrev pub row_entry : ℕ → Row → UpdateId × KnownRow
row_entry replica row = (record { replica = replica; number = row.number }, known_row row)

abbrev pub entries_from : ℕ → List (List Row) → List (UpdateId × KnownRow)
entries_from replica [] = []
entries_from replica (rows ∷ more) = list_map (row_entry replica) rows ++ entries_from (suc replica) more

-- the elements of entries are added one after another, where there is none under the id
abbrev pub all_added : Elements → List (UpdateId × KnownRow) → Elements
all_added adds [] = adds
all_added adds (e ∷ es) = all_added (with_element adds e.0 (Some e.1.element)) es

-- the ids of entries that are gone are added one after another
abbrev pub all_gone : IdSet → List (UpdateId × KnownRow) → IdSet
all_gone ids [] = ids
all_gone ids (e ∷ es) = all_gone (if e.1.gone then set.insert ids e.0 else ids) es

-- each of these ids is among the others
abbrev pub AreGone : IdSet → IdSet → Type 0
AreGone ids gone = (id : UpdateId) → set.contains ids id ≡ true → set.contains gone id ≡ true
