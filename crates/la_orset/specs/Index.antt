-- The live tags by element, as an observed-remove set looks them up, and what they are.
use Rattle.std.specs.Prelude.{◌≡◌, ℕ, eqb, ◌==◌, ◌&&◌, not, Bool, true, false, List, [], ◌∷◌, map as list_map, Option, Some, None, if◌then◌else◌}
use Rattle.std.specs.Ordering.{nat_cmp}
use Rattle.std.specs.declared.cmp.Ordering.{Ordering}
use Rattle.std.specs.Coded.{Coded, coded_ℕ}
use Rattle.std.specs.FinMap as map
use Rattle.std.specs.FinSet as set
use Rattle.la_set.specs.declared.update.UpdateId.{UpdateId}
use Rattle.la_object.specs.IdOrder.{id_cmp, id_code, Elements, IdSet}

-- the finite set of these keys, in the order R
abbrev pub key_set : {K : Type 0} {R : K → K → Ordering} → List K → map.FinMap R (Unit {0})
key_set ks = map.from_entries (list_map (λ k. (k, tt)) ks)

-- the test of ids
abbrev pub same_id : UpdateId → UpdateId → Bool
same_id a b = eqb a.replica b.replica && eqb a.number b.number

-- a finite set of ids
abbrev pub TagMap : Type 0
TagMap = map.FinMap id_cmp (Unit {0})

abbrev pub tag_map_code : Coded TagMap
tag_map_code = set.code id_code

-- finite sets of ids, by element
abbrev pub Index : Type 0
Index = map.FinMap nat_cmp TagMap

abbrev pub index_code : Coded Index
index_code = map.code coded_ℕ tag_map_code

abbrev pub has_any : {X : Type 0} → List X → Bool
has_any [] = false
has_any (x ∷ xs) = true

abbrev pub tags_or : Option TagMap → TagMap
tags_or None = map.empty
tags_or (Some tags) = tags

-- an element's tags
abbrev pub index_tags : Index → ℕ → TagMap
index_tags index x = tags_or (map.get index x)

-- the elements are those that have a tag
abbrev pub IsWhole : Index → Type 0
IsWhole index = (x : ℕ) → map.contains_key index x ≡ has_any (map.keys (index_tags index x))

-- the index with these tags in the place of an element's, and no others changed
abbrev pub HasTags : Index → ℕ → TagMap → Index → Type 0
HasTags old x tags new =
    (y : ℕ) → index_tags new y ≡ (if y == x then tags else index_tags old y)

-- whether an id under which something may have been put is a live tag of the element
abbrev pub is_tag : IdSet → ℕ → UpdateId → Option ℕ → Bool
is_tag gone x id None = false
is_tag gone x id (Some y) = not (set.contains gone id) && (y == x)

-- each element has its live tags
abbrev pub IsIndex : Elements → IdSet → Index → Type 0
IsIndex adds gone index = (x : ℕ) (id : UpdateId)
    → map.contains_key (index_tags index x) id ≡ is_tag gone x id (map.get adds id)
