-- Elements as a linked list: the first id, and at each id what stands there and the id behind it.
use Rattle.std.specs.Prelude.{◌≡◌, false, List, [], ◌∷◌, length, is_some, Option, Some, None}
use Rattle.std.specs.HashMap.{get, hash_map_len}
use Rattle.la_set.specs.declared.update.UpdateId.{UpdateId}
use Rattle.la_set.specs.Ids.{id_eq}
use Rattle.la_list.specs.declared.chain.Chain.{Chain}
use Rattle.la_list.specs.declared.chain.Link.{Link}
use Rattle.la_list.specs.declared.list.Element.{Element}
use Rattle.la_list.specs.Lists.{stands}

-- the link of an element, before the next one
abbrev pub IsLink : Element → Option UpdateId → Option Link → Type 0
IsLink e next None = ⊥
IsLink e next (Some link) = (link.value.now ≡ e.value) × (link.next ≡ next)

-- from an id the links lead through the elements, and no further
abbrev pub IsLinked : (UpdateId → Option Link) → Option UpdateId → List Element → Type 0
IsLinked at first [] = first ≡ None
IsLinked at first (e ∷ es) =
    (next : Option UpdateId) × ((first ≡ Some e.id) × IsLink e next (at e.id) × IsLinked at next es)

-- each id stands once
abbrev pub AreApart : List Element → Type 0
AreApart [] = Unit {0}
AreApart (e ∷ es) = (stands es e.id ≡ false) × AreApart es

-- the link at an id
abbrev pub link_at : Chain → UpdateId → Option Link
link_at c id = get id_eq c.links id

pub record IsChain (c : Chain) (es : List Element) : Type 0 where
  pub linked : IsLinked (link_at c) c.first es
  pub apart : AreApart es
  pub known : (id : UpdateId) → is_some (link_at c id) ≡ stands es id
  pub count : hash_map_len c.links ≡ length es
