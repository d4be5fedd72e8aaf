-- What becomes of what was put and of what is gone where an update is absorbed.
use Rattle.std.proofs.Common.{◌≡◌, ℕ, ◌==◌, Bool, true, false, not, ◌&&◌, ◌||◌, cond, List, [], ◌∷◌, Option, Some, None, is_some, refl, ap, sym, ◌∙◌, subst}
use Rattle.std.specs.Ordering.{nat_cmp, eq_by_cmp}
use Rattle.std.specs.Cmp.{Equal-is}
use Rattle.std.specs.FinMap as map
use Rattle.std.specs.FinSet as set
use Rattle.std.proofs.lemmas.Bool.{false≢true, eqb-true, eq-eqb}
use Rattle.std.proofs.lemmas.Option.{none-some}
use Rattle.la_set.specs.declared.update.UpdateId.{UpdateId}
use Rattle.la_object.specs.declared.state.State.{State}
use Rattle.la_object.specs.declared.state.State.TheVariants.{Set}
use Rattle.la_object.specs.IdOrder.{id_cmp, Elements, IdSet}
use Rattle.la_object.specs.OrSet.{with_element, with_ids}
use Rattle.la_object.proofs.lemmas.IdOrder.{id_cmp_total, id_cmp-IsAntisymmetric}
use Rattle.la_object.proofs.lemmas.IdMaps.{same_ids, contains-with_ids, nothing_new}
use Rattle.la_orset.specs.Index.{Index, tags_or, index_tags, is_tag, HasTags, IsIndex}
use Rattle.la_orset.specs.Rows.{KnownRow, named_known, live_element}
use Rattle.la_orset.specs.Puts.{PutMap, adds_of, named_of, gone_of, with_named, is_one, KeepsEarly, NamesPut, AreGone}
use Rattle.la_orset.proofs.Sets.{contains-put, contains-taken}
use Rattle.la_orset.proofs.Held.{with_element-new, with_element-there, put_gone, put_live, named_none, named_some}
use Rattle.la_orset.proofs.LiveTags.{none_of}
use Rattle.la_orset.proofs.ById.{element_of, is_gone, get-adds, contains-named, get-named}

same_id : (q id : UpdateId) → eq_by_cmp id_cmp q id ≡ true → q ≡ id
same_id q id is = id_cmp-IsAntisymmetric q id ((Equal-is (id_cmp q id)).0 is)

has-element : (o : Option KnownRow) → is_some (element_of o) ≡ is_some o
has-element None = refl
has-element (Some k) = refl

pub contains-gone : (early : IdSet) (puts : PutMap) (q : UpdateId)
    → set.contains (gone_of early puts) q ≡ (set.contains early q || is_gone (map.get puts q))
contains-gone early puts q =
    set.contains-union id_cmp_total early (named_of puts) q ∙ ap (λ b. set.contains early q || b) (contains-named puts q)

-- ## A Put

module _ (puts : PutMap) (id : UpdateId) (k : KnownRow) where
  adds_insert : adds_of (map.insert puts id k) ≡ map.insert (adds_of puts) id k.element
  adds_insert = map.same_map id_cmp_total id_cmp-IsAntisymmetric _ _ (λ q.
      get-adds (map.insert puts id k) q ∙ ap element_of (map.get-insert id_cmp_total puts id k q)
      ∙ by q (eq_by_cmp id_cmp q id)
      ∙ sym (map.get-insert id_cmp_total (adds_of puts) id k.element q ∙ ap (cond (eq_by_cmp id_cmp q id) (Some k.element)) (get-adds puts q)))
    where
      by : (q : UpdateId) (b : Bool)
          → element_of (cond b (Some k) (map.get puts q)) ≡ cond b (Some k.element) (element_of (map.get puts q))
      by q true = refl
      by q false = refl

  module _ (new : map.contains_key puts id ≡ false) where
    pub adds_none : map.get (adds_of puts) id ≡ None
    adds_none = get-adds puts id ∙ ap element_of (none_of (map.get puts id) new)

    pub put_adds : adds_of (map.insert puts id k) ≡ with_element (adds_of puts) id (Some k.element)
    put_adds = adds_insert ∙ sym (with_element-new (adds_of puts) id k.element adds_none)

    -- one that is not gone leaves what is gone
    pub put_gone_same : (early : IdSet) → k.gone ≡ false → gone_of early (map.insert puts id k) ≡ gone_of early puts
    put_gone_same early stays = same_ids _ _ (λ q.
        contains-gone early (map.insert puts id k) q
        ∙ ap (λ o. set.contains early q || is_gone o) (map.get-insert id_cmp_total puts id k q)
        ∙ by q (eq_by_cmp id_cmp q id) refl ∙ sym (contains-gone early puts q))
      where
        by : (q : UpdateId) (b : Bool) → eq_by_cmp id_cmp q id ≡ b
            → (set.contains early q || is_gone (cond b (Some k) (map.get puts q)))
            ≡ (set.contains early q || is_gone (map.get puts q))
        by q true is =
            ap (λ b. set.contains early q || b)
            (stays
            ∙ sym (ap (λ p. is_gone (map.get puts p)) (same_id q id is) ∙ ap is_gone (none_of (map.get puts id) new)))
        by q false is = refl

    -- nor does one that is gone already
    pub put_gone_early : (early : IdSet) → set.contains early id ≡ true
        → gone_of early (map.insert puts id k) ≡ gone_of early puts
    put_gone_early early is_early = same_ids _ _ (λ q.
        contains-gone early (map.insert puts id k) q
        ∙ ap (λ o. set.contains early q || is_gone o) (map.get-insert id_cmp_total puts id k q)
        ∙ by q (eq_by_cmp id_cmp q id) refl ∙ sym (contains-gone early puts q))
      where
        early_at : (q : UpdateId) → eq_by_cmp id_cmp q id ≡ true → set.contains early q ≡ true
        early_at q is = ap (set.contains early) (same_id q id is) ∙ is_early

        by : (q : UpdateId) (b : Bool) → eq_by_cmp id_cmp q id ≡ b
            → (set.contains early q || is_gone (cond b (Some k) (map.get puts q)))
            ≡ (set.contains early q || is_gone (map.get puts q))
        by q true is =
            ap (λ b. b || is_gone (Some k)) (early_at q is)
            ∙ sym (ap (λ b. b || is_gone (map.get puts q)) (early_at q is))
        by q false is = refl

    module _ (early : IdSet) (old : Index) (indexed : IsIndex (adds_of puts) (gone_of early puts) old) where
      pub index_early : set.contains early id ≡ true
          → IsIndex (adds_of (map.insert puts id k)) (gone_of early (map.insert puts id k)) old
      index_early is_early =
          let gone = contains-gone early puts id ∙ ap (λ b. b || is_gone (map.get puts id)) is_early in
          subst (λ a. IsIndex a (gone_of early (map.insert puts id k)) old) (sym adds_insert)
          (subst (λ g. IsIndex (map.insert (adds_of puts) id k.element) g old) (sym (put_gone_early early is_early))
          (put_gone (adds_of puts) (gone_of early puts) id k.element old indexed adds_none gone))

      module _ (not_early : set.contains early id ≡ false) where
        stays_in : set.contains (gone_of early puts) id ≡ false
        stays_in = contains-gone early puts id ∙ (λ i. not_early i || is_gone (none_of (map.get puts id) new i))

        pub index_live : (mid : Index) → k.gone ≡ false
            → HasTags old k.element (map.insert (index_tags old k.element) id tt) mid
            → IsIndex (adds_of (map.insert puts id k)) (gone_of early (map.insert puts id k)) mid
        index_live mid stays has =
            subst (λ a. IsIndex a (gone_of early (map.insert puts id k)) mid) (sym adds_insert)
            (subst (λ g. IsIndex (map.insert (adds_of puts) id k.element) g mid) (sym (put_gone_same early stays))
            (put_live (adds_of puts) (gone_of early puts) id k.element old indexed adds_none mid stays_in has))

pub there_adds : (puts : PutMap) (id : UpdateId) (x : ℕ) → map.contains_key puts id ≡ true
    → adds_of puts ≡ with_element (adds_of puts) id (Some x)
there_adds puts id x there =
    sym (with_element-there (adds_of puts) id x (ap is_some (get-adds puts id) ∙ has-element (map.get puts id) ∙ there))

-- a tag that was put in is taken out again
pub index_back : (adds : Elements) (gone : IdSet) (id : UpdateId) (x : ℕ) (old mid new : Index) → IsIndex adds gone old
    → map.get adds id ≡ None → HasTags old x (map.insert (index_tags old x) id tt) mid
    → HasTags mid x (map.remove (index_tags mid x) id) new → IsIndex adds gone new
index_back adds gone id x old mid new indexed none put taken y q =
    ap (λ t. map.contains_key t q) (taken y) ∙ by (y == x) refl
  where
    was : is_tag gone x id (map.get adds id) ≡ false
    was = ap (is_tag gone x id) none

    here : (b c : Bool) → eq_by_cmp id_cmp q id ≡ b → map.contains_key (index_tags old x) q ≡ c → (not b && (b || c)) ≡ c
    here true c is has =
        sym (sym has ∙ indexed x q ∙ ap (λ p. is_tag gone x p (map.get adds p)) (same_id q id is) ∙ was)
    here false c is has = refl

    itself : x == x ≡ true
    itself = eq-eqb x x refl

    by : (b : Bool) → y == x ≡ b
        → map.contains_key (cond b (map.remove (index_tags mid x) id) (index_tags mid y)) q ≡ is_tag gone y q (map.get adds q)
    by true is =
        contains-taken id_cmp_total id_cmp-IsAntisymmetric (index_tags mid x) id q
        ∙ ap (λ t. not (eq_by_cmp id_cmp q id) && map.contains_key t q)
        (put x ∙ ap (λ b. cond b (map.insert (index_tags old x) id tt) (index_tags old x)) itself)
        ∙ ap (λ b. not (eq_by_cmp id_cmp q id) && b)
        (contains-put id_cmp_total id_cmp-IsAntisymmetric (index_tags old x) id q)
        ∙ here (eq_by_cmp id_cmp q id) (map.contains_key (index_tags old x) q) refl refl
        ∙ indexed x q ∙ ap (λ z. is_tag gone z q (map.get adds q)) (sym (eqb-true y x is))
    by false is =
        ap (λ t. map.contains_key t q) (put y ∙ ap (λ b. cond b (map.insert (index_tags old x) id tt) (index_tags old y)) is)
        ∙ indexed y q

-- ## A Remove

pub adds_named : (puts : PutMap) (id : UpdateId) → adds_of (with_named puts id) ≡ adds_of puts
adds_named puts id = map.same_map id_cmp_total id_cmp-IsAntisymmetric _ _ (λ q.
    get-adds (with_named puts id) q ∙ ap element_of (get-named puts id q) ∙ by q (eq_by_cmp id_cmp q id) refl ∙ sym (get-adds puts q))
  where
    same : (o : Option KnownRow) → element_of (named_known o) ≡ element_of o
    same None = refl
    same (Some k) = refl

    by : (q : UpdateId) (b : Bool) → eq_by_cmp id_cmp q id ≡ b
        → element_of (cond b (named_known (map.get puts id)) (map.get puts q)) ≡ element_of (map.get puts q)
    by q true is = same (map.get puts id) ∙ ap (λ p. element_of (map.get puts p)) (sym (same_id q id is))
    by q false is = refl

named-gone : (o : Option KnownRow) → is_gone (named_known o) ≡ is_some o
named-gone None = refl
named-gone (Some k) = refl

named-there : (o : Option KnownRow) → is_some (named_known o) ≡ is_some o
named-there None = refl
named-there (Some k) = refl

contains-with_named : (puts : PutMap) (id q : UpdateId)
    → map.contains_key (with_named puts id) q ≡ map.contains_key puts q
contains-with_named puts id q = ap is_some (get-named puts id q) ∙ by (eq_by_cmp id_cmp q id) refl
  where
    by : (b : Bool) → eq_by_cmp id_cmp q id ≡ b
        → is_some (cond b (named_known (map.get puts id)) (map.get puts q)) ≡ is_some (map.get puts q)
    by true is = named-there (map.get puts id) ∙ ap (λ p. is_some (map.get puts p)) (sym (same_id q id is))
    by false is = refl

gone-with_named : (puts : PutMap) (id q : UpdateId)
    → set.contains (named_of (with_named puts id)) q
    ≡ (set.contains (named_of puts) q || (eq_by_cmp id_cmp q id && map.contains_key puts q))
gone-with_named puts id q =
    contains-named (with_named puts id) q ∙ ap is_gone (get-named puts id q) ∙ by (eq_by_cmp id_cmp q id) refl
    ∙ ap (λ b. b || (eq_by_cmp id_cmp q id && map.contains_key puts q)) (sym (contains-named puts q))
  where
    gone-there : (o : Option KnownRow) → is_some o ≡ (is_gone o || (true && is_some o))
    gone-there None = refl
    gone-there (Some k) = elim k.gone as (λ b. true ≡ (b || (true && true))) [ true ↦ refl | false ↦ refl ]

    or_false : (b : Bool) → b ≡ (b || false)
    or_false true = refl
    or_false false = refl

    by : (b : Bool) → eq_by_cmp id_cmp q id ≡ b
        → is_gone (cond b (named_known (map.get puts id)) (map.get puts q))
        ≡ (is_gone (map.get puts q) || (b && map.contains_key puts q))
    by true is =
        named-gone (map.get puts id) ∙ ap (λ p. is_some (map.get puts p)) (sym (same_id q id is))
        ∙ gone-there (map.get puts q)
    by false is = or_false (is_gone (map.get puts q))

pub names_none : (puts : PutMap) → NamesPut puts [] puts
names_none puts q = elim (set.contains (named_of puts) q) as (λ b. b ≡ (b || false)) [ true ↦ refl | false ↦ refl ]

pub names_more : (puts : PutMap) (id : UpdateId) (ids : List UpdateId) (new : PutMap)
    → NamesPut (with_named puts id) ids new → NamesPut puts (id ∷ ids) new
names_more puts id ids new rest q =
    rest q ∙ (λ i. gone-with_named puts id q i || (is_one ids q && contains-with_named puts id q i))
    ∙ by (set.contains (named_of puts) q) (eq_by_cmp id_cmp q id) (map.contains_key puts q) (is_one ids q)
  where
    by : (n e p o : Bool) → ((n || (e && p)) || (o && p)) ≡ (n || ((e || o) && p))
    by true e p o = refl
    by false true true o = refl
    by false true false true = refl
    by false true false false = refl
    by false false p o = refl

pub keeps_none : (early : IdSet) (puts : PutMap) → KeepsEarly early puts [] early
keeps_none early puts q = elim (set.contains early q) as (λ b. b ≡ (b || false)) [ true ↦ refl | false ↦ refl ]

pub keeps_put : (early : IdSet) (puts : PutMap) (id : UpdateId) (ids : List UpdateId) (new : IdSet)
    → map.contains_key puts id ≡ true → KeepsEarly early puts ids new → KeepsEarly early puts (id ∷ ids) new
keeps_put early puts id ids new there rest q = rest q ∙ by (eq_by_cmp id_cmp q id) refl
  where
    and_false : (b : Bool) → (b && false) ≡ false
    and_false true = refl
    and_false false = refl

    by : (e : Bool) → eq_by_cmp id_cmp q id ≡ e
        → (set.contains early q || (is_one ids q && not (map.contains_key puts q)))
        ≡ (set.contains early q || ((e || is_one ids q) && not (map.contains_key puts q)))
    by true is =
        let put : map.contains_key puts q ≡ true = ap (map.contains_key puts) (same_id q id is) ∙ there in
        ap (λ b. set.contains early q || b)
        (ap (λ p. is_one ids q && not p) put ∙ and_false (is_one ids q) ∙ sym (ap not put))
    by false is = refl

pub keeps_more : (early : IdSet) (puts : PutMap) (id : UpdateId) (ids : List UpdateId) (new : IdSet)
    → map.contains_key puts id ≡ false → KeepsEarly (set.insert early id) puts ids new
    → KeepsEarly early puts (id ∷ ids) new
keeps_more early puts id ids new none rest q =
    rest q
    ∙ ap (λ b. b || (is_one ids q && not (map.contains_key puts q))) (set.contains-insert id_cmp_total early id q)
    ∙ by (eq_by_cmp id_cmp q id) refl
  where
    or_true : (b : Bool) → true ≡ (b || true)
    or_true true = refl
    or_true false = refl

    by : (e : Bool) → eq_by_cmp id_cmp q id ≡ e
        → ((e || set.contains early q) || (is_one ids q && not (map.contains_key puts q)))
        ≡ (set.contains early q || ((e || is_one ids q) && not (map.contains_key puts q)))
    by true is =
        or_true (set.contains early q)
        ∙ ap (λ b. set.contains early q || b) (sym (ap not (ap (map.contains_key puts) (same_id q id is) ∙ none)))
    by false is = refl

-- what is gone has the ids more
pub gone_with_ids : (early : IdSet) (puts : PutMap) (ids : List UpdateId) (kept : IdSet) (new : PutMap)
    → KeepsEarly early puts ids kept → NamesPut puts ids new → gone_of kept new ≡ with_ids (gone_of early puts) ids
gone_with_ids early puts ids kept new keeps names = same_ids _ _ (λ q.
    set.contains-union id_cmp_total kept (named_of new) q ∙ (λ i. keeps q i || names q i)
    ∙ by (set.contains early q) (set.contains (named_of puts) q) (is_one ids q) (map.contains_key puts q)
    ∙ ap (λ b. b || is_one ids q) (sym (set.contains-union id_cmp_total early (named_of puts) q))
    ∙ sym (contains-with_ids (gone_of early puts) ids q))
  where
    by : (e n o p : Bool) → ((e || (o && not p)) || (n || (o && p))) ≡ ((e || n) || o)
    by true n o p = refl
    by false true true true = refl
    by false true true false = refl
    by false true false p = refl
    by false false true true = refl
    by false false true false = refl
    by false false false p = refl

-- ## Live tags

-- an id that is gone already is named again
pub named_again : (adds : Elements) (gone : IdSet) (id : UpdateId) (index : Index) → set.contains gone id ≡ true
    → IsIndex adds gone index → IsIndex adds (set.insert gone id) index
named_again adds gone id index there indexed =
    subst (λ g. IsIndex adds g index) (sym (nothing_new gone id there)) indexed

-- nothing was put under the id, or it is gone already
pub index_none : (puts : PutMap) (gone : IdSet) (id : UpdateId) (index : Index) → AreGone (named_of puts) gone
    → live_element (map.get puts id) ≡ None → IsIndex (adds_of puts) gone index
    → IsIndex (adds_of puts) (set.insert gone id) index
index_none puts gone id index are none indexed = by (map.get puts id) refl none
  where
    by : (o : Option KnownRow) → map.get puts id ≡ o → live_element o ≡ None
        → IsIndex (adds_of puts) (set.insert gone id) index
    by None is h = named_none (adds_of puts) gone id index indexed (get-adds puts id ∙ ap element_of is)
    by (Some k) is h =
        named_again (adds_of puts) gone id index (are id (contains-named puts id ∙ ap is_gone is ∙ is_true k.gone h))
        indexed
      where
        is_true : (b : Bool) → cond b None (Some k.element) ≡ None → b ≡ true
        is_true true e = refl
        is_true false e = absurd (none-some k.element (sym e))

-- the id of an element's tag
pub index_some : (puts : PutMap) (gone : IdSet) (id : UpdateId) (x : ℕ) (old new : Index)
    → live_element (map.get puts id) ≡ Some x → HasTags old x (map.remove (index_tags old x) id) new
    → IsIndex (adds_of puts) gone old → IsIndex (adds_of puts) (set.insert gone id) new
index_some puts gone id x old new is has indexed =
    named_some (adds_of puts) gone id old indexed x new (get-adds puts id ∙ put (map.get puts id) is) has
  where
    put : (o : Option KnownRow) → live_element o ≡ Some x → element_of o ≡ Some x
    put None h = absurd (none-some x h)
    put (Some k) h = by k.gone h
      where
        by : (b : Bool) → cond b None (Some k.element) ≡ Some x → Some k.element ≡ Some x
        by true e = absurd (none-some x e)
        by false e = e

-- what is named now is gone then
pub are_gone_more : (puts : PutMap) (id : UpdateId) (gone : IdSet) → AreGone (named_of puts) gone
    → AreGone (named_of (with_named puts id)) (set.insert gone id)
are_gone_more puts id gone are q named_known =
    set.contains-insert id_cmp_total gone id q
    ∙ by (eq_by_cmp id_cmp q id) (set.contains (named_of puts) q) refl (sym (gone-with_named puts id q) ∙ named_known)
  where
    by : (e n : Bool) → set.contains (named_of puts) q ≡ n → (n || (e && map.contains_key puts q)) ≡ true
        → (e || set.contains gone q) ≡ true
    by true n is h = refl
    by false true is h = are q is
    by false false is h = absurd (false≢true h)

pub are_gone_first : (early : IdSet) (puts : PutMap) → AreGone (named_of puts) (gone_of early puts)
are_gone_first early puts q named_known =
    set.contains-union id_cmp_total early (named_of puts) q ∙ ap (λ b. set.contains early q || b) named_known
    ∙ or_true (set.contains early q)
  where
    or_true : (b : Bool) → (b || true) ≡ true
    or_true true = refl
    or_true false = refl

-- a new id is no live tag
pub no_tag : (adds : Elements) (gone : IdSet) (id : UpdateId) (x : ℕ) (index : Index) → IsIndex adds gone index
    → map.get adds id ≡ None → map.contains_key (index_tags index x) id ≡ false
no_tag adds gone id x index indexed none = indexed x id ∙ ap (is_tag gone x id) none

-- ## Nothing

pub adds_empty : adds_of map.empty ≡ map.empty
adds_empty =
    map.same_map id_cmp_total id_cmp-IsAntisymmetric _ _
    (λ q. get-adds map.empty q ∙ ap element_of (map.get-empty id_cmp q) ∙ sym (map.get-empty id_cmp q))

pub gone_empty : gone_of set.empty map.empty ≡ set.empty
gone_empty = same_ids _ _ (λ q.
    contains-gone set.empty map.empty q ∙ (λ i. set.contains-empty id_cmp q i || is_gone (map.get-empty id_cmp q i)) ∙ sym (set.contains-empty id_cmp q))

pub index_empty : (puts : PutMap) (gone : IdSet) (index : Index) → puts ≡ map.empty → index ≡ map.empty
    → IsIndex (adds_of puts) gone index
index_empty puts gone index no_puts none x id =
    ap (λ i. map.contains_key (index_tags i x) id) none
    ∙ ap (λ g. map.contains_key (tags_or g) id) (map.get-empty nat_cmp x)
    ∙ ap is_some (map.get-empty id_cmp id)
    ∙ sym
    (ap (is_tag gone x id)
    (get-adds puts id ∙ ap element_of (ap (λ m. map.get m id) no_puts ∙ map.get-empty id_cmp id)))

pub no_adds : (puts : PutMap) → adds_of puts ≡ map.empty → puts ≡ map.empty
no_adds puts h = map.same_map id_cmp_total id_cmp-IsAntisymmetric _ _ (λ q.
    by (map.get puts q) (sym (get-adds puts q) ∙ ap (λ m. map.get m q) h ∙ map.get-empty id_cmp q) ∙ sym (map.get-empty id_cmp q))
  where
    by : (o : Option KnownRow) → element_of o ≡ None → o ≡ None
    by None e = refl
    by (Some k) e = absurd (none-some k.element (sym e))

pub none_early : (early : IdSet) (puts : PutMap) → gone_of early puts ≡ set.empty → early ≡ set.empty
none_early early puts h = same_ids _ _ (λ q.
    by (set.contains early q) (is_gone (map.get puts q)) (sym (contains-gone early puts q) ∙ ap (λ s. set.contains s q) h ∙ set.contains-empty id_cmp q) ∙ sym (set.contains-empty id_cmp q))
  where
    by : (b c : Bool) → (b || c) ≡ false → b ≡ false
    by true c e = e
    by false c e = refl

pub fresh_from : (puts : PutMap) (early : IdSet) → puts ≡ map.empty → early ≡ set.empty
    → Set (adds_of puts) (gone_of early puts) ≡ Set map.empty set.empty
fresh_from puts early no_puts no_early =
    λ i. Set ((ap adds_of no_puts ∙ adds_empty) i) (((λ j. gone_of (no_early j) (no_puts j)) ∙ gone_empty) i)

abbrev pub adds_in : State → Elements
adds_in (Set adds gone) = adds
adds_in _ = map.empty

abbrev pub gone_in : State → IdSet
gone_in (Set adds gone) = gone
gone_in _ = set.empty
