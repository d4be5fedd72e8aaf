-- The index has the live tags of what was put and what is gone, and stays so.
use Rattle.std.proofs.Common.{◌≡◌, ℕ, suc, T, ◌==◌, Bool, true, false, not, ◌&&◌, ◌||◌, cond, List, [], ◌∷◌, map as list_map, filter, length, Option, Some, None, is_some, refl, ap, sym, ◌∙◌, subst}
use Rattle.std.specs.List.{list_any}
use Rattle.std.specs.Ordering.{nat_cmp, eq_by_cmp}
use Rattle.std.specs.Cmp.{nat_cmp_total, Equal-is, nat_eq_equiv}
use Rattle.std.specs.FinMap as map
use Rattle.std.specs.FinMap.{nat_cmp-IsAntisymmetric}
use Rattle.std.specs.FinSet as set
use Rattle.std.proofs.lemmas.Bool.{eqb-true}
use Rattle.la_set.specs.declared.update.UpdateId.{UpdateId}
use Rattle.la_object.specs.IdOrder.{id_cmp, Elements, IdSet}
use Rattle.la_object.specs.OrSet.{stays, held, held_tags, with_element}
use Rattle.la_object.proofs.lemmas.IdOrder.{id_cmp_total, id_cmp-IsAntisymmetric}
use Rattle.la_orset.specs.Index.{key_set, Index, has_any, index_tags, is_tag, IsWhole, HasTags, IsIndex}
use Rattle.la_object.proofs.lemmas.Sorted.{passes, any-find, any-keys, sorted-filter}
use Rattle.la_orset.proofs.Sets.{same_members, contains-set_of, contains-put, contains-taken, keys-set_of, sorted-entries}
use Rattle.la_orset.proofs.LiveTags.{tied}

abbrev Entry : Type 0
Entry = UpdateId × ℕ

module _ (adds : Elements) (gone : IdSet) where
  passes-is_tag : (x : ℕ) (q : UpdateId) (o : Option ℕ)
      → passes (λ y. not (set.contains gone q) && (y == x)) o ≡ is_tag gone x q o
  passes-is_tag x q None = refl
  passes-is_tag x q (Some y) = refl

  held_tags-members : (x : ℕ) (q : UpdateId)
      → map.contains_key (key_set {R = id_cmp} (held_tags adds gone x)) q ≡ is_tag gone x q (map.get adds q)
  held_tags-members x q =
      contains-set_of id_cmp_total id_cmp-IsAntisymmetric (held_tags adds gone x) q
      ∙ any-keys id_cmp (eq_by_cmp id_cmp q) (λ e. stays gone e && (e.1 == x)) (map.entries adds)
      ∙ any-find id_cmp id_cmp-IsAntisymmetric (λ k v. not (set.contains gone k) && (v == x)) (map.entries adds) q
      (map.entries_sorted adds)
      ∙ passes-is_tag x q _ ∙ ap (is_tag gone x q) (sym (map.get-entries adds q))

  -- an element with a tag is held
  held-any : (es : List Entry) (x : ℕ)
      → has_any (list_map (λ (e : Entry). e.0) (filter (λ e. stays gone e && (e.1 == x)) es))
      ≡ list_any (eq_by_cmp nat_cmp x) (list_map (λ (e : Entry). e.1) (filter (stays gone) es))
  held-any [] x = refl
  held-any (e ∷ es) x = by (stays gone e) (e.1 == x) (tied x e.1) (held-any es x)
    where
      by : (b c : Bool) → eq_by_cmp nat_cmp x e.1 ≡ c
          → has_any (list_map (λ (f : Entry). f.0) (filter (λ f. stays gone f && (f.1 == x)) es))
          ≡ list_any (eq_by_cmp nat_cmp x) (list_map (λ (f : Entry). f.1) (filter (stays gone) es))
          → has_any
          (list_map (λ (f : Entry). f.0)
          (cond (b && c) (e ∷ filter (λ f. stays gone f && (f.1 == x)) es)
          (filter (λ f. stays gone f && (f.1 == x)) es)))
          ≡ list_any (eq_by_cmp nat_cmp x)
          (list_map (λ (f : Entry). f.1) (cond b (e ∷ filter (stays gone) es) (filter (stays gone) es)))
      by true true is rest =
          ap (λ d. d || list_any (eq_by_cmp nat_cmp x) (list_map (λ (f : Entry). f.1) (filter (stays gone) es))) (sym is)
      by true false is rest =
          rest
          ∙ ap (λ d. d || list_any (eq_by_cmp nat_cmp x) (list_map (λ (f : Entry). f.1) (filter (stays gone) es)))
          (sym is)
      by false c is rest = rest

  module _ (index : Index) (indexed : IsIndex adds gone index) where
    tags-held : (x : ℕ) → index_tags index x ≡ key_set (held_tags adds gone x)
    tags-held x = same_members id_cmp_total id_cmp-IsAntisymmetric _ _ (λ q. indexed x q ∙ sym (held_tags-members x q))

    -- an element's tags in ascending order
    pub keys-held : (x : ℕ) → map.keys (index_tags index x) ≡ held_tags adds gone x
    keys-held x =
        ap map.keys (tags-held x)
        ∙ keys-set_of id_cmp_total id_cmp-IsAntisymmetric (held_tags adds gone x)
        (sorted-filter id_cmp (λ e. stays gone e && (e.1 == x)) (map.entries adds) (map.entries_sorted adds))

    pub has-held : IsWhole index → (x : ℕ) → map.contains_key index x ≡ map.contains_key (held adds gone) x
    has-held whole x =
        whole x ∙ ap has_any (keys-held x) ∙ held-any (map.entries adds) x
        ∙ sym
        (contains-set_of nat_cmp_total nat_cmp-IsAntisymmetric
        (list_map (λ (e : Entry). e.1) (filter (stays gone) (map.entries adds))) x)

    same_elements : IsWhole index → held adds gone ≡ key_set (map.keys index)
    same_elements whole = same_members nat_cmp_total nat_cmp-IsAntisymmetric _ _ (λ x.
        sym (has-held whole x) ∙ map.contains_key-keys index x ∙ sym (contains-set_of nat_cmp_total nat_cmp-IsAntisymmetric (map.keys index) x))

    -- the elements in ascending order
    pub keys-elements : IsWhole index → map.keys index ≡ map.keys (held adds gone)
    keys-elements whole =
        sym
        (ap map.keys (same_elements whole)
        ∙ keys-set_of nat_cmp_total nat_cmp-IsAntisymmetric (map.keys index)
        (subst T (sym (sorted-entries nat_cmp (map.entries index))) (map.entries_sorted index)))

    length-keys : {X : Type 0} (es : List (ℕ × X)) → length (list_map (λ (e : ℕ × X). e.0) es) ≡ length es
    length-keys [] = refl
    length-keys (e ∷ es) = ap (λ n. suc n) (length-keys es)

    pub len-elements : IsWhole index → map.len index ≡ map.len (held adds gone)
    len-elements whole =
        map.len-entries index ∙ sym (length-keys (map.entries index)) ∙ ap length (keys-elements whole)
        ∙ length-keys (map.entries (held adds gone)) ∙ sym (map.len-entries (held adds gone))

-- ## Changes

pub with_element-new : (adds : Elements) (id : UpdateId) (x : ℕ) → map.get adds id ≡ None
    → with_element adds id (Some x) ≡ map.insert adds id x
with_element-new adds id x none = ap (λ g. cond (is_some g) adds (map.insert adds id x)) none

pub with_element-there : (adds : Elements) (id : UpdateId) (x : ℕ) → is_some (map.get adds id) ≡ true
    → with_element adds id (Some x) ≡ adds
with_element-there adds id x there = ap (λ b. cond b adds (map.insert adds id x)) there

is_tag-none : (gone : IdSet) (x : ℕ) (id : UpdateId) (o : Option ℕ) → o ≡ None → is_tag gone x id o ≡ false
is_tag-none gone x id o none = ap (is_tag gone x id) none

id-same : (q id : UpdateId) → eq_by_cmp id_cmp q id ≡ true → q ≡ id
id-same q id is = id_cmp-IsAntisymmetric q id ((Equal-is (id_cmp q id)).0 is)

module _ (adds : Elements) (gone : IdSet) (id : UpdateId) (x : ℕ) (old : Index) (indexed : IsIndex adds gone old)
    (none : map.get adds id ≡ None) where
  was_none : (y : ℕ) (q : UpdateId) → eq_by_cmp id_cmp q id ≡ true → is_tag gone y q (map.get adds q) ≡ false
  was_none y q is = is_tag-none gone y q (map.get adds q) (ap (map.get adds) (id-same q id is) ∙ none)

  -- a Put whose id is gone
  pub put_gone : set.contains gone id ≡ true → IsIndex (map.insert adds id x) gone old
  put_gone is_gone y q =
      indexed y q ∙ by (eq_by_cmp id_cmp q id) refl ∙ ap (is_tag gone y q) (sym (map.get-insert id_cmp_total adds id x q))
    where
      by : (c : Bool) → eq_by_cmp id_cmp q id ≡ c
          → is_tag gone y q (map.get adds q) ≡ is_tag gone y q (cond c (Some x) (map.get adds q))
      by true is =
          was_none y q is ∙ ap (λ b. not b && (x == y)) (sym (ap (set.contains gone) (id-same q id is) ∙ is_gone))
      by false is = refl

  -- a Put whose id is not gone
  pub put_live : (new : Index) → set.contains gone id ≡ false → HasTags old x (map.insert (index_tags old x) id tt) new
      → IsIndex (map.insert adds id x) gone new
  put_live new stays_in has y q =
      ap (λ t. map.contains_key t q) (has y) ∙ by (y == x) refl (eq_by_cmp id_cmp q id) refl
      ∙ ap (is_tag gone y q) (sym (map.get-insert id_cmp_total adds id x q))
    where
      flip : (b : Bool) → y == x ≡ b → x == y ≡ b
      flip b is = nat_eq_equiv.symm x y ∙ is

      lives : eq_by_cmp id_cmp q id ≡ true → not (set.contains gone q) ≡ true
      lives is = ap not (ap (set.contains gone) (id-same q id is) ∙ stays_in)

      by : (b : Bool) → y == x ≡ b → (c : Bool) → eq_by_cmp id_cmp q id ≡ c
          → map.contains_key (cond b (map.insert (index_tags old x) id tt) (index_tags old y)) q
          ≡ is_tag gone y q (cond c (Some x) (map.get adds q))
      by true here true is =
          contains-put id_cmp_total id_cmp-IsAntisymmetric (index_tags old x) id q
          ∙ ap (λ d. d || map.contains_key (index_tags old x) q) is ∙ sym (λ i. lives is i && flip true here i)
      by true here false is =
          contains-put id_cmp_total id_cmp-IsAntisymmetric (index_tags old x) id q
          ∙ ap (λ d. d || map.contains_key (index_tags old x) q) is ∙ indexed x q
          ∙ ap (λ z. is_tag gone z q (map.get adds q)) (sym (eqb-true y x here))
      by false here true is = indexed y q ∙ was_none y q is ∙ sym (λ i. lives is i && flip false here i)
      by false here false is = indexed y q

is_tag-gone : (gone : IdSet) (id : UpdateId) (y : ℕ) (q : UpdateId) (o : Option ℕ)
    → is_tag (set.insert gone id) y q o ≡ (not (eq_by_cmp id_cmp q id) && is_tag gone y q o)
is_tag-gone gone id y q None =
    elim (eq_by_cmp id_cmp q id) as (λ c. false ≡ (not c && false)) [ true ↦ refl | false ↦ refl ]
is_tag-gone gone id y q (Some z) =
    ap (λ b. not b && (z == y)) (set.contains-insert id_cmp_total gone id q)
    ∙ elim (eq_by_cmp id_cmp q id) as
    (λ c. (not (c || set.contains gone q) && (z == y)) ≡ (not c && (not (set.contains gone q) && (z == y))))
    [ true ↦ refl | false ↦ refl ]

module _ (adds : Elements) (gone : IdSet) (id : UpdateId) (old : Index) (indexed : IsIndex adds gone old) where
  -- an id that nothing was put under
  pub named_none : map.get adds id ≡ None → IsIndex adds (set.insert gone id) old
  named_none none y q = indexed y q ∙ by (eq_by_cmp id_cmp q id) refl ∙ sym (is_tag-gone gone id y q (map.get adds q))
    where
      by : (c : Bool) → eq_by_cmp id_cmp q id ≡ c
          → is_tag gone y q (map.get adds q) ≡ (not c && is_tag gone y q (map.get adds q))
      by true is = is_tag-none gone y q (map.get adds q) (ap (map.get adds) (id-same q id is) ∙ none)
      by false is = refl

  -- an id of an element's tag
  pub named_some : (x : ℕ) (new : Index) → map.get adds id ≡ Some x → HasTags old x (map.remove (index_tags old x) id) new
      → IsIndex adds (set.insert gone id) new
  named_some x new put has y q =
      ap (λ t. map.contains_key t q) (has y) ∙ by (y == x) refl (eq_by_cmp id_cmp q id) refl
      ∙ sym (is_tag-gone gone id y q (map.get adds q))
    where
      other : eq_by_cmp id_cmp q id ≡ true → y == x ≡ false → is_tag gone y q (map.get adds q) ≡ false
      other is apart =
          ap (is_tag gone y q) (ap (map.get adds) (id-same q id is) ∙ put)
          ∙ ap (λ b. not (set.contains gone q) && b) (nat_eq_equiv.symm x y ∙ apart)
          ∙ and_false (not (set.contains gone q))
        where
          and_false : (b : Bool) → (b && false) ≡ false
          and_false true = refl
          and_false false = refl

      by : (b : Bool) → y == x ≡ b → (c : Bool) → eq_by_cmp id_cmp q id ≡ c
          → map.contains_key (cond b (map.remove (index_tags old x) id) (index_tags old y)) q
          ≡ (not c && is_tag gone y q (map.get adds q))
      by true here c is =
          contains-taken id_cmp_total id_cmp-IsAntisymmetric (index_tags old x) id q ∙ (λ i. not (is i) && indexed x q i)
          ∙ ap (λ z. not c && is_tag gone z q (map.get adds q)) (sym (eqb-true y x here))
      by false here true is = indexed y q ∙ other is here
      by false here false is = indexed y q
