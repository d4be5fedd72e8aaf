-- Tags: put last, compared, and those of one's own told from others.
use Rattle.std.proofs.Common.{◌≡◌, ℕ, zero, suc, ◌+◌, ◌<◌, ◌≤◌, true, false, List, [], ◌∷◌, ◌++◌, length, filter, map}
use Rattle.std.proofs.Common.{get_or, All, Contains, refl, ap, sym, ◌∙◌, inl, inr, arith, add-one}
use Rattle.std.specs.Bool.{Decides}
use Rattle.std.specs.List.{range_with_len}
use Rattle.std.specs.Cmp.Lexicographic.{pointwise}
use Rattle.std.proofs.lemmas.Bool.{eq-eqb, eqb-true, and_parts, and_from}
use Rattle.std.proofs.lemmas.List.FromFn.{fill_by_all, get_or-map-range_with_len, length-map-range_with_len}
use Rattle.std.proofs.lemmas.List.FromFn.{map-range_with_len_more}
use Rattle.std.proofs.lemmas.List.Elements.{All-head, All-tail, All-contains}
use Rattle.std.proofs.lemmas.Slice.Eq.{slice_eq-Decides}
use Rattle.la_set.specs.declared.update.UpdateId.{UpdateId}
use Rattle.la_set.specs.Ids.{IsBelow, id_below, id_eq}
use Rattle.la_set.specs.Tags.{with_tag}
use Rattle.la_own.specs.Own.{word_count, length_tag, word_tag, own_tags, no_tag}

-- ## The last

below_test : (x y : UpdateId) → IsBelow x y → (id_below x y ≡ true) × (id_below y x ≡ false)
below_test x y below = elim below [
  | inl lt ↦ (grind arith, grind arith)
  | inr same ↦ (grind (arith, same.0), grind (arith, same.0))
]

module _ (tag : UpdateId) where
  all_below : (ids : List UpdateId) → All (λ other. IsBelow other tag) ids
      → filter (λ other. id_below other tag) ids ≡ ids
  all_below [] all = refl
  all_below (x ∷ ids) all =
      rw (below_test x tag (All-head (λ other. IsBelow other tag) x ids all)).0
      (ap (λ rest. x ∷ rest) (all_below ids (All-tail (λ other. IsBelow other tag) x ids all)))

  none_above : (ids : List UpdateId) → All (λ other. IsBelow other tag) ids
      → filter (λ other. id_below tag other) ids ≡ []
  none_above [] all = refl
  none_above (x ∷ ids) all =
      rw (below_test x tag (All-head (λ other. IsBelow other tag) x ids all)).1
      (none_above ids (All-tail (λ other. IsBelow other tag) x ids all))

  pub with_last : (ids : List UpdateId) → All (λ other. IsBelow other tag) ids → with_tag tag ids ≡ ids ++ tag ∷ []
  with_last ids all i = all_below ids all i ++ tag ∷ none_above ids all i

-- ## Compared

id_eq-Decides : (x y : UpdateId) → Decides (id_eq x y) (x ≡ y)
id_eq-Decides x y = (
  λ t. let p =
      and_parts _ _ t in λ i. record
      { replica = eqb-true x.replica y.replica p.0 i; number = eqb-true x.number y.number p.1 i },
  λ e. and_from _ _ (eq-eqb x.replica y.replica (ap (λ w. w.replica) e))
      (eq-eqb x.number y.number (ap (λ w. w.number) e)),
)

pub tags_eq-Decides : (xs ys : List UpdateId) → Decides (pointwise id_eq xs ys) (xs ≡ ys)
tags_eq-Decides xs ys = slice_eq-Decides id_eq-Decides xs ys (pointwise id_eq xs ys) refl

-- tags that are those of bytes place by place are those of the bytes
pub same_by_places : (bytes : List ℕ) (tags : List UpdateId) → length tags ≡ word_count bytes + 1
    → get_or tags 0 no_tag ≡ length_tag bytes
    → ((k : ℕ) → k < word_count bytes → get_or tags (k + 1) no_tag ≡ word_tag bytes k)
    → tags ≡ own_tags bytes
same_by_places bytes [] long first rest = absurd (omega arith)
same_by_places bytes (tag ∷ tags) long first rest = λ i.
    first i ∷ fill_by_all (word_tag bytes) tags (word_count bytes) no_tag (omega arith)
    (λ k lt. ap (λ j. get_or (tag ∷ tags) j no_tag) (sym (add-one k)) ∙ rest k lt) i

pub own_tags-length : (bytes : List ℕ) → length (own_tags bytes) ≡ word_count bytes + 1
own_tags-length bytes = omega (arith, length-map-range_with_len (word_tag bytes) 0 (word_count bytes))

pub own_tags-at : (bytes : List ℕ) (place : ℕ) → place < word_count bytes
    → get_or (own_tags bytes) (place + 1) no_tag ≡ word_tag bytes place
own_tags-at bytes place lt =
    ap (λ j. get_or (own_tags bytes) j no_tag) (add-one place)
    ∙ get_or-map-range_with_len (word_tag bytes) 0 (word_count bytes) place place no_tag lt (omega arith)

-- each tag has a replica of 8 or more
pub own_tags-high : (bytes : List ℕ) → All (λ tag. 8 ≤ tag.replica) (own_tags bytes)
own_tags-high bytes zero d lt = omega arith
own_tags-high bytes (suc k) d lt =
    let within : k < word_count bytes =
    omega (arith, length-map-range_with_len (word_tag bytes) 0 (word_count bytes)) in
    omega
    (arith, ap (λ t. t.replica) (get_or-map-range_with_len (word_tag bytes) 0 (word_count bytes) k k d within (omega arith)))

-- the tags of so many words, and of one more, which is above them
module _ (bytes : List ℕ) (count : ℕ) where
  pub tags_more : length_tag bytes ∷ map (word_tag bytes) (range_with_len 0 (count + 1))
      ≡ (length_tag bytes ∷ map (word_tag bytes) (range_with_len 0 count)) ++ word_tag bytes count ∷ []
  tags_more =
      ap (λ tags. length_tag bytes ∷ tags) (map-range_with_len_more (word_tag bytes) 0 count count (omega arith))

-- what all tags are below is none of them
pub not_among : (tag : UpdateId) (ids : List UpdateId) → All (λ other. IsBelow other tag) ids → Contains ids tag → ⊥
not_among tag ids all there = elim (All-contains (λ other. IsBelow other tag) ids tag all there) [
  | inl lt ↦ omega arith
  | inr same ↦ omega (arith, same.1)
]
