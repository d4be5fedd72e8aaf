-- Ids and tags are read back.
use Rattle.std.proofs.Common.{◌≡◌, ℕ, zero, suc, ◌<◌, Bool, true, false, List, [], ◌∷◌, ◌++◌, length, get_or, map}
use Rattle.std.proofs.Common.{filter, All, AllPairs, Some, option_map, refl, sym, ap, ◌∙◌, subst, append-nil}
use Rattle.std.proofs.Common.{append_assoc, arith, inl, inr}
use Rattle.std.specs.Fmt.{decimal}
use Rattle.std.proofs.lemmas.Bool.{cases_Bool}
use Rattle.std.proofs.lemmas.List.{length-append}
use Rattle.std.proofs.lemmas.List.Elements.{All-cons, All-head, All-tail, All-append}
use Rattle.la_set.specs.declared.update.UpdateId.{UpdateId}
use Rattle.la_set.specs.Ids.{IsBelow, id_below}
use Rattle.la_set.specs.Tags.{with_tag}
use Rattle.la_set.proofs.lemmas.IdOrder.{below_trans, below_irreflexive, below-test, test-below}
use Rattle.la_script.specs.Numbers.{u8_max, u32_max, number}
use Rattle.la_script.specs.Words.{each_word}
use Rattle.la_script.specs.Tags.{tag_in, tag_of, with_tags, tag_words}
use Rattle.la_script.specs.Text.{id_text}
use Rattle.la_wire.specs.Writable.{IsIdFrom, IsId}
use Rattle.la_wire.proofs.Typed.{typed-id}
use Rattle.la_wire.proofs.Decimals.{number-decimal, decimal-plain, decimal-no_stop, is_plain, IsPlain}
use Rattle.la_wire.proofs.Joins.{before-first, after-first}

pub id-text : (id : UpdateId) → id_text id ≡ decimal id.replica ++ 46 ∷ decimal id.number
id-text id = append_assoc (decimal id.replica) (46 ∷ []) (decimal id.number)

pub id-plain : (id : UpdateId) → IsIdFrom 0 id → IsPlain (id_text id)
id-plain id is =
    let one = decimal-plain id.replica (omega (arith, is.replica)) in
    let two = decimal-plain id.number (omega (arith, is.number)) in
    subst IsPlain (sym (id-text id))
    (All-append (λ b. is_plain b ≡ true) (decimal id.replica) (46 ∷ decimal id.number) one
    (All-cons (λ b. is_plain b ≡ true) 46 (decimal id.number) refl two))

tag-numbers : (a b : List ℕ) (r n : ℕ) → number 0 u8_max a ≡ Some r → number 1 u32_max b ≡ Some n
    → tag_in a b ≡ Some (record { replica = r; number = n })
tag-numbers a b r n e f = rw (e, f) refl

-- the two numbers of an id
pub id-parts : (id : UpdateId) → IsIdFrom 0 id → tag_of (id_text id) ≡ tag_in (decimal id.replica) (decimal id.number)
id-parts id is =
    let stop = decimal-no_stop id.replica (omega (arith, is.replica)) in
    ap tag_of (id-text id)
    ∙ (λ i.
    tag_in (before-first 46 (decimal id.replica) (decimal id.number) refl stop i)
    (after-first 46 (decimal id.replica) (decimal id.number) refl stop i))

pub id-back : (id : UpdateId) → IsId id → tag_of (id_text id) ≡ Some id
id-back id is =
    id-parts id (typed-id id is)
    ∙ tag-numbers (decimal id.replica) (decimal id.number) id.replica id.number
    (number-decimal 0 u8_max id.replica (omega arith) is.replica (omega arith))
    (number-decimal 1 u32_max id.number is.some is.number (omega arith))

each-back : (ids : List UpdateId) → All IsId ids → each_word tag_of (map id_text ids) ≡ Some ids
each-back [] all = refl
each-back (id ∷ ids) all = rw (id-back id (All-head IsId id ids all), each-back ids (All-tail IsId id ids all)) refl

-- ## Tags in order

filter_whole : (p : UpdateId → Bool) (xs : List UpdateId) → All (λ x. p x ≡ true) xs → filter p xs ≡ xs
filter_whole p [] all = refl
filter_whole p (x ∷ xs) all =
    rw (All-head (λ y. p y ≡ true) x xs all)
    (ap (λ ys. x ∷ ys) (filter_whole p xs (All-tail (λ y. p y ≡ true) x xs all)))

filter_nothing : (p : UpdateId → Bool) (xs : List UpdateId) → All (λ x. p x ≡ false) xs → filter p xs ≡ []
filter_nothing p [] all = refl
filter_nothing p (x ∷ xs) all =
    rw (All-head (λ y. p y ≡ false) x xs all) (filter_nothing p xs (All-tail (λ y. p y ≡ false) x xs all))

not_below : (x y : UpdateId) → IsBelow y x → id_below x y ≡ false
not_below x y above = elim (cases_Bool (id_below x y)) [
  | inl holds ↦ absurd (below_irreflexive x (below_trans x y x (test-below x y holds) above))
  | inr fails ↦ fails
]

with-last : (id : UpdateId) (ids : List UpdateId) → All (λ x. IsBelow x id) ids → with_tag id ids ≡ ids ++ id ∷ []
with-last id ids below =
    λ i.
    filter_whole (λ tag. id_below tag id) ids (λ k d lt. below-test _ id (below k d lt)) i
    ++ id ∷ filter_nothing (λ tag. id_below id tag) ids (λ k d lt. not_below id _ (below k d lt)) i

at_left : (xs ys : List UpdateId) (k : ℕ) (d : UpdateId) → k < length xs → get_or (xs ++ ys) k d ≡ get_or xs k d
at_left [] ys k d lt = absurd (omega arith)
at_left (x ∷ xs) ys zero d lt = refl
at_left (x ∷ xs) ys (suc k) d lt = at_left xs ys k d (omega arith)

at_seam : (xs : List UpdateId) (y : UpdateId) (ys : List UpdateId) (d : UpdateId)
    → get_or (xs ++ y ∷ ys) (length xs) d ≡ y
at_seam [] y ys d = refl
at_seam (x ∷ xs) y ys d = at_seam xs y ys d

below-next : (xs : List UpdateId) (y : UpdateId) (ys : List UpdateId) → AllPairs IsBelow (xs ++ y ∷ ys)
    → All (λ x. IsBelow x y) xs
below-next xs y ys pairs k d lt =
    let both = pairs k (length xs) d lt (omega (arith, length-append xs (y ∷ ys))) in
    subst (λ z. IsBelow z y) (at_left xs (y ∷ ys) k d lt)
    (subst (IsBelow (get_or (xs ++ y ∷ ys) k d)) (at_seam xs y ys d) both)

with_tags-ascending : (tags more : List UpdateId) → AllPairs IsBelow (tags ++ more) → with_tags tags more ≡ tags ++ more
with_tags-ascending tags [] pairs = sym (append-nil tags)
with_tags-ascending tags (t ∷ more) pairs =
    let same : tags ++ t ∷ more ≡ (tags ++ t ∷ []) ++ more = sym (append_assoc tags (t ∷ []) more) in
    ap (λ all. with_tags all more) (with-last t tags (below-next tags t more pairs))
    ∙ with_tags-ascending (tags ++ t ∷ []) more (subst (AllPairs IsBelow) same pairs)
    ∙ sym same

pub tags-back : (ids : List UpdateId) → AllPairs IsBelow ids → All IsId ids → tag_words (map id_text ids) ≡ Some ids
tags-back ids ascending all =
    ap (option_map (with_tags [])) (each-back ids all) ∙ ap Some (with_tags-ascending [] ids ascending)
