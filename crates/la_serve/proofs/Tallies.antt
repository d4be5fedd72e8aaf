-- How many of some updates pass a test, and whether all do, one after another.
use Rattle.std.proofs.Common.{◌≡◌, ℕ, ◌+◌, Bool, true, false, ◌&&◌, cond, List, [], ◌∷◌, ◌++◌, length, filter, take}
use Rattle.std.proofs.Common.{slice_get, get_or, Some, sym, ap, ◌∙◌, ◌==◌, append-nil, add-one, arith}
use Rattle.std.specs.List.{list_all}
use Rattle.std.proofs.lemmas.List.{length-append}
use Rattle.std.proofs.lemmas.List.Elements.{filter_more}
use Rattle.std.proofs.lemmas.List.Folds.{list_all_more}
use Rattle.std.proofs.lemmas.Option.{slice_get_within, get_or_from_slice_get}
use Rattle.la_set.specs.declared.update.Update.{Update}
use Rattle.la_set.specs.declared.update.UpdateId.{UpdateId}
use Rattle.la_set.specs.declared.counts.Counts.{Counts}
use Rattle.la_set.specs.Counts.{from_counts}
use Rattle.la_serve.specs.Said.{count_of, object_counts}
use Rattle.la_set.specs.Histories.{Histories, get, history, object_op_number}
use Rattle.la_set.specs.ObjectOps.{ObjectOp, update_of}
use Rattle.la_node.proofs.lemmas.Stepping.{some_of}

put_last : (b : Bool) (d : ObjectOp) (ds : List ObjectOp) → length (ds ++ cond b (d ∷ []) []) ≡ length ds + cond b 1 0
put_last true d ds = length-append ds (d ∷ [])
put_last false d ds = let none : length ds ≡ length ds + 0 = omega arith in ap length (append-nil ds) ∙ none

-- one more of them
pub counted_more : (p : ObjectOp → Bool) (xs : List ObjectOp) (k count : ℕ) (d : ObjectOp) → slice_get xs k ≡ Some d
    → count ≡ length (filter p (take k xs)) → count + cond (p d) 1 0 ≡ length (filter p (take (k + 1) xs))
counted_more p xs k count d at is =
    ap (λ n. n + cond (p d) 1 0) is
    ∙ sym (ap length (filter_more p xs k d (slice_get_within xs k d at))
    ∙ ap (λ e. length (filter p (take k xs) ++ cond (p e) (e ∷ []) [])) (get_or_from_slice_get xs k d d at)
    ∙ put_last (p d) d (filter p (take k xs)))

-- one more of a replica's updates
pub count_more : (s : Histories) (r k count object : ℕ) (u : Update) (b : Bool)
    → get s (record { replica = r; number = k + 1 }) ≡ Some u
    → count ≡ length (filter (λ (d : ObjectOp). d.object == object) (take k (history s r))) → b ≡ (u.object == object)
    → count + cond b 1 0 ≡ length (filter (λ (d : ObjectOp). d.object == object) (take (k + 1) (history s r)))
count_more s r k count object u b at is test =
    let found = some_of (update_of r (k + 1)) (object_op_number (history s r) (k + 1)) u at in
    let here : slice_get (history s r) k ≡ Some found.0 =
    sym (ap (object_op_number (history s r)) (add-one k)) ∙ found.1 in
    let same : b ≡ (found.0.object == object) = test ∙ ap (λ (v : Update). v.object == object) (sym found.2) in
    ap (λ c. count + cond c 1 0) same
    ∙ counted_more (λ (d : ObjectOp). d.object == object) (history s r) k count found.0 here is

-- one more tag
pub tags_more : (p : UpdateId → Bool) (tags : List UpdateId) (k : ℕ) (id : UpdateId) (before : Bool)
    → slice_get tags k ≡ Some id → before ≡ list_all p (take k tags)
    → (before && p id) ≡ list_all p (take (k + 1) tags)
tags_more p tags k id before at is =
    sym (list_all_more p tags k id (slice_get_within tags k id at)
    ∙ ap (λ b. b && p (get_or tags k id)) (sym is) ∙ ap (λ v. before && p v) (get_or_from_slice_get tags k id id at))

-- counts are equal where each number is
pub each_count : (view : Histories) (object : ℕ) (c0 c1 c2 c3 c4 c5 c6 c7 : ℕ) (c : Counts)
    → c0 ≡ count_of view object 0 → c1 ≡ count_of view object 1 → c2 ≡ count_of view object 2
    → c3 ≡ count_of view object 3 → c4 ≡ count_of view object 4 → c5 ≡ count_of view object 5
    → c6 ≡ count_of view object 6 → c7 ≡ count_of view object 7
    → c ≡ from_counts (λ r. get_or (c0 ∷ c1 ∷ c2 ∷ c3 ∷ c4 ∷ c5 ∷ c6 ∷ c7 ∷ []) r 0) → c ≡ object_counts view object
unfolding from_counts
each_count view object c0 c1 c2 c3 c4 c5 c6 c7 c e0 e1 e2 e3 e4 e5 e6 e7 is =
    is ∙ (λ i. record { of = e0 i ∷ e1 i ∷ e2 i ∷ e3 i ∷ e4 i ∷ e5 i ∷ e6 i ∷ e7 i ∷ [] })
