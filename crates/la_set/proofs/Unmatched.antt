-- What a list has and another has not at its place, from the end on.
use Rattle.std.proofs.Common.{◌≡◌, ◌≢◌, ◌⊎◌, min, ℕ, zero, suc, ◌+◌, ◌<◌, ◌≤◌, Bool, true, false, not, cond, List, [], ◌∷◌, ◌++◌, length, take, drop, filter, reverse, get_or, Some, None, option_map, refl, ap, sym, ◌∙◌, arith, inl, inr}
use Rattle.std.specs.List.{slice_get}
use Rattle.std.proofs.lemmas.List.{drop_more, drop_all, take_all, length-take, length-append, reverse-append}
use Rattle.std.proofs.lemmas.Option.{slice_get_within, slice_get_past, get_or_from_slice_get, slice_get-get_or}
use Rattle.std.proofs.lemmas.Bool.{cases_lt, false_from_ne_true}
use Rattle.la_set.specs.declared.update.Update.{Update}
use Rattle.la_set.specs.ObjectOps.{ObjectOp, update_of, update_eq}
use Rattle.la_set.specs.Histories.{Histories, history, ContainsUpdate, is_update, has_update, numbered}
use Rattle.la_set.specs.Difference.{lacks, unmatched}
use Rattle.la_set.proofs.lemmas.Decisions.{update_eq-Decides, has_update-Decides}
use Rattle.la_set.proofs.Walks.{last_is}

pub unmatched-all : (us : List Update) → unmatched us [] ≡ us
unmatched-all [] = refl
unmatched-all (u ∷ us) = refl

-- ## One place further to the front

drop_at : {X : Type 0} (xs : List X) (k : ℕ) (x : X) → slice_get xs k ≡ Some x → drop k xs ≡ x ∷ drop (k + 1) xs
drop_at xs k x got =
    drop_more xs k x (slice_get_within xs k x got) ∙ ap (λ y. y ∷ drop (k + 1) xs) (get_or_from_slice_get xs k x x got)

-- what the second has not, from a place on
abbrev pub from : List Update → List Update → ℕ → List Update
from xs ys n = unmatched (drop n xs) (drop n ys)

module _ (xs ys : List Update) (k n : ℕ) (is : n ≡ k + 1) (x : Update) (at_x : slice_get xs k ≡ Some x) where
  pub from_same : (y : Update) → slice_get ys k ≡ Some y → y ≡ x → from xs ys k ≡ from xs ys n
  from_same y at_y e =
      ap (λ us. unmatched us (drop k ys)) (drop_at xs k x at_x)
      ∙ ap (unmatched (x ∷ drop (k + 1) xs)) (drop_at ys k y at_y)
      ∙ ap
      (λ b.
      cond b (unmatched (drop (k + 1) xs) (drop (k + 1) ys)) (x ∷ unmatched (drop (k + 1) xs) (drop (k + 1) ys)))
      ((update_eq-Decides y x).1 e)
      ∙ ap (from xs ys) (sym is)

  from_other : (y : Update) → slice_get ys k ≡ Some y → y ≢ x → from xs ys k ≡ x ∷ from xs ys n
  from_other y at_y ne =
      ap (λ us. unmatched us (drop k ys)) (drop_at xs k x at_x)
      ∙ ap (unmatched (x ∷ drop (k + 1) xs)) (drop_at ys k y at_y)
      ∙ ap
      (λ b.
      cond b (unmatched (drop (k + 1) xs) (drop (k + 1) ys)) (x ∷ unmatched (drop (k + 1) xs) (drop (k + 1) ys)))
      (false_from_ne_true _ (λ t. ne ((update_eq-Decides y x).0 t)))
      ∙ ap (λ m. x ∷ from xs ys m) (sym is)

  from_past : length ys ≤ k → from xs ys k ≡ x ∷ from xs ys n
  from_past le =
      ap (λ us. unmatched us (drop k ys)) (drop_at xs k x at_x)
      ∙ ap (unmatched (x ∷ drop (k + 1) xs)) (drop_all k ys le)
      ∙ ap (λ us. x ∷ us)
      (sym (unmatched-all (drop (k + 1) xs))
      ∙ ap (unmatched (drop (k + 1) xs)) (sym (drop_all (k + 1) ys (omega (arith, le))))
      ∙ ap (from xs ys) (sym is))

  pub from_unmatched : (slice_get ys k ≡ Some x → ⊥) → from xs ys k ≡ x ∷ from xs ys n
  from_unmatched not = elim (cases_lt k (length ys)) [
    | inl lt ↦ let at_y = slice_get-get_or ys k x lt in from_other (get_or ys k x) at_y (λ e. not (at_y ∙ ap Some e))
    | inr le ↦ from_past le
  ]

  -- the reversed list with the update that is found next
  pub found_next : (found now : List Update) (u : Update) → found ≡ reverse (from xs ys n) → now ≡ found ++ u ∷ []
      → u ≡ x → from xs ys k ≡ x ∷ from xs ys n → now ≡ reverse (from xs ys k)
  found_next found now u so_far more e next =
      more ∙ ap (λ us. us ++ u ∷ []) so_far ∙ ap (λ v. reverse (from xs ys n) ++ v ∷ []) e
      ∙ sym (ap reverse next ∙ reverse-append (x ∷ []) (from xs ys n))

pub something : {X : Type 0} {x : X} {xs : List X} → x ∷ xs ≡ [] → ⊥
something e = omega (arith, ap length e)

-- where nothing is unmatched, nothing is from any place on
none_left : (b : Bool) (u : Update) (us : List Update) → cond b us (u ∷ us) ≡ [] → us ≡ []
none_left true u us e = e
none_left false u us e = absurd (omega (arith, ap length e))

pub from_none : (xs ys : List Update) (k : ℕ) → unmatched xs ys ≡ [] → from xs ys k ≡ []
from_none xs ys zero e = e
from_none [] ys (suc k) e = refl
from_none (x ∷ xs) [] (suc k) e = absurd (omega (arith, ap length e))
from_none (x ∷ xs) (y ∷ ys) (suc k) e = from_none xs ys k (none_left (update_eq y x) x (unmatched xs ys) e)

-- ## What a set lacks of a replica's updates

module _ (s : Histories) (r : ℕ) where
  has_none : (m : ℕ) (d : ObjectOp) → length (history s r) ≤ m → has_update s (update_of r (suc m) d) ≡ false
  has_none m d le =
      ap (λ o. is_update (option_map (update_of r (suc m)) o) (update_of r (suc m) d)) (slice_get_past (history s r) m le)

  has_some : (m : ℕ) (d e : ObjectOp) → slice_get (history s r) m ≡ Some e
      → has_update s (update_of r (suc m) d) ≡ update_eq (update_of r (suc m) e) (update_of r (suc m) d)
  has_some m d e got = ap (λ o. is_update (option_map (update_of r (suc m)) o) (update_of r (suc m) d)) got

  chosen : (b : Bool) (u : Update) (us : List Update) → cond (not b) (u ∷ us) us ≡ cond b us (u ∷ us)
  chosen true u us = refl
  chosen false u us = refl

  pub lacked-is : (m : ℕ) (ds : List ObjectOp)
      → filter (lacks s) (numbered r (suc m) ds)
      ≡ unmatched (numbered r (suc m) ds) (numbered r (suc m) (drop m (history s r)))
  lacked-is m [] = refl
  lacked-is m (d ∷ ds) = elim (cases_lt m (length (history s r))) [
    | inl lt ↦
        let e = get_or (history s r) m d in
        let got = slice_get-get_or (history s r) m d lt in
        let more : drop m (history s r) ≡ e ∷ drop (suc m) (history s r) =
        drop_more (history s r) m d lt ∙ ap (λ n. e ∷ drop n (history s r)) {x = m + 1} {y = suc m} (omega arith) in
        let rest = lacked-is (suc m) ds in
        let u = update_of r (suc m) d in
        ap
        (λ b.
        cond (not b) (u ∷ filter (lacks s) (numbered r (suc (suc m)) ds))
        (filter (lacks s) (numbered r (suc (suc m)) ds))) (has_some m d e got)
        ∙ chosen (update_eq (update_of r (suc m) e) u) u (filter (lacks s) (numbered r (suc (suc m)) ds))
        ∙ ap (λ us. cond (update_eq (update_of r (suc m) e) u) us (u ∷ us)) rest
        ∙ sym (ap (λ es. unmatched (u ∷ numbered r (suc (suc m)) ds) (numbered r (suc m) es)) more)
    | inr le ↦
        let u = update_of r (suc m) d in
        let none = drop_all m (history s r) le in
        let none_further = drop_all (suc m) (history s r) (omega (arith, le)) in
        ap
        (λ b.
        cond (not b) (u ∷ filter (lacks s) (numbered r (suc (suc m)) ds))
        (filter (lacks s) (numbered r (suc (suc m)) ds))) (has_none m d le)
        ∙ ap (λ us. u ∷ us)
        (lacked-is (suc m) ds
        ∙ ap (λ es. unmatched (numbered r (suc (suc m)) ds) (numbered r (suc (suc m)) es)) none_further
        ∙ unmatched-all (numbered r (suc (suc m)) ds))
        ∙ sym (ap (λ es. unmatched (u ∷ numbered r (suc (suc m)) ds) (numbered r (suc m) es)) none)
  ]

-- ## Going back along two lists

-- the last of a list, which is the first so many items of another
module _ (xs items before : List Update) (x : Update) (is : items ≡ take (length items) xs)
    (within : length items ≤ length xs) (ends : items ≡ before ++ x ∷ []) where
  pub one_less : length items ≡ length before + 1
  one_less = ap length ends ∙ length-append before (x ∷ [])

  pub back : (before ≡ take (length before) xs) × (slice_get xs (length before) ≡ Some x)
  back = last_is xs before (length before) (length items) x one_less (omega (arith, one_less, within)) (sym is ∙ ends)

module _ (all items : List Update) (len k : ℕ) (next : len ≡ k + 1) (is : items ≡ take len all) where
  many : length items ≡ min len (length all)
  many = ap length is ∙ length-take len all

  -- it reaches to the place: this is what stands there
  pub reaching : (before : List Update) (y : Update) → items ≡ before ++ y ∷ [] → length items ≡ len
      → (before ≡ take k all) × (slice_get all k ≡ Some y)
  reaching before y ends same = last_is all before k len y next (omega (arith, next, same, many)) (sym is ∙ ends)

  few_from : (k < length all) ⊎ (length all ≤ k) → (length items ≡ len → ⊥) → length all ≤ k
  few_from (inl lt) short = absurd (short (omega (arith, next, lt, many)))
  few_from (inr le) short = le

  -- it does not
  pub short_of : (length items ≡ len → ⊥) → (items ≡ take k all) × (slice_get all k ≡ None)
  short_of short =
      let few = few_from (cases_lt k (length all)) short in
      (is ∙ take_all len all (omega (arith, next, few)) ∙ sym (take_all k all few), slice_get_past all k few)

-- of two sets' lists of a replica, what the first has and the second set has not
pub lacked-lists : (s : Histories) (r : ℕ) (ds : List ObjectOp) (us vs : List Update) → us ≡ numbered r 1 ds
    → vs ≡ numbered r 1 (history s r) → unmatched us vs ≡ filter (lacks s) (numbered r 1 ds)
lacked-lists s r ds us vs mine theirs =
    ap (λ ws. unmatched ws vs) mine ∙ ap (unmatched (numbered r 1 ds)) theirs ∙ sym (lacked-is s r 0 ds)

-- where all are there, nothing is lacked
pub none_lacked : (s : Histories) (us : List Update)
    → ((k : ℕ) (d : Update) → k < length us → ContainsUpdate s (get_or us k d)) → filter (lacks s) us ≡ []
none_lacked s [] there = refl
none_lacked s (u ∷ us) there =
    ap (λ b. cond (not b) (u ∷ filter (lacks s) us) (filter (lacks s) us))
    ((has_update-Decides s u).1 (there 0 u (omega arith)))
    ∙ none_lacked s us (λ k d lt. there (suc k) d (omega (arith, lt)))
