-- Of writes one after another, the last by stamp and id is what stays, in whatever order two of
-- different replicas come.
use Rattle.std.proofs.Common.{◌≡◌, ◌≢◌, ◌⊎◌, ℕ, zero, suc, ◌<◌, nat_le, Bool, true, false, not, cond, List, [], ◌∷◌}
use Rattle.std.proofs.Common.{length, get_or, drop, All, fold, Option, Some, None, refl, ap, sym, ◌∙◌, subst, inl}
use Rattle.std.proofs.Common.{inr, arith}
use Rattle.std.specs.List.{list_any, find, filter_map, cons_option}
use Rattle.std.specs.Option.{option_and_then}
use Rattle.std.specs.Int.{w64, from_le_bytes}
use Rattle.std.proofs.lemmas.Bool.{cases_Bool, false≢true, not_from_false, not_from_true}
use Rattle.std.proofs.lemmas.Option.{same_Some, none-some}
use Rattle.std.proofs.lemmas.List.Elements.{All-cons}
use Rattle.std.proofs.lemmas.List.Folds.{list_any-from_Any, list_any_none}
use Rattle.la_set.specs.declared.update.UpdateId.{UpdateId}
use Rattle.la_set.specs.declared.update.Op.{Op}
use Rattle.la_set.specs.declared.update.Update.{Update}
use Rattle.la_own.specs.Own.{own_bytes_of}
use Rattle.la_types.specs.declared.write.Write.{Write}
use Rattle.la_types.specs.Writes.{is_before, precedes, later, with_write, last_write, write_read, write_of}

-- ## The order

-- three numbers in order, and three pairs of numbers
before_trans : (a b c : ℕ) (i j k : UpdateId) → is_before a i b j ≡ true → is_before b j c k ≡ true
    → is_before a i c k ≡ true
before_trans a b c i j k p q = grind arith

before_back : (a b c : ℕ) (i j k : UpdateId) → is_before a i b j ≡ false → is_before b j c k ≡ false
    → is_before a i c k ≡ false
before_back a b c i j k p q = grind arith

before_self : (a : ℕ) (i : UpdateId) → is_before a i a i ≡ false
before_self a i = grind arith

before_either : (a b : ℕ) (i j : UpdateId) → i.replica ≢ j.replica → is_before a i b j ≡ false
    → is_before b j a i ≡ true
before_either a b i j ne p = grind arith

order_trans : (x y z : Write) → precedes x y ≡ true → precedes y z ≡ true → precedes x z ≡ true
order_trans x y z = before_trans x.stamp y.stamp z.stamp x.id y.id z.id

order_back : (x y z : Write) → precedes x y ≡ false → precedes y z ≡ false → precedes x z ≡ false
order_back x y z = before_back x.stamp y.stamp z.stamp x.id y.id z.id

order_self : (x : Write) → precedes x x ≡ false
order_self x = before_self x.stamp x.id

order_not : (x y : Write) → precedes x y ≡ true → precedes y x ≡ false
order_not x y before = elim (cases_Bool (precedes y x)) [
  | inl back ↦ absurd (false≢true (sym (order_self x) ∙ order_trans x y x before back))
  | inr not ↦ not
]

order_either : (x y : Write) → x.id.replica ≢ y.id.replica → precedes x y ≡ false → precedes y x ≡ true
order_either x y = before_either x.stamp y.stamp x.id y.id

-- ## Two writes, in either order

chosen_after : (x y : Write) → precedes x y ≡ true → later x y ≡ y
chosen_after x y before = ap (λ b. cond b y x) before

chosen_before : (x y : Write) → precedes x y ≡ false → later x y ≡ x
chosen_before x y not = ap (λ b. cond b y x) not

in_order : (s x y : Write) → precedes x y ≡ true → later (later s x) y ≡ later (later s y) x
in_order s x y before = elim (cases_Bool (precedes s x)) [
  | inl after ↦
      ap (λ w. later w y) (chosen_after s x after) ∙ chosen_after x y before
      ∙ sym (ap (λ w. later w x) (chosen_after s y (order_trans s x y after before))
      ∙ chosen_before y x (order_not x y before))
  | inr not ↦
      ap (λ w. later w y) (chosen_before s x not)
      ∙ elim (cases_Bool (precedes s y)) [
        | inl past ↦
            chosen_after s y past
            ∙ sym (ap (λ w. later w x) (chosen_after s y past) ∙ chosen_before y x (order_not x y before))
        | inr still ↦
            chosen_before s y still ∙ sym (ap (λ w. later w x) (chosen_before s y still) ∙ chosen_before s x not)
      ]
]

either_order : (s x y : Write) → x.id.replica ≢ y.id.replica → later (later s x) y ≡ later (later s y) x
either_order s x y differ = elim (cases_Bool (precedes x y)) [
  | inl before ↦ in_order s x y before
  | inr not ↦ sym (in_order s y x (order_either x y differ not))
]

two_writes : (x y : Write) → x.id.replica ≢ y.id.replica → later x y ≡ later y x
two_writes x y differ = elim (cases_Bool (precedes x y)) [
  | inl before ↦ chosen_after x y before ∙ sym (chosen_before y x (order_not x y before))
  | inr not ↦ chosen_before x y not ∙ sym (chosen_after y x (order_either x y differ not))
]

-- the writes that two updates of different replicas may make
pub write_swap : (s one other : Option Write)
    → ((x y : Write) → one ≡ Some x → other ≡ Some y → x.id.replica ≢ y.id.replica)
    → with_write (with_write s one) other ≡ with_write (with_write s other) one
write_swap s None None differ = refl
write_swap s None (Some y) differ = refl
write_swap s (Some x) None differ = refl
write_swap None (Some x) (Some y) differ = ap Some (two_writes x y (differ x y refl refl))
write_swap (Some w) (Some x) (Some y) differ = ap Some (either_order w x y (differ x y refl refl))

-- ## The last of some

abbrev IsChosen : Write → List Write → Write → Type 0
IsChosen s ws r =
    ((r ≡ s) × All (λ w. precedes s w ≡ false) ws)
    ⊎ ((k : ℕ) × (k < length ws) × (get_or ws k r ≡ r) × (precedes s r ≡ true) × ((j : ℕ) → j < k
    → precedes (get_or ws j r) r ≡ true) × All (λ w. precedes r w ≡ false) ws)

-- one more write before them
one_more : (s w : Write) (ws : List Write) (r : Write) → IsChosen (later s w) ws r → IsChosen s (w ∷ ws) r
one_more s w ws r chosen = elim (cases_Bool (precedes s w)) [
  | inl before ↦ after before (subst (λ x. IsChosen x ws r) (chosen_after s w before) chosen)
  | inr not ↦ stays not (subst (λ x. IsChosen x ws r) (chosen_before s w not) chosen)
]
  where
    after : precedes s w ≡ true → IsChosen w ws r → IsChosen s (w ∷ ws) r
    after before (inl (is, all)) =
        inr (
          0,
          omega arith,
          sym is,
          subst (λ x. precedes s x ≡ true) (sym is) before,
          (λ j lt. absurd (omega arith)),
          subst (λ x. All (λ v. precedes x v ≡ false) (w
              ∷ ws)) (sym is) (All-cons (λ v. precedes w v ≡ false) w ws (order_self w) all),
        )
    after before (inr (k, lt, at, past, earlier, all)) =
        inr (
          suc k,
          omega arith,
          at,
          order_trans s w r before past,
          earlier_too past earlier,
          All-cons (λ v. precedes r v ≡ false) w ws (order_not w r past) all,
        )
      where
        earlier_too : precedes w r ≡ true → ((j : ℕ) → j < k → precedes (get_or ws j r) r ≡ true)
            → (j : ℕ) → j < suc k → precedes (get_or (w ∷ ws) j r) r ≡ true
        earlier_too p q zero below = p
        earlier_too p q (suc j) below = q j (omega arith)

    stays : precedes s w ≡ false → IsChosen s ws r → IsChosen s (w ∷ ws) r
    stays not (inl (is, all)) = inl (is, All-cons (λ v. precedes s v ≡ false) w ws not all)
    stays not (inr (k, lt, at, past, earlier, all)) =
        inr (
          suc k,
          omega arith,
          at,
          past,
          earlier_too past_w earlier,
          All-cons (λ v. precedes r v ≡ false) w ws (order_not w r past_w) all,
        )
      where
        past_w : precedes w r ≡ true
        past_w = elim (cases_Bool (precedes w r)) [
          | inl is ↦ is
          | inr no_more ↦ absurd (false≢true (sym (order_back s w r not no_more) ∙ past))
        ]

        earlier_too : precedes w r ≡ true → ((j : ℕ) → j < k → precedes (get_or ws j r) r ≡ true)
            → (j : ℕ) → j < suc k → precedes (get_or (w ∷ ws) j r) r ≡ true
        earlier_too p q zero below = p
        earlier_too p q (suc j) below = q j (omega arith)

chosen_of : (s : Write) (ws : List Write) → IsChosen s ws (fold later s ws)
chosen_of s [] = inl (refl, λ k d lt. absurd (omega arith))
chosen_of s (w ∷ ws) = one_more s w ws (fold later (later s w) ws) (chosen_of (later s w) ws)

find_at : (p : Write → Bool) (ws : List Write) (k : ℕ) (r : Write) → k < length ws → get_or ws k r ≡ r → p r ≡ true
    → ((j : ℕ) → j < k → p (get_or ws j r) ≡ false) → find p ws ≡ Some r
find_at p [] k r lt at is before = absurd (omega arith)
find_at p (w ∷ ws) zero r lt at is before =
    ap (λ b. cond b (Some w) (find p ws)) (ap p at ∙ is) ∙ ap Some at
find_at p (w ∷ ws) (suc k) r lt at is before =
    ap (λ b. cond b (Some w) (find p ws)) (before 0 (omega arith))
    ∙ find_at p ws k r (omega arith) at is (λ j below. before (suc j) (omega arith))

last_of : (w : Write) (ws : List Write) (r : Write) → IsChosen w ws r → last_write (w ∷ ws) ≡ Some r
last_of w ws r (inl (is, all)) =
    find_at (λ x. not (list_any (precedes x) (w ∷ ws))) (w ∷ ws) 0 r (omega arith) (sym is)
    (not_from_false _ (list_any_none (precedes r) (w ∷ ws)
    (subst (λ x. All (λ v. precedes x v ≡ false) (w
    ∷ ws)) (sym is) (All-cons (λ v. precedes w v ≡ false) w ws (order_self w) all))))
    (λ j lt. absurd (omega arith))
last_of w ws r (inr (k, lt, at, past, earlier, all)) =
    find_at (λ x. not (list_any (precedes x) (w ∷ ws))) (w ∷ ws) (suc k) r (omega arith) at
    (not_from_false _ (list_any_none (precedes r) (w
    ∷ ws) (All-cons (λ v. precedes r v ≡ false) w ws (order_not w r past) all)))
    before
  where
    passed : (x : Write) → precedes x r ≡ true → not (list_any (precedes x) (w ∷ ws)) ≡ false
    passed x is = not_from_true _ (list_any-from_Any (precedes x) (w ∷ ws) (suc k, r, omega arith, at, is))

    before : (j : ℕ) → j < suc k → not (list_any (precedes (get_or (w ∷ ws) j r)) (w ∷ ws)) ≡ false
    before zero below = passed w past
    before (suc j) below = passed (get_or ws j r) (earlier j (omega arith))

fold_some : (w : Write) (ws : List Write) → fold (λ s x. with_write s (Some x)) (Some w) ws ≡ Some (fold later w ws)
fold_some w [] = refl
fold_some w (x ∷ ws) = fold_some (later w x) ws

pub last_is : (ws : List Write) → fold (λ s x. with_write s (Some x)) None ws ≡ last_write ws
last_is [] = refl
last_is (w ∷ ws) = fold_some w ws ∙ sym (last_of w ws (fold later w ws) (chosen_of w ws))

-- ## By updates

module _ (write : Update → Option Write) where
  one_write : (s : Option Write) (o : Option Write) (ws : List Write)
      → fold (λ t x. with_write t (Some x)) (with_write s o) ws
      ≡ fold (λ t x. with_write t (Some x)) s (cons_option o ws)
  one_write s None ws = refl
  one_write s (Some x) ws = refl

  pub fold_writes : (s : Option Write) (us : List Update)
      → fold (λ t u. with_write t (write u)) s us ≡ fold (λ t x. with_write t (Some x)) s (filter_map write us)
  fold_writes s [] = refl
  fold_writes s (u ∷ us) = fold_writes (with_write s (write u)) us ∙ one_write s (write u) (filter_map write us)

-- ## What is written has the id of its update

read_id : (id : UpdateId) (bytes : List ℕ) (b : Bool) → nat_le 8 (length bytes) ≡ b → (x : Write)
    → write_read id bytes ≡ Some x → x.id ≡ id
read_id id bytes true is x e = ap (λ (w : Write). w.id) (sym (same_Some _ _ (sym (ap (λ b. cond b (Some
    (record { stamp = from_le_bytes w64 bytes; id = id; value = drop 8 bytes })) None) is) ∙ e)))
read_id id bytes false is x e = absurd (none-some x (sym (ap (λ b. cond b (Some
    (record { stamp = from_le_bytes w64 bytes; id = id; value = drop 8 bytes })) None) is) ∙ e))

some_id : (id : UpdateId) (o : Option (List ℕ)) (x : Write) → option_and_then (write_read id) o ≡ Some x → x.id ≡ id
some_id id None x e = absurd (none-some x e)
some_id id (Some bytes) x e = read_id id bytes (nat_le 8 (length bytes)) refl x e

pub write_of-id : (id : UpdateId) (op : Op) (x : Write) → write_of id op ≡ Some x → x.id ≡ id
unfolding write_of
write_of-id id op x e = some_id id (own_bytes_of op) x e
