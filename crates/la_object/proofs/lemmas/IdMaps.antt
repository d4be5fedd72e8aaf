-- Finite maps and sets by ids, kept as sorted entries and keys: with one more, with one less, with a
-- list of ids, with nothing.
use Rattle.std.proofs.Common.{◌≡◌, ℕ, zero, suc, ◌+◌, Bool, true, false, not, ◌&&◌, ◌||◌, cond, T, List, [], ◌∷◌, length, drop, Some, None, refl, ap, sym, ◌∙◌, subst, arith}
use Rattle.std.specs.List.{list_any, slice_get}
use Rattle.std.specs.BTreeMap.{is_at}
use Rattle.std.specs.Ordering.{eq_by_cmp, is_eq}
use Rattle.std.specs.Cmp.{Equal-is, eq_by_cmp_equiv, tied_itself}
use Rattle.std.specs.FinMap as map
use Rattle.std.specs.FinSet as set
use Rattle.std.proofs.lemmas.Option.{none-some, same_Some}
use Rattle.la_set.specs.declared.update.UpdateId.{UpdateId}
use Rattle.la_object.specs.IdOrder.{id_cmp, Elements, IdSet}
use Rattle.la_object.specs.OrSet.{with_ids}
use Rattle.la_object.proofs.lemmas.IdOrder.{id_cmp_total, id_cmp-IsAntisymmetric}

-- ## One id

pub same_ids : (s t : IdSet) → ((q : UpdateId) → set.contains s q ≡ set.contains t q) → s ≡ t
same_ids s t h = set.same_set id_cmp_total id_cmp-IsAntisymmetric s t h

cond_or : (b c : Bool) → cond b true c ≡ (b || c)
cond_or true c = refl
cond_or false c = refl

cond_and : (b c : Bool) → cond b false c ≡ (not b && c)
cond_and true c = refl
cond_and false c = refl

-- keys that differ by one id make sets that differ there
pub one_more : (ks ls : List UpdateId) (id : UpdateId)
    → ((q : UpdateId) → list_any (is_at (id_cmp q)) ls ≡ cond (is_at (id_cmp id) q) true (list_any (is_at (id_cmp q)) ks))
    → set.from_list {R = id_cmp} ls ≡ set.insert (set.from_list ks) id
one_more ks ls id h = same_ids _ _ (λ q.
    set.contains-from_list id_cmp_total ls q ∙ h q
    ∙ ap (λ b. cond b true (list_any (is_at (id_cmp q)) ks)) ((eq_by_cmp_equiv id_cmp_total).symm id q)
    ∙ cond_or (eq_by_cmp id_cmp q id) (list_any (is_at (id_cmp q)) ks)
    ∙ sym (set.contains-insert id_cmp_total (set.from_list ks) id q ∙ ap (λ b. eq_by_cmp id_cmp q id || b) (set.contains-from_list id_cmp_total ks q)))

-- keys that lack one id
pub one_less : (ks ls : List UpdateId) (id : UpdateId)
    → ((q : UpdateId) → list_any (is_at (id_cmp q)) ls ≡ cond (is_at (id_cmp id) q) false (list_any (is_at (id_cmp q)) ks))
    → set.from_list {R = id_cmp} ls ≡ set.remove (set.from_list ks) id
one_less ks ls id h = same_ids _ _ (λ q.
    set.contains-from_list id_cmp_total ls q ∙ h q
    ∙ ap (λ b. cond b false (list_any (is_at (id_cmp q)) ks)) ((eq_by_cmp_equiv id_cmp_total).symm id q)
    ∙ cond_and (eq_by_cmp id_cmp q id) (list_any (eq_by_cmp id_cmp q) ks)
    ∙ sym (set.contains-remove id_cmp_total (set.from_list ks) id q ∙ ap (λ b. not (eq_by_cmp id_cmp q id) && b) (set.contains-from_list id_cmp_total ks q)))

-- what a further id changes is taken back
pub undone : (gone : IdSet) (id : UpdateId) → set.contains gone id ≡ false → set.remove (set.insert gone id) id ≡ gone
undone gone id new = same_ids _ _ (λ q.
    set.contains-remove id_cmp_total (set.insert gone id) id q
    ∙ ap (λ b. not (eq_by_cmp id_cmp q id) && b) (set.contains-insert id_cmp_total gone id q)
    ∙ by q (eq_by_cmp id_cmp q id) refl)
  where
    by : (q : UpdateId) (b : Bool) → eq_by_cmp id_cmp q id ≡ b
        → (not b && (b || set.contains gone q)) ≡ set.contains gone q
    by q true is = sym (ap (set.contains gone) (id_cmp-IsAntisymmetric q id ((Equal-is (id_cmp q id)).0 is)) ∙ new)
    by q false is = refl

pub nothing_new : (gone : IdSet) (id : UpdateId) → set.contains gone id ≡ true → set.insert gone id ≡ gone
nothing_new gone id there =
    same_ids _ _ (λ q. set.contains-insert id_cmp_total gone id q ∙ by q (eq_by_cmp id_cmp q id) refl)
  where
    by : (q : UpdateId) (b : Bool) → eq_by_cmp id_cmp q id ≡ b → (b || set.contains gone q) ≡ set.contains gone q
    by q true is = sym (ap (set.contains gone) (id_cmp-IsAntisymmetric q id ((Equal-is (id_cmp q id)).0 is)) ∙ there)
    by q false is = refl

-- ## One element

-- what was there is put there again
pub put_back : (adds : Elements) (id : UpdateId) (x was : ℕ) → map.get adds id ≡ Some was
    → map.insert (map.insert adds id x) id was ≡ adds
put_back adds id x was there = map.same_map id_cmp_total id_cmp-IsAntisymmetric _ _ (λ q.
    map.get-insert id_cmp_total (map.insert adds id x) id was q ∙ ap (cond (eq_by_cmp id_cmp q id) (Some was)) (map.get-insert id_cmp_total adds id x q) ∙ by q (eq_by_cmp id_cmp q id) refl)
  where
    by : (q : UpdateId) (b : Bool) → eq_by_cmp id_cmp q id ≡ b
        → cond b (Some was) (cond b (Some x) (map.get adds q)) ≡ map.get adds q
    by q true is = sym (ap (map.get adds) (id_cmp-IsAntisymmetric q id ((Equal-is (id_cmp q id)).0 is)) ∙ there)
    by q false is = refl

-- ## A list of ids

pub contains-with_ids : (gone : IdSet) (ids : List UpdateId) (q : UpdateId)
    → set.contains (with_ids gone ids) q ≡ (set.contains gone q || list_any (eq_by_cmp id_cmp q) ids)
contains-with_ids gone ids q =
    set.contains-union id_cmp_total gone (set.from_list ids) q
    ∙ ap (λ b. set.contains gone q || b) (set.contains-from_list id_cmp_total ids q)

or_false : (b : Bool) → (b || false) ≡ b
or_false true = refl
or_false false = refl

or_move : (a b c : Bool) → ((a || b) || c) ≡ (b || (a || c))
or_move true true c = refl
or_move true false c = refl
or_move false b c = refl

pub with_ids-nil : (gone : IdSet) → with_ids gone [] ≡ gone
with_ids-nil gone = same_ids _ _ (λ q. contains-with_ids gone [] q ∙ or_false _)

pub with_ids-more : (gone : IdSet) (id : UpdateId) (ids : List UpdateId)
    → with_ids (set.insert gone id) ids ≡ with_ids gone (id ∷ ids)
with_ids-more gone id ids = same_ids _ _ (λ q.
    contains-with_ids (set.insert gone id) ids q
    ∙ ap (λ b. b || list_any (eq_by_cmp id_cmp q) ids) (set.contains-insert id_cmp_total gone id q)
    ∙ or_move (eq_by_cmp id_cmp q id) (set.contains gone q) _ ∙ sym (contains-with_ids gone (id ∷ ids) q))

-- what is left of a list
pub drop_none : {X : Type 0} (xs : List X) (n : ℕ) → slice_get xs n ≡ None → drop n xs ≡ []
drop_none [] zero h = refl
drop_none [] (suc n) h = refl
drop_none (x ∷ xs) zero h = absurd (none-some x (sym h))
drop_none (x ∷ xs) (suc n) h = drop_none xs n h

pub drop_some : {X : Type 0} (xs : List X) (n : ℕ) (x : X) → slice_get xs n ≡ Some x → drop n xs ≡ x ∷ drop (n + 1) xs
drop_some [] n x h = absurd (none-some x h)
drop_some (y ∷ xs) zero x h = ap (λ z. z ∷ xs) (same_Some _ _ h)
drop_some (y ∷ xs) (suc n) x h =
    let next : suc (n + 1) ≡ suc n + 1 = omega arith in
    drop_some xs n x h ∙ ap (λ k. x ∷ drop k (y ∷ xs)) next

-- ## Nothing there

pub no_entries : (es : List (UpdateId × ℕ)) → length es ≡ 0 → map.from_entries {R = id_cmp} es ≡ map.empty
no_entries [] h = refl
no_entries (e ∷ es) h = absurd (omega arith)

pub empty_entries : (es : List (UpdateId × ℕ)) → map.from_entries {R = id_cmp} es ≡ map.empty → length es ≡ 0
empty_entries [] h = refl
empty_entries (e ∷ es) h =
    absurd
    (none-some e.1
    (sym (map.get-empty id_cmp e.0) ∙ ap (λ m. map.get m e.0) (sym h)
    ∙ map.get-insert id_cmp_total (map.from_entries es) e.0 e.1 e.0
    ∙ ap (λ r. cond (is_eq r) (Some e.1) (map.get {R = id_cmp} (map.from_entries es) e.0))
    (tied_itself id_cmp_total e.0)))

pub no_ids : (ids : List UpdateId) → length ids ≡ 0 → set.from_list {R = id_cmp} ids ≡ set.empty
no_ids [] h = refl
no_ids (id ∷ ids) h = absurd (omega arith)

pub empty_ids : (ids : List UpdateId) → set.from_list {R = id_cmp} ids ≡ set.empty → length ids ≡ 0
empty_ids [] h = refl
empty_ids (id ∷ ids) h =
    absurd
    (subst T
    (sym (ap (λ r. is_eq r || set.contains {R = id_cmp} (set.from_list ids) id) (tied_itself id_cmp_total id))
    ∙ sym (set.contains-insert id_cmp_total (set.from_list ids) id id) ∙ ap (λ s. set.contains s id) h
    ∙ set.contains-empty id_cmp id) tt)
