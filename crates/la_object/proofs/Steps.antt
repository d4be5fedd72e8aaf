-- Two steps with different ids commute.
use Rattle.std.proofs.Common.{◌≡◌, ◌≢◌, ℕ, ◌+◌, Bool, true, false, ◌||◌, cond, max, List, [], ◌∷◌, Option, Some, None, is_some, refl, ap, sym, ◌∙◌, arith}
use Rattle.std.specs.Ordering.{eq_by_cmp}
use Rattle.std.specs.Cmp.{Equal-is}
use Rattle.std.specs.FinMap as map
use Rattle.std.specs.FinSet as set
use Rattle.la_set.specs.declared.update.UpdateId.{UpdateId}
use Rattle.la_set.specs.declared.update.Update.{Update}
use Rattle.la_object.specs.IdOrder.{id_cmp, Elements, IdSet}
use Rattle.la_object.specs.declared.state.State.{State}
use Rattle.la_object.specs.declared.state.State.TheVariants.{Counter, Max, Set}
use Rattle.la_object.specs.Counter.{increment, decrement}
use Rattle.la_object.specs.MaxRegister.{raised}
use Rattle.la_object.specs.OrSet.{element, named, with_element, with_ids}
use Rattle.la_object.specs.Objects.{after}
use Rattle.la_object.proofs.lemmas.IdOrder.{id_cmp_total, id_cmp-IsAntisymmetric}

pub or_else : Option ℕ → Option ℕ → Option ℕ
or_else (Some x) b = Some x
or_else None b = b

pub or_else-None : or_else None None ≡ None
unfolding or_else
or_else-None = refl

-- what a map with one more element answers
pub get-with_element : (adds : Elements) (id : UpdateId) (x : ℕ) (q : UpdateId)
    → map.get (with_element adds id (Some x)) q ≡ or_else (map.get adds q) (cond (eq_by_cmp id_cmp q id) (Some x) None)
unfolding or_else
get-with_element adds id x q = by (map.get adds id) refl (eq_by_cmp id_cmp q id) refl
  where
    tied : eq_by_cmp id_cmp q id ≡ true → map.get adds id ≡ map.get adds q
    tied e = map.get_tied id_cmp_total adds q id ((Equal-is (id_cmp q id)).0 e)

    by : (g : Option ℕ) → map.get adds id ≡ g → (b : Bool) → eq_by_cmp id_cmp q id ≡ b
        → map.get (cond (is_some g) adds (map.insert adds id x)) q ≡ or_else (map.get adds q) (cond b (Some x) None)
    by (Some y) is true e = rw (sym (tied e) ∙ is) refl
    by (Some y) is false e = or_none (map.get adds q)
      where
        or_none : (g : Option ℕ) → g ≡ or_else g None
        or_none (Some z) = refl
        or_none None = refl
    by None is true e = map.get-insert id_cmp_total adds id x q ∙ rw (e, sym (tied e) ∙ is) refl
    by None is false e = map.get-insert id_cmp_total adds id x q ∙ rw e (or_none (map.get adds q))
      where
        or_none : (g : Option ℕ) → g ≡ or_else g None
        or_none (Some z) = refl
        or_none None = refl

-- at one place, at most one of two different ids adds its element
swapped : (g : Option ℕ) (x y : ℕ) (b c : Bool) → (b ≡ true → c ≡ true → ⊥)
    → or_else (or_else g (cond b (Some x) None)) (cond c (Some y) None)
    ≡ or_else (or_else g (cond c (Some y) None)) (cond b (Some x) None)
unfolding or_else
swapped (Some z) x y b c ne = refl
swapped None x y true true ne = absurd (ne refl refl)
swapped None x y true false ne = refl
swapped None x y false true ne = refl
swapped None x y false false ne = refl

with_element-swap : (adds : Elements) (a b : UpdateId) (x y : Option ℕ) → a ≢ b
    → with_element (with_element adds a x) b y ≡ with_element (with_element adds b y) a x
with_element-swap adds a b None None ne = refl
with_element-swap adds a b None (Some y) ne = refl
with_element-swap adds a b (Some x) None ne = refl
with_element-swap adds a b (Some x) (Some y) ne = map.same_map id_cmp_total id_cmp-IsAntisymmetric _ _ (λ q.
    get-with_element (with_element adds a (Some x)) b y q
    ∙ ap (λ g. or_else g (cond (eq_by_cmp id_cmp q b) (Some y) None)) (get-with_element adds a x q)
    ∙ swapped (map.get adds q) x y (eq_by_cmp id_cmp q a) (eq_by_cmp id_cmp q b)
    (λ e f.
    ne
    (sym (id_cmp-IsAntisymmetric q a ((Equal-is (id_cmp q a)).0 e))
    ∙ id_cmp-IsAntisymmetric q b ((Equal-is (id_cmp q b)).0 f)))
    ∙ ap (λ g. or_else g (cond (eq_by_cmp id_cmp q a) (Some x) None)) (sym (get-with_element adds b y q))
    ∙ sym (get-with_element (with_element adds b (Some y)) a x q))

or_last_two : (a b c : Bool) → ((a || b) || c) ≡ ((a || c) || b)
or_last_two true b c = refl
or_last_two false true true = refl
or_last_two false true false = refl
or_last_two false false true = refl
or_last_two false false false = refl

with_ids-swap : (gone : IdSet) (xs ys : List UpdateId) → with_ids (with_ids gone xs) ys ≡ with_ids (with_ids gone ys) xs
with_ids-swap gone xs ys = set.same_set id_cmp_total id_cmp-IsAntisymmetric _ _ (λ q.
    set.contains-union id_cmp_total _ _ q
    ∙ ap (λ b. b || set.contains {R = id_cmp} (set.from_list {R = id_cmp} ys) q)
    (set.contains-union id_cmp_total gone (set.from_list xs) q)
    ∙ or_last_two (set.contains gone q) (set.contains {R = id_cmp} (set.from_list {R = id_cmp} xs) q)
    (set.contains {R = id_cmp} (set.from_list {R = id_cmp} ys) q)
    ∙ sym (set.contains-union id_cmp_total _ _ q
    ∙ ap (λ b. b || set.contains {R = id_cmp} (set.from_list {R = id_cmp} xs) q)
    (set.contains-union id_cmp_total gone (set.from_list ys) q)))

-- two steps with different ids commute
pub after-swap : (s : State) (u v : Update) → u.id ≢ v.id → after (after s u) v ≡ after (after s v) u
after-swap (Counter up down) u v ne i = Counter (ups i) (downs i)
  where
    ups : (up + increment u.op) + increment v.op ≡ (up + increment v.op) + increment u.op
    ups = omega arith

    downs : (down + decrement u.op) + decrement v.op ≡ (down + decrement v.op) + decrement u.op
    downs = omega arith
after-swap (Max most) u v ne i = Max (maxes i)
  where
    maxes : max (max most (raised u.op)) (raised v.op) ≡ max (max most (raised v.op)) (raised u.op)
    maxes = omega arith
after-swap (Set adds gone) u v ne i =
    Set (with_element-swap adds u.id v.id (element u.op) (element v.op) ne i)
    (with_ids-swap gone (named u.op) (named v.op) i)

-- no update in the list has this one's id
abbrev pub AllOther : Update → List Update → Type 0
AllOther u [] = Unit {0}
AllOther u (v ∷ vs) = (u.id ≢ v.id) × AllOther u vs
