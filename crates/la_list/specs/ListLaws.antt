-- The list is a lawful type.
use Rattle.std.proofs.Common.{◌≡◌, ◌≢◌, Bool, true, false, not, ◌||◌, cond, List, [], ◌∷◌, fold, filter, Option, Some}
use Rattle.std.proofs.Common.{None, refl, ap, sym, ◌∙◌}
use Rattle.std.specs.Ordering.{eq_by_cmp}
use Rattle.std.specs.Cmp.{Equal-is, eq_by_cmp_equiv}
use Rattle.std.specs.FinMap as map
use Rattle.std.specs.FinSet as set
use Rattle.la_set.specs.declared.update.UpdateId.{UpdateId}
use Rattle.la_set.specs.declared.update.Update.{Update}
use Rattle.la_shelf.specs.Meanings.{IsLawful}
use Rattle.la_list.specs.declared.inserts.Moment.{Moment}
use Rattle.la_list.specs.declared.inserts.Insertion.{Insertion}
use Rattle.la_list.specs.declared.list.Element.{Element}
use Rattle.la_list.specs.declared.list.ListState.{ListState}
use Rattle.la_list.specs.declared.op.ListOp.{ListOp}
use Rattle.la_list.specs.declared.op.ListOp.TheVariants.{Insert, Delete}
use Rattle.la_list.specs.Orders.{InsertMap, SetOfIds, moment_order, id_order, moment_total, moment_tied, id_total}
use Rattle.la_list.specs.Orders.{id_tied}
use Rattle.la_list.specs.IdTests.{tied_ids}
use Rattle.la_list.specs.ListBytes.{edit_of}
use Rattle.la_list.specs.Lists.{all_standing, also_put, inserts_of, takes_out, taken_out, also_out, list_start}
use Rattle.la_list.specs.Lists.{list_step, list_meaning}

-- ## Steps of different replicas commute

swap_tests : {X : Type 0} (a b : Bool) (x y z : X) → (a ≡ true → b ≡ true → ⊥)
    → cond b y (cond a x z) ≡ cond a x (cond b y z)
swap_tests true true x y z apart = absurd (apart refl refl)
swap_tests true false x y z apart = refl
swap_tests false b x y z apart = refl

pub two_moments : (m : InsertMap) (one two : Moment) (x y : Insertion) → one ≢ two
    → map.insert (map.insert m one x) two y ≡ map.insert (map.insert m two y) one x
two_moments m one two x y ne = map.same_map moment_total moment_tied _ _ (λ q.
    let is_one = eq_by_cmp moment_order q one in
    let is_two = eq_by_cmp moment_order q two in
    map.get-insert moment_total (map.insert m one x) two y q
    ∙ ap (cond is_two (Some y)) (map.get-insert moment_total m one x q)
    ∙ swap_tests is_one is_two (Some x) (Some y) (map.get m q) (λ s t.
    ne (sym (moment_tied q one ((Equal-is (moment_order q one)).0 s))
    ∙ moment_tied q two ((Equal-is (moment_order q two)).0 t)))
    ∙ sym (map.get-insert moment_total (map.insert m two y) one x q
    ∙ ap (cond is_one (Some x)) (map.get-insert moment_total m two y q)))

puts_swap : (m : InsertMap) (a b : UpdateId) (x y : Option ListOp) → a.replica ≢ b.replica
    → also_put (also_put m a x) b y ≡ also_put (also_put m b y) a x
puts_swap m a b None y ne = refl
puts_swap m a b (Some (Delete one)) y ne = refl
puts_swap m a b (Some (Insert behind stamp value)) None ne = refl
puts_swap m a b (Some (Insert behind stamp value)) (Some (Delete other)) ne = refl
puts_swap m a b (Some (Insert behind stamp value)) (Some (Insert behind' stamp' value')) ne =
    two_moments m (record { stamp = stamp; id = a }) (record { stamp = stamp'; id = b })
    (record { behind = behind; value = value }) (record { behind = behind'; value = value' })
    (λ e. ne (ap (λ (moment : Moment). moment.id.replica) e))

or_swap : (a b c : Bool) → (a || (b || c)) ≡ (b || (a || c))
or_swap true true c = refl
or_swap true false c = refl
or_swap false b c = refl

two_out : (s : SetOfIds) (one two : UpdateId) → set.insert (set.insert s one) two ≡ set.insert (set.insert s two) one
two_out s one two = set.same_set id_total id_tied _ _ (λ q.
    set.contains-insert id_total (set.insert s one) two q
    ∙ ap (λ b. eq_by_cmp id_order q two || b) (set.contains-insert id_total s one q)
    ∙ or_swap (eq_by_cmp id_order q two) (eq_by_cmp id_order q one) (set.contains s q)
    ∙ sym (set.contains-insert id_total (set.insert s two) one q
    ∙ ap (λ b. eq_by_cmp id_order q one || b) (set.contains-insert id_total s two q)))

out_swap : (s : SetOfIds) (x y : Option ListOp) → also_out (also_out s x) y ≡ also_out (also_out s y) x
out_swap s None y = refl
out_swap s (Some (Insert behind stamp value)) y = refl
out_swap s (Some (Delete one)) None = refl
out_swap s (Some (Delete one)) (Some (Insert behind stamp value)) = refl
out_swap s (Some (Delete one)) (Some (Delete two)) = two_out s one two

swap : (s : ListState) (u v : Update) → u.id.replica ≢ v.id.replica
    → list_step (list_step s u.id (edit_of u.op)) v.id (edit_of v.op)
    ≡ list_step (list_step s v.id (edit_of v.op)) u.id (edit_of u.op)
swap s u v ne = λ i. record {
  inserts = puts_swap s.inserts u.id v.id (edit_of u.op) (edit_of v.op) ne i;
  deleted = out_swap s.deleted (edit_of u.op) (edit_of v.op) i;
}

-- ## What is answered

abbrev after : ListState → List Update → ListState
after s us = fold (λ t u. list_step t u.id (edit_of u.op)) s us

puts_after : (s : ListState) (us : List Update)
    → (after s us).inserts ≡ fold (λ m u. also_put m u.id (edit_of u.op)) s.inserts us
puts_after s [] = refl
puts_after s (u ∷ us) = puts_after (list_step s u.id (edit_of u.op)) us

out_one : (s : SetOfIds) (q : UpdateId) (x : Option ListOp)
    → set.contains (also_out s x) q ≡ (takes_out q x || set.contains s q)
out_one s q None = refl
out_one s q (Some (Insert behind stamp value)) = refl
out_one s q (Some (Delete element)) =
    set.contains-insert id_total s element q
    ∙ ap (λ b. b || set.contains s q) ((eq_by_cmp_equiv id_total).symm q element ∙ tied_ids element q)

out_after : (s : ListState) (us : List Update) (q : UpdateId)
    → set.contains (after s us).deleted q ≡ (taken_out us q || set.contains s.deleted q)
out_after s [] q = refl
out_after s (u ∷ us) q =
    out_after (list_step s u.id (edit_of u.op)) us q
    ∙ ap (λ b. taken_out us q || b) (out_one s.deleted q (edit_of u.op))
    ∙ or_turned (taken_out us q) (takes_out q (edit_of u.op)) (set.contains s.deleted q)
  where
    or_turned : (a b c : Bool) → (a || (b || c)) ≡ ((b || a) || c)
    or_turned true true c = refl
    or_turned true false c = refl
    or_turned false true c = refl
    or_turned false false c = refl

same_left : (f g : Element → Bool) (es : List Element) → ((e : Element) → f e ≡ g e)
    → filter (λ e. not (f e)) es ≡ filter (λ e. not (g e)) es
same_left f g [] same = refl
same_left f g (e ∷ es) same = λ i. cond (not (same e i)) (e ∷ same_left f g es same i) (same_left f g es same i)

or_none : (b : Bool) → (b || false) ≡ b
or_none true = refl
or_none false = refl

list_means : (us : List Update)
    → filter (λ e. not (set.contains (after list_start us).deleted e.id)) (all_standing (after list_start us).inserts)
    ≡ filter (λ e. not (taken_out us e.id)) (all_standing (inserts_of us))
list_means us =
    same_left _ _ (all_standing (after list_start us).inserts) (λ e.
    out_after list_start us e.id
    ∙ ap (λ b. taken_out us e.id || b) (set.contains-empty id_order e.id)
    ∙ or_none (taken_out us e.id))
    ∙ ap (λ m. filter (λ e. not (taken_out us e.id)) (all_standing m)) (puts_after list_start us)

pub list_lawful : IsLawful list_meaning
list_lawful = record {
  commutes = swap;
  keeps = λ s u. refl;
  starts = λ kind. refl;
  means = λ kind us question order. list_means us;
}
