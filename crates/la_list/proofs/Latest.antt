-- What is put in last stands where it is put.
use Rattle.std.proofs.Common.{◌≡◌, ℕ, suc, ◌<◌, List, [], ◌∷◌, ◌++◌, length, fold, Option, Some, None, refl, ap, sym}
use Rattle.std.proofs.Common.{◌∙◌, subst, arith}
use Rattle.std.specs.declared.cmp.Ordering.TheVariants.{Less, Equal, Greater}
use Rattle.std.specs.Ordering.{nat_cmp, ordering_then}
use Rattle.std.specs.FinMap as map
use Rattle.std.specs.FinMap.Entries.{by_order}
use Rattle.std.proofs.lemmas.Bool.{le-ltb, ne_eqb}
use Rattle.std.proofs.lemmas.List.Sums.{fold-append}
use Rattle.std.proofs.lemmas.List.Elements.{All-append}
use Rattle.la_set.specs.declared.update.UpdateId.{UpdateId}
use Rattle.la_set.specs.declared.update.Update.{Update}
use Rattle.la_list.specs.declared.inserts.Moment.{Moment}
use Rattle.la_list.specs.declared.inserts.Insertion.{Insertion}
use Rattle.la_list.specs.declared.list.Element.{Element}
use Rattle.la_list.specs.declared.op.ListOp.{ListOp}
use Rattle.la_list.specs.declared.op.ListOp.TheVariants.{Insert, Delete}
use Rattle.la_list.specs.Orders.{InsertMap, moment_order, id_order, moment_total}
use Rattle.la_list.specs.ListBytes.{edit_of}
use Rattle.la_list.specs.Lists.{with_insert, all_standing, also_put, inserts_of}
use Rattle.la_list.specs.ListLaws.{two_moments}
use Rattle.la_list.specs.LatestLaw.{IsPutBefore, ArePutBefore, LatestStandsWherePut}

abbrev puts : InsertMap → List Update → InsertMap
puts m us = fold (λ n u. also_put n u.id (edit_of u.op)) m us

-- ## What others put in comes before or behind alike

past_one : (m : InsertMap) (k : Moment) (x : Insertion) (id : UpdateId) (does : Option ListOp)
    → IsPutBefore k.stamp does → also_put (map.insert m k x) id does ≡ map.insert (also_put m id does) k x
past_one m k x id None before = refl
past_one m k x id (Some (Delete element)) before = refl
past_one m k x id (Some (Insert behind stamp value)) before =
    two_moments m k (record { stamp = stamp; id = id }) x (record { behind = behind; value = value })
    (λ e. omega (arith, ap (λ (moment : Moment). moment.stamp) e, before))

past_all : (m : InsertMap) (k : Moment) (x : Insertion) (us : List Update) → ArePutBefore k.stamp us
    → puts (map.insert m k x) us ≡ map.insert (puts m us) k x
past_all m k x [] before = refl
past_all m k x (u ∷ us) before =
    ap (λ n. puts n us) (past_one m k x u.id (edit_of u.op) (before 0 u (omega arith)))
    ∙ past_all (also_put m u.id (edit_of u.op)) k x us (λ j d lt. before (suc j) d (omega arith))

-- ## A moment above all others is the last

AreBelow : ℕ → List (Moment × Insertion) → Type 0
AreBelow s [] = Unit {0}
AreBelow s (e ∷ es) = (e.0.stamp < s) × AreBelow s es

put_below : (s : ℕ) (k : Moment) (x : Insertion) (es : List (Moment × Insertion)) → k.stamp < s → AreBelow s es
    → AreBelow s (map.put moment_order k x es)
unfolding AreBelow
put_below s k x [] lt below = (lt, tt)
put_below s k x (e ∷ es) lt below =
    elim (moment_order k e.0) as (λ o. AreBelow s (by_order o ((k, x) ∷ e ∷ es) ((e.0, x) ∷ es) (e ∷ map.put
    moment_order k x es))) [
      | Less ↦ (lt, below)
      | Equal ↦ below
      | Greater ↦ (below.0, put_below s k x es lt below.1)
    ]

also_below : (s : ℕ) (m : InsertMap) (id : UpdateId) (does : Option ListOp) → IsPutBefore s does
    → AreBelow s (map.entries m) → AreBelow s (map.entries (also_put m id does))
also_below s m id None before below = below
also_below s m id (Some (Delete element)) before below = below
also_below s m id (Some (Insert behind stamp value)) before below =
    let k : Moment = record { stamp = stamp; id = id } in
    let x : Insertion = record { behind = behind; value = value } in
    subst (AreBelow s) (sym (map.entries-insert moment_total m k x)) (put_below s k x (map.entries m) before below)

puts_below : (s : ℕ) (m : InsertMap) (us : List Update) → ArePutBefore s us → AreBelow s (map.entries m)
    → AreBelow s (map.entries (puts m us))
puts_below s m [] before below = below
puts_below s m (u ∷ us) before below =
    puts_below s (also_put m u.id (edit_of u.op)) us (λ j d lt. before (suc j) d (omega arith))
    (also_below s m u.id (edit_of u.op) (before 0 u (omega arith)) below)

none_below : (s : ℕ) (es : List (Moment × Insertion)) → length es ≡ 0 → AreBelow s es
unfolding AreBelow
none_below s [] none = tt
none_below s (e ∷ es) none = absurd (omega arith)

above : (k j : Moment) → j.stamp < k.stamp → moment_order k j ≡ Greater
above k j lt = ap (λ o. ordering_then o (id_order k.id j.id)) (greater k.stamp j.stamp lt)
  where
    greater : (a b : ℕ) → b < a → nat_cmp a b ≡ Greater
    greater a b gt = rw (le-ltb a b (omega arith), ne_eqb a b (λ e. omega arith))

put_last : (k : Moment) (x : Insertion) (es : List (Moment × Insertion)) → AreBelow k.stamp es
    → map.put moment_order k x es ≡ es ++ (k, x) ∷ []
unfolding AreBelow
put_last k x [] below = refl
put_last k x (e ∷ es) below =
    ap (λ o. by_order o ((k, x) ∷ e ∷ es) ((e.0, x) ∷ es) (e ∷ map.put moment_order k x es)) (above k e.0 below.0)
    ∙ ap (λ fs. e ∷ fs) (put_last k x es below.1)

pub latest : LatestStandsWherePut
latest us vs u behind stamp value is before after =
    let k : Moment = record { stamp = stamp; id = u.id } in
    let x : Insertion = record { behind = behind; value = value } in
    let m = inserts_of (us ++ vs) in
    let g = λ (es : List Element) (entry : Moment × Insertion). with_insert es entry.0.id entry.1 in
    let without : inserts_of (us ++ u ∷ vs) ≡ map.insert m k x =
    fold-append (λ n w. also_put n w.id (edit_of w.op)) map.empty us (u ∷ vs)
    ∙ ap (λ does. puts (also_put (inserts_of us) u.id does) vs) is
    ∙ past_all (inserts_of us) k x vs after
    ∙ ap (λ n. map.insert n k x) (sym (fold-append (λ n w. also_put n w.id (edit_of w.op)) map.empty us vs)) in
    let below : AreBelow stamp (map.entries m) = puts_below stamp map.empty (us ++ vs)
    (All-append (λ (w : Update). IsPutBefore stamp (edit_of w.op)) us vs before after)
    (none_below stamp (map.entries map.empty) (sym (map.len-entries map.empty)
    ∙ map.len-empty moment_order Insertion)) in
    ap all_standing without
    ∙ ap (fold g []) (map.entries-insert moment_total m k x ∙ put_last k x (map.entries m) below)
    ∙ fold-append g [] (map.entries m) ((k, x) ∷ [])
