-- A map from keys to objects is a lawful type where the type of the objects is one.
use Rattle.std.proofs.Common.{◌≡◌, ◌≢◌, ℕ, zero, suc, ◌<◌, Bool, true, false, cond, List, [], ◌∷◌, length, get_or, fold}
use Rattle.std.proofs.Common.{Option, Some, None, option_map, unwrap_or, refl, ap, sym, ◌∙◌, subst, arith}
use Rattle.std.specs.List.{filter_map, cons_option}
use Rattle.std.specs.Ordering.{nat_cmp}
use Rattle.std.specs.Cmp.Lexicographic.{slice_cmp}
use Rattle.std.specs.FinMap as map
use Rattle.std.proofs.lemmas.Option.{same_Some, none-some}
use Rattle.la_set.specs.declared.update.UpdateId.{UpdateId}
use Rattle.la_set.specs.declared.update.Op.{Op}
use Rattle.la_set.specs.declared.update.Update.{Update}
use Rattle.la_set.specs.Ids.{IsBelow}
use Rattle.la_shelf.specs.Meanings.{Meaning, IsLawful, AreAscending}
use Rattle.la_types.specs.KeyOrder.{key_total, key_tied}
use Rattle.la_types.specs.ByteSets.{is_this, tied_bytes}
use Rattle.la_types.specs.KeyMaps.{KeyMap}
use Rattle.la_types.specs.KeyedObjects.{Part, part_in, part_of, part_under, updates_under, state_under, with_part}
use Rattle.la_types.specs.KeyedObjects.{keyed_meaning}

-- ## What is done under a key has the id of its update

part_id : (u : Update) (o : Option (List ℕ × Op)) (p : Part)
    → option_map (λ q. (q.0, record u { op = q.1 })) o ≡ Some p → p.1.id ≡ u.id
part_id u None p e = absurd (none-some p e)
part_id u (Some q) p e = ap (λ (r : Part). r.1.id) (sym (same_Some _ _ e))

chosen_id : (key : List ℕ) (o : Option Part) (id : UpdateId) (w : Update)
    → ((p : Part) → o ≡ Some p → p.1.id ≡ id) → part_under key o ≡ Some w → w.id ≡ id
chosen_id key None id w all e = absurd (none-some w e)
chosen_id key (Some p) id w all e = by (is_this key p.0) e
  where
    by : (b : Bool) → cond b (Some p.1) None ≡ Some w → w.id ≡ id
    by true is = ap (λ (v : Update). v.id) (sym (same_Some _ _ is)) ∙ all p refl
    by false is = absurd (none-some w is)

under_id : (key : List ℕ) (u w : Update) → part_under key (part_of u) ≡ Some w → w.id ≡ u.id
under_id key u w e = chosen_id key (part_of u) u.id w (part_id u (part_in u.op)) e

-- ## In order, where all are

module _ (h : Update → Option Update) (keeps : (u w : Update) → h u ≡ Some w → w.id ≡ u.id) where
  abbrev IsAbove : UpdateId → List Update → Type 0
  IsAbove id us = (j : ℕ) (d : Update) → j < length us → IsBelow id (get_or us j d).id

  above_cons : (id : UpdateId) (w : Update) (us : List Update) → IsBelow id w.id → IsAbove id us → IsAbove id (w ∷ us)
  above_cons id w us first rest zero d lt = first
  above_cons id w us first rest (suc j) d lt = rest j d (omega arith)

  above_chosen : (id : UpdateId) (u : Update) (us : List Update) (o : Option Update) → h u ≡ o
      → IsBelow id u.id → IsAbove id (filter_map h us) → IsAbove id (cons_option o (filter_map h us))
  above_chosen id u us None is first rest = rest
  above_chosen id u us (Some w) is first rest =
      above_cons id w (filter_map h us) (subst (IsBelow id) (sym (keeps u w is)) first) rest

  chosen_above : (id : UpdateId) (us : List Update) → IsAbove id us → IsAbove id (filter_map h us)
  chosen_above id [] above = λ j d lt. absurd (omega arith)
  chosen_above id (u ∷ us) above =
      above_chosen id u us (h u) refl (above 0 u (omega arith))
      (chosen_above id us (λ j d lt. above (suc j) d (omega arith)))

  ascending_cons : (w : Update) (us : List Update) → IsAbove w.id us → AreAscending us → AreAscending (w ∷ us)
  ascending_cons w us above order i zero d less lt = absurd (omega arith)
  ascending_cons w us above order zero (suc j) d less lt = above j d (omega arith)
  ascending_cons w us above order (suc i) (suc j) d less lt = order i j d (omega arith) (omega arith)

  ascending_chosen : (u : Update) (us : List Update) (o : Option Update) → h u ≡ o
      → IsAbove u.id (filter_map h us) → AreAscending (filter_map h us)
      → AreAscending (cons_option o (filter_map h us))
  ascending_chosen u us None is above rest = rest
  ascending_chosen u us (Some w) is above rest =
      ascending_cons w (filter_map h us)
      (λ j d lt. subst (λ id. IsBelow id (get_or (filter_map h us) j d).id) (sym (keeps u w is)) (above j d lt)) rest

  chosen_ascending : (us : List Update) → AreAscending us → AreAscending (filter_map h us)
  chosen_ascending [] order = λ i j d less lt. absurd (omega arith)
  chosen_ascending (u ∷ us) order =
      ascending_chosen u us (h u) refl
      (chosen_above u.id us (λ j d lt. order 0 (suc j) d (omega arith) (omega arith)))
      (chosen_ascending us (λ i j d less lt. order (suc i) (suc j) d (omega arith) (omega arith)))

-- ## By the type of the objects

module _ {S Q A : Type 0} (m : Meaning (Unit {0}) S Q A) where
  -- the state under a key, if there is one, after one more update there
  abbrev one_step : Option S → Option Update → Option S
  one_step x None = x
  one_step x (Some u) = Some (m.after (unwrap_or x (m.start tt)) u)

  get_after : (s : KeyMap S) (o : Option Part) (q : List ℕ)
      → map.get (with_part m s o) q ≡ one_step (map.get s q) (part_under q o)
  get_after s None q = refl
  get_after s (Some p) q =
      map.get-insert key_total s p.0 (m.after (state_under m s p.0) p.1) q ∙ by (is_this q p.0) refl
    where
      by : (b : Bool) → is_this q p.0 ≡ b
          → cond b (Some (m.after (state_under m s p.0) p.1)) (map.get s q)
          ≡ one_step (map.get s q) (cond b (Some p.1) None)
      by true is = ap (λ k. Some (m.after (state_under m s k) p.1)) (sym (tied_bytes q p.0 is))
      by false is = refl

  get_end : (s : KeyMap S) (us : List Update) (q : List ℕ)
      → map.get (fold (λ t u. with_part m t (part_of u)) s us) q
      ≡ fold (λ x u. one_step x (part_under q (part_of u))) (map.get s q) us
  get_end s [] q = refl
  get_end s (u ∷ us) q =
      get_end (with_part m s (part_of u)) us q
      ∙ ap (λ x. fold (λ y v. one_step y (part_under q (part_of v))) x us) (get_after s (part_of u) q)

  steps_end : (h : Update → Option Update) (x : Option S) (us : List Update)
      → unwrap_or (fold (λ y u. one_step y (h u)) x us) (m.start tt)
      ≡ fold m.after (unwrap_or x (m.start tt)) (filter_map h us)
  steps_end h x [] = refl
  steps_end h x (u ∷ us) = steps_end h (one_step x (h u)) us ∙ by (h u)
    where
      by : (o : Option Update)
          → fold m.after (unwrap_or (one_step x o) (m.start tt)) (filter_map h us)
          ≡ fold m.after (unwrap_or x (m.start tt)) (cons_option o (filter_map h us))
      by None = refl
      by (Some w) = refl

  module _ (lawful : IsLawful m) where
    either_first : (x : Option S) (o p : Option Update)
        → ((v w : Update) → o ≡ Some v → p ≡ Some w → v.id.replica ≢ w.id.replica)
        → one_step (one_step x o) p ≡ one_step (one_step x p) o
    either_first x None None differ = refl
    either_first x None (Some w) differ = refl
    either_first x (Some v) None differ = refl
    either_first x (Some v) (Some w) differ =
        ap Some (lawful.commutes (unwrap_or x (m.start tt)) v w (differ v w refl refl))

    swap : (s : KeyMap S) (u v : Update) → u.id.replica ≢ v.id.replica
        → with_part m (with_part m s (part_of u)) (part_of v) ≡ with_part m (with_part m s (part_of v)) (part_of u)
    swap s u v ne = map.same_map key_total key_tied _ _ (λ q.
        twice u v q
        ∙ either_first (map.get s q) (part_under q (part_of u)) (part_under q (part_of v))
        (λ x y one other same. ne (ap (λ id. id.replica) (sym (under_id q u x one)) ∙ same
        ∙ ap (λ id. id.replica) (under_id q v y other)))
        ∙ sym (twice v u q))
      where
        twice : (a b : Update) (q : List ℕ)
            → map.get (with_part m (with_part m s (part_of a)) (part_of b)) q
            ≡ one_step (one_step (map.get s q) (part_under q (part_of a))) (part_under q (part_of b))
        twice a b q =
            get_after (with_part m s (part_of a)) (part_of b) q
            ∙ ap (λ x. one_step x (part_under q (part_of b))) (get_after s (part_of a) q)

    state_end : (us : List Update) (q : List ℕ)
        → state_under m (fold (λ t u. with_part m t (part_of u)) map.empty us) q
        ≡ fold m.after (m.start tt) (updates_under q us)
    state_end us q =
        ap (λ x. unwrap_or x (m.start tt)) (get_end map.empty us q)
        ∙ steps_end (λ u. part_under q (part_of u)) (map.get map.empty q) us
        ∙ ap (λ x. fold m.after (unwrap_or x (m.start tt)) (updates_under q us)) (map.get-empty (slice_cmp nat_cmp) q)

    pub keyed_lawful : IsLawful (keyed_meaning m)
    keyed_lawful = record {
      commutes = swap;
      keeps = λ s u. refl;
      starts = λ kind. refl;
      means = λ kind us query order.
          ap (λ s. m.reply s query.1) (state_end us query.0)
          ∙ lawful.means tt (updates_under query.0 us) query.1 (chosen_ascending (λ u. part_under query.0 (part_of u))
          (under_id query.0) us order);
    }
