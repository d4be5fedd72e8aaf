-- The set whose removals stand for good is a lawful type.
use Rattle.std.proofs.Common.{◌≡◌, ℕ, Bool, true, false, not, ◌&&◌, ◌||◌, cond, List, [], ◌∷◌, fold, Option, Some, None}
use Rattle.std.proofs.Common.{refl, ap, sym, ◌∙◌}
use Rattle.std.specs.List.{list_any}
use Rattle.la_set.specs.declared.update.Update.{Update}
use Rattle.la_shelf.specs.Meanings.{IsLawful}
use Rattle.la_types.specs.declared.two_phase_set.TwoPhaseState.{TwoPhaseState}
use Rattle.la_types.specs.ByteSets.{has_bytes, with_bytes, set_of_bytes, is_this, tied_bytes, has-empty, has-with}
use Rattle.la_types.specs.ByteSets.{has-without, has-set_of, has-without_all, same_set}
use Rattle.la_types.specs.Elements.{element_inserted, element_removed, inserted_elements, removed_elements}
use Rattle.la_types.specs.Elements.{answer_by_set}
use Rattle.la_types.specs.GrowSetLaws.{is_inside, any_one}
use Rattle.la_types.specs.TwoPhaseSets.{two_phase_start, two_phase_set, with_insertion, with_removal}
use Rattle.la_types.specs.TwoPhaseSets.{two_phase_meaning}

-- one step, of what it inserts and what it removes
abbrev step : TwoPhaseState → Option (List ℕ) → Option (List ℕ) → TwoPhaseState
step s o p = with_removal (with_insertion s o) p

-- ## At one element

-- whether it is present after a step, by whether it was present and removed, is inserted and is removed
abbrev stays : Bool → Bool → Bool → Bool → Bool
stays present removed inserts removes = not removes && (present || (inserts && not removed))

let_in : (s : TwoPhaseState) (o : Option (List ℕ)) (q : List ℕ)
    → has_bytes (with_insertion s o).present q
    ≡ (has_bytes s.present q || (is_inside q o && not (has_bytes s.removed q)))
let_in s None q = or_false (has_bytes s.present q)
  where
    or_false : (a : Bool) → a ≡ (a || false)
    or_false true = refl
    or_false false = refl
let_in s (Some e) q =
    by_removed (has_bytes s.removed e)
    ∙ by_this (is_this q e) refl
  where
    by_removed : (b : Bool)
        → has_bytes (cond b s (record s { present = with_bytes s.present e })).present q
        ≡ cond b (has_bytes s.present q) (is_this q e || has_bytes s.present q)
    by_removed true = refl
    by_removed false = has-with s.present e q

    here : (b p : Bool) → cond b p true ≡ (p || not b)
    here true true = refl
    here true false = refl
    here false true = refl
    here false false = refl

    elsewhere : (b p : Bool) → cond b p p ≡ (p || false)
    elsewhere true true = refl
    elsewhere true false = refl
    elsewhere false true = refl
    elsewhere false false = refl

    by_this : (this : Bool) → is_this q e ≡ this
        → cond (has_bytes s.removed e) (has_bytes s.present q) (this || has_bytes s.present q)
        ≡ (has_bytes s.present q || (this && not (has_bytes s.removed q)))
    by_this true is =
        ap (λ b. cond b (has_bytes s.present q) true)
        (ap (has_bytes s.removed) (sym (tied_bytes q e is)))
        ∙ here (has_bytes s.removed q) (has_bytes s.present q)
    by_this false is = elsewhere (has_bytes s.removed e) (has_bytes s.present q)

removed_before : (s : TwoPhaseState) (o : Option (List ℕ)) → (with_insertion s o).removed ≡ s.removed
removed_before s None = refl
removed_before s (Some e) = by_removed (has_bytes s.removed e)
  where
    by_removed : (b : Bool) → (cond b s (record s { present = with_bytes s.present e })).removed ≡ s.removed
    by_removed true = refl
    by_removed false = refl

taken_out : (s : TwoPhaseState) (p : Option (List ℕ)) (q : List ℕ)
    → has_bytes (with_removal s p).present q ≡ (not (is_inside q p) && has_bytes s.present q)
taken_out s None q = refl
taken_out s (Some e) q = has-without s.present e q

removed_after : (s : TwoPhaseState) (p : Option (List ℕ)) (q : List ℕ)
    → has_bytes (with_removal s p).removed q ≡ (is_inside q p || has_bytes s.removed q)
removed_after s None q = refl
removed_after s (Some e) q = has-with s.removed e q

present_step : (s : TwoPhaseState) (o p : Option (List ℕ)) (q : List ℕ)
    → has_bytes (step s o p).present q
    ≡ stays (has_bytes s.present q) (has_bytes s.removed q) (is_inside q o) (is_inside q p)
present_step s o p q =
    taken_out (with_insertion s o) p q ∙ ap (λ b. not (is_inside q p) && b) (let_in s o q)

removed_step : (s : TwoPhaseState) (o p : Option (List ℕ)) (q : List ℕ)
    → has_bytes (step s o p).removed q ≡ (is_inside q p || has_bytes s.removed q)
removed_step s o p q =
    removed_after (with_insertion s o) p q
    ∙ ap (λ t. is_inside q p || has_bytes t q) (removed_before s o)

-- ## Two steps

same_state : (s t : TwoPhaseState) → ((q : List ℕ) → has_bytes s.present q ≡ has_bytes t.present q)
    → ((q : List ℕ) → has_bytes s.removed q ≡ has_bytes t.removed q) → s ≡ t
same_state s t present removed =
    let one = same_set s.present t.present present in
    let other = same_set s.removed t.removed removed in
    λ i. record { present = one i; removed = other i }

or_swap : (a b c : Bool) → (a || (b || c)) ≡ (b || (a || c))
or_swap true true c = refl
or_swap true false c = refl
or_swap false b c = refl

either_first : (present removed i j r s : Bool)
    → stays (stays present removed i r) (r || removed) j s ≡ stays (stays present removed j s) (s || removed) i r
either_first present removed i j true true = refl
either_first present removed i true true false = refl
either_first present removed i false true false = refl
either_first present removed true j false true = refl
either_first present removed false j false true = refl
either_first true removed i j false false = refl
either_first false true true true false false = refl
either_first false true true false false false = refl
either_first false true false true false false = refl
either_first false true false false false false = refl
either_first false false true true false false = refl
either_first false false true false false false = refl
either_first false false false true false false = refl
either_first false false false false false false = refl

swap : (s : TwoPhaseState) (o p i r : Option (List ℕ)) → step (step s o p) i r ≡ step (step s i r) o p
swap s o p i r = same_state _ _
    (λ q. twice s o p i r q
    ∙ either_first (has_bytes s.present q) (has_bytes s.removed q) (is_inside q o) (is_inside q i)
    (is_inside q p) (is_inside q r)
    ∙ sym (twice s i r o p q))
    (λ q. removed_twice s o p i r q
    ∙ or_swap (is_inside q r) (is_inside q p) (has_bytes s.removed q)
    ∙ sym (removed_twice s i r o p q))
  where
    twice : (t : TwoPhaseState) (a b c d : Option (List ℕ)) (q : List ℕ)
        → has_bytes (step (step t a b) c d).present q
        ≡ stays (stays (has_bytes t.present q) (has_bytes t.removed q) (is_inside q a) (is_inside q b))
        (is_inside q b || has_bytes t.removed q) (is_inside q c) (is_inside q d)
    twice t a b c d q =
        present_step (step t a b) c d q
        ∙ (λ k. stays (present_step t a b q k) (removed_step t a b q k) (is_inside q c) (is_inside q d))

    removed_twice : (t : TwoPhaseState) (a b c d : Option (List ℕ)) (q : List ℕ)
        → has_bytes (step (step t a b) c d).removed q
        ≡ (is_inside q d || (is_inside q b || has_bytes t.removed q))
    removed_twice t a b c d q =
        removed_step (step t a b) c d q ∙ ap (λ b. is_inside q d || b) (removed_step t a b q)

-- ## All of them

abbrev after_all : TwoPhaseState → List Update → TwoPhaseState
after_all s us = fold (λ t u. step t (element_inserted u.op) (element_removed u.op)) s us

-- in a step, what was inserted so far and what was removed so far
one_more : (a b i r : Bool) → stays (a && not b) b i r ≡ ((a || i) && not (b || r))
one_more true true true true = refl
one_more true true true false = refl
one_more true true false true = refl
one_more true true false false = refl
one_more true false true true = refl
one_more true false true false = refl
one_more true false false true = refl
one_more true false false false = refl
one_more false true true true = refl
one_more false true true false = refl
one_more false true false true = refl
one_more false true false false = refl
one_more false false true true = refl
one_more false false true false = refl
one_more false false false true = refl
one_more false false false false = refl

or_turn : (a b : Bool) → (a || b) ≡ (b || a)
or_turn true true = refl
or_turn true false = refl
or_turn false true = refl
or_turn false false = refl

or_assoc : (a b c : Bool) → ((a || b) || c) ≡ (a || (b || c))
or_assoc true b c = refl
or_assoc false b c = refl

module _ (q : List ℕ) where
  abbrev inserts : List Update → Bool
  inserts us = list_any (is_this q) (inserted_elements us)

  abbrev removes : List Update → Bool
  removes us = list_any (is_this q) (removed_elements us)

  present_end : (a b : Bool) (s : TwoPhaseState) (us : List Update) → has_bytes s.present q ≡ (a && not b)
      → has_bytes s.removed q ≡ b
      → has_bytes (after_all s us).present q ≡ ((a || inserts us) && not (b || removes us))
  present_end a b s [] is gone = is ∙ (λ i. or_turn false a i && not (or_turn false b i))
  present_end a b s (u ∷ us) is gone =
      let o = element_inserted u.op in let p = element_removed u.op in
      present_end (a || is_inside q o) (b || is_inside q p) (step s o p) us
      (present_step s o p q ∙ (λ i. stays (is i) (gone i) (is_inside q o) (is_inside q p))
      ∙ one_more a b (is_inside q o) (is_inside q p))
      (removed_step s o p q ∙ ap (λ c. is_inside q p || c) gone ∙ or_turn (is_inside q p) b)
      ∙ (λ i. (or_assoc a (is_inside q o) (inserts us) ∙ ap (λ c. a || c) (sym (any_one q o (inserted_elements us)))) i
      && not ((or_assoc b (is_inside q p) (removes us)
      ∙ ap (λ c. b || c) (sym (any_one q p (removed_elements us)))) i))

present_after : (us : List Update) → (after_all two_phase_start us).present ≡ two_phase_set us
present_after us = same_set _ _ (λ q.
    present_end q false false two_phase_start us
    (has-empty q) (has-empty q)
    ∙ sym (has-without_all (set_of_bytes (inserted_elements us)) (set_of_bytes (removed_elements us)) q
    ∙ (λ i. has-set_of (inserted_elements us) q i
    && not (has-set_of (removed_elements us) q i))))

either_order : (s : TwoPhaseState) (u v : Update)
    → two_phase_meaning.after (two_phase_meaning.after s u) v ≡ two_phase_meaning.after (two_phase_meaning.after s v) u
either_order s u v =
    swap s (element_inserted u.op) (element_removed u.op) (element_inserted v.op) (element_removed v.op)

pub two_phase_lawful : IsLawful two_phase_meaning
two_phase_lawful = record {
  commutes = λ s u v ne. either_order s u v;
  keeps = λ s u. refl;
  starts = λ kind. refl;
  means = λ kind us query order. ap (λ s. answer_by_set s query) (present_after us);
}
