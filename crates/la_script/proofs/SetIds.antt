-- The ids of a set, replica by replica.
use Rattle.std.proofs.Common.{◌≡◌, Bool, ltb, ◌||◌, ℕ, zero, suc, ◌+◌, List, [], ◌∷◌, ◌++◌, length, map, refl, ap, sym, ◌∙◌, arith, append-nil, append_assoc}
use Rattle.std.proofs.lemmas.Bool.{lt-ltb}
use Rattle.std.proofs.lemmas.List.{map-append}
use Rattle.la_set.specs.declared.update.UpdateId.{UpdateId}
use Rattle.la_set.specs.declared.update.Update.{Update}
use Rattle.la_set.specs.ObjectOps.{ObjectOp}
use Rattle.la_set.specs.Histories.{Histories, history, count, numbered, updates_from, updates}
use Rattle.la_script.specs.Text.{ids_of, ids_text}
use Rattle.la_script.specs.Pieces.{ids_from, has_ids, next_ids, front, ids_before}
use Rattle.la_script.proofs.IdFronts.{ids_text-append}

abbrev the_ids : List Update → List UpdateId
the_ids us = map (λ u. u.id) us

ids-numbered : (r n : ℕ) (ds : List ObjectOp) → the_ids (numbered r n ds) ≡ ids_from r n (length ds)
ids-numbered r n [] = refl
ids-numbered r n (d ∷ ds) = ap (λ ids. record { replica = r; number = n } ∷ ids) (ids-numbered r (suc n) ds)

module _ (h : ℕ → List ObjectOp) where
  abbrev counts : ℕ → ℕ
  counts r = length (h r)

  ids-on : (k r : ℕ) → ids_before counts (r + k) ≡ ids_before counts r ++ the_ids (updates_from h r k)
  ids-on zero r =
      let none : r + zero ≡ r = omega arith in
      rw none (sym (append-nil (ids_before counts r)))
  ids-on (suc k) r =
      let next : r + suc k ≡ suc r + k = omega arith in
      rw next
      (ids-on k (suc r) ∙ append_assoc (ids_before counts r) (ids_from r 1 (counts r)) (the_ids (updates_from h (suc r) k))
      ∙ ap (λ ids. ids_before counts r ++ (ids ++ the_ids (updates_from h (suc r) k))) (sym (ids-numbered r 1 (h r)))
      ∙ ap (λ ids. ids_before counts r ++ ids) (sym (map-append (λ u. u.id) (numbered r 1 (h r)) (updates_from h (suc r) k))))

-- the ids before replica 8 are all
pub ids-all : (s : Histories) → ids_before (count s) 8 ≡ ids_of s
unfolding updates
ids-all s = ids-on (history s) 8 0

-- ## One replica more

some-append : (xs ys : List UpdateId) → has_ids (xs ++ ys) ≡ has_ids xs || has_ids ys
some-append [] ys = refl
some-append (x ∷ xs) ys = refl

some-from : (r n : ℕ) → has_ids (ids_from r 1 n) ≡ ltb 0 n
some-from r zero = refl
some-from r (suc n) = sym (lt-ltb 0 (suc n) (omega arith))

module _ (counts : ℕ → ℕ) (r n : ℕ) (b : Bool) (is : n ≡ counts r) (behind : b ≡ has_ids (ids_before counts r)) where
  pub text_more : ids_text (ids_before counts r) ++ front b r n ≡ ids_text (ids_before counts (r + 1))
  unfolding front
  text_more =
      let next : r + 1 ≡ suc r = omega arith in
      ap (λ t. ids_text (ids_before counts r) ++ next_ids t (ids_from r 1 n)) behind
      ∙ ap (λ k. ids_text (ids_before counts r) ++ next_ids (has_ids (ids_before counts r)) (ids_from r 1 k)) is
      ∙ sym (ids_text-append (ids_before counts r) (ids_from r 1 (counts r)))
      ∙ ap (λ k. ids_text (ids_before counts k)) (sym next)

  pub behind_more : b || ltb 0 n ≡ has_ids (ids_before counts (r + 1))
  behind_more =
      let next : r + 1 ≡ suc r = omega arith in
      ap (λ t. t || ltb 0 n) behind ∙ ap (λ k. has_ids (ids_before counts r) || ltb 0 k) is
      ∙ ap (λ t. has_ids (ids_before counts r) || t) (sym (some-from r (counts r)))
      ∙ sym (some-append (ids_before counts r) (ids_from r 1 (counts r)))
      ∙ ap (λ k. has_ids (ids_before counts k)) (sym next)
