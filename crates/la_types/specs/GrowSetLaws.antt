-- The set that grows alone is a lawful type.
use Rattle.std.proofs.Common.{◌≡◌, ℕ, Bool, true, false, ◌||◌, List, [], ◌∷◌, fold, Option, Some, None, refl, ap, sym}
use Rattle.std.proofs.Common.{◌∙◌}
use Rattle.std.specs.List.{list_any, cons_option}
use Rattle.std.specs.FinMap as map
use Rattle.la_set.specs.declared.update.Update.{Update}
use Rattle.la_shelf.specs.Meanings.{IsLawful}
use Rattle.la_types.specs.ByteSets.{ByteSet, has_bytes, is_this, has-empty, has-with, has-set_of, same_set}
use Rattle.la_types.specs.Elements.{element_inserted, inserted_elements, answer_by_set}
use Rattle.la_types.specs.GrowSets.{grown_by, grown_set, grow_set_meaning}

-- the element is the one that is there
abbrev pub is_inside : List ℕ → Option (List ℕ) → Bool
is_inside q None = false
is_inside q (Some element) = is_this q element

pub any_one : (q : List ℕ) (o : Option (List ℕ)) (es : List (List ℕ))
    → list_any (is_this q) (cons_option o es) ≡ (is_inside q o || list_any (is_this q) es)
any_one q None es = refl
any_one q (Some element) es = refl

or_swap : (a b c : Bool) → (a || (b || c)) ≡ (b || (a || c))
or_swap true true c = refl
or_swap true false c = refl
or_swap false b c = refl

has_after : (s : ByteSet) (o : Option (List ℕ)) (q : List ℕ)
    → has_bytes (grown_by s o) q ≡ (is_inside q o || has_bytes s q)
has_after s None q = refl
has_after s (Some element) q = has-with s element q

swap : (s : ByteSet) (o p : Option (List ℕ)) → grown_by (grown_by s o) p ≡ grown_by (grown_by s p) o
swap s o p = same_set _ _ (λ q.
    has_after (grown_by s o) p q
    ∙ ap (λ b. is_inside q p || b) (has_after s o q)
    ∙ or_swap (is_inside q p) (is_inside q o) (has_bytes s q)
    ∙ sym (has_after (grown_by s p) o q ∙ ap (λ b. is_inside q o || b) (has_after s p q)))

has_end : (s : ByteSet) (us : List Update) (q : List ℕ)
    → has_bytes (fold (λ t u. grown_by t (element_inserted u.op)) s us) q
    ≡ (list_any (is_this q) (inserted_elements us) || has_bytes s q)
has_end s [] q = refl
has_end s (u ∷ us) q =
    let o = element_inserted u.op in let rest = list_any (is_this q) (inserted_elements us) in
    has_end (grown_by s o) us q
    ∙ ap (λ b. rest || b) (has_after s o q)
    ∙ or_assoc rest (is_inside q o) (has_bytes s q)
    ∙ ap (λ b. b || has_bytes s q) (sym (any_one q o (inserted_elements us)))
  where
    or_assoc : (a b c : Bool) → (a || (b || c)) ≡ ((b || a) || c)
    or_assoc true true c = refl
    or_assoc true false c = refl
    or_assoc false true c = refl
    or_assoc false false c = refl

or_false : (a : Bool) → (a || false) ≡ a
or_false true = refl
or_false false = refl

grown : (us : List Update) → fold grow_set_meaning.after map.empty us ≡ grown_set us
grown us = same_set _ _ (λ q.
    has_end map.empty us q
    ∙ ap (λ b. list_any (is_this q) (inserted_elements us) || b) (has-empty q)
    ∙ or_false _
    ∙ sym (has-set_of (inserted_elements us) q))

pub grow_set_lawful : IsLawful grow_set_meaning
grow_set_lawful = record {
  commutes = λ s u v ne. swap s (element_inserted u.op) (element_inserted v.op);
  keeps = λ s u. refl;
  starts = λ kind. refl;
  means = λ kind us query order. ap (λ s. answer_by_set s query) (grown us);
}
