-- Comparable sets, and the larger of two.
use Rattle.std.proofs.Common.{◌≡◌, Bool, true, false, not, ◌&&◌, cond, refl, ap, subst, sym, ◌∙◌, inl, inr}
use Rattle.std.specs.Bool.{Decides}
use Rattle.std.proofs.lemmas.Bool.{both_ways, and_parts, and_from, not_from_false, not-true, false_from_ne_true}
use Rattle.la_set.specs.Histories.{Histories}
use Rattle.la_set.specs.Inclusion.{IsSubset, is_subset, AreComparable, is_larger, larger_of}
use Rattle.la_set.specs.Join.{HasNoMore, IsCompatible}
use Rattle.la_set.proofs.lemmas.Inclusions.{subset-refl, subset-count, subset-counts, compatible-subset, compatible-superset}
use Rattle.la_set.proofs.lemmas.Decisions.{is_subset-Decides, is_subset-from}

module _ (a b : Histories) where
  pub comparable-compatible : AreComparable a b → IsCompatible a b
  comparable-compatible (inl sub) = compatible-subset a b sub
  comparable-compatible (inr sub) = compatible-superset a b sub

  -- where no id has two updates, an answer that compares counts is the test
  pub counts-subset : IsCompatible a b → (r : Bool) → Decides r (HasNoMore a b) → r ≡ is_subset a b
  counts-subset one r counts =
      is_subset-from r a b (λ t. subset-counts a b one (counts.0 t), λ sub. counts.1 (subset-count a b sub))

  -- ## Strict inclusion

  pub is_larger-Decides : Decides (is_larger a b) (IsSubset a b × ¬ IsSubset b a)
  is_larger-Decides = (
    λ t. let p = and_parts (is_subset a b) (not (is_subset b a)) t in
        ((is_subset-Decides a b).0 p.0, λ back. both_ways _ (not-true _ p.1) ((is_subset-Decides b a).1 back)),
    λ p.
        and_from (is_subset a b) (not (is_subset b a)) ((is_subset-Decides a b).1 p.0)
        (not_from_false _ (false_from_ne_true _ (λ t. p.1 ((is_subset-Decides b a).0 t)))),
  )

  pub larger-within : is_subset a b ≡ true → (back : Bool) → back ≡ is_subset b a → not back ≡ is_larger a b
  larger-within within back is = λ i. sym within i && not (is i)

  pub larger-without : (within : Bool) → within ≡ false → within ≡ is_subset a b → within ≡ is_larger a b
  larger-without within none is = none ∙ ap (λ t. t && not (is_subset b a)) (sym none ∙ is)

  -- ## The larger of two

  -- the first, where it contains the second
  pub larger-first : is_subset b a ≡ true → a ≡ larger_of a b
  larger-first has =
      sym
      (ap (λ t. cond t b a)
      (false_from_ne_true (is_larger a b) (λ larger. (is_larger-Decides.0 larger).1 ((is_subset-Decides b a).0 has))))

  -- and else, of comparable sets, the second
  pub second_grows : AreComparable a b → is_subset b a ≡ false → IsSubset a b
  second_grows (inl sub) less = sub
  second_grows (inr sub) less = absurd (both_ways _ less ((is_subset-Decides b a).1 sub))

  pub larger-second : AreComparable a b → is_subset b a ≡ false → b ≡ larger_of a b
  larger-second comparable less =
      sym
      (ap (λ t. cond t b a)
      (is_larger-Decides.1 (second_grows comparable less, λ back. both_ways _ less ((is_subset-Decides b a).1 back))))

  -- it contains the first, and of comparable sets both
  pub larger_grows : IsSubset a (larger_of a b)
  larger_grows = go (is_larger a b) refl
    where
      go : (t : Bool) → is_larger a b ≡ t → IsSubset a (cond t b a)
      go true e = (is_larger-Decides.0 e).0
      go false e = subset-refl a

  pub larger_has : AreComparable a b → IsSubset b (larger_of a b)
  larger_has comparable = go (is_subset b a) refl
    where
      go : (t : Bool) → is_subset b a ≡ t → IsSubset b (larger_of a b)
      go true has = subst (IsSubset b) (larger-first has) ((is_subset-Decides b a).0 has)
      go false less = subst (IsSubset b) (larger-second comparable less) (subset-refl b)
