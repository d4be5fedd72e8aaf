use Rattle.std.proofs.Common.{◌≡◌, ◌↔◌, Bool, true, false, IsTrue, not, refl, sym, ap, ◌∙◌, rules}
use Rattle.la_set.specs.Histories.{Histories}
use Rattle.la_set.specs.Inclusion.{is_subset, is_larger}
use Rattle.la_set.specs.Join.{HasNoMore}
use Rattle.la_set.proofs.lemmas.Inclusions.{compatible-superset}
use Rattle.la_set.proofs.lemmas.Decisions.{is_subset-Decides}
use Rattle.la_set.proofs.lemmas.Comparable.{counts-subset, larger-within, larger-without}
use Rattle.la_set.proofs.set.UpdateSet.is_larger_beyond.Goals as goal

-- by the counts first
module _ (a b : Histories) (few : Bool) (counts : IsTrue few ↔ HasNoMore a b) where
  by_counts : is_subset b a ≡ true → not few ≡ is_larger b a
  by_counts e =
      larger-within b a e few (counts-subset a b (compatible-superset a b ((is_subset-Decides b a).0 e)) few counts)

  has_more : few ≡ false → (v : Bool) → v ≡ is_subset b a → v ≡ is_larger b a
  has_more none true is = ap not (sym none) ∙ by_counts (sym is)
  has_more none false is = larger-without b a false refl is

  has_none : few ≡ true → not few ≡ is_larger b a
  has_none all = ap not all ∙ go (is_subset b a) refl
    where
      go : (v : Bool) → is_subset b a ≡ v → false ≡ is_larger b a
      go true e = ap not (sym all) ∙ by_counts e
      go false e = larger-without b a false refl (sym e)

pub returns-then-not-has_no_more : goal.returns-then-not-has_no_more
returns-then-not-has_no_more c =
    has_more c.args.self.now c.args.other.now c.has_no_more.result c.has_no_more.ensures (search rules)
    c.contains_beyond.result c.contains_beyond.ensures.value

pub returns-else-not-has_no_more : goal.returns-else-not-has_no_more
returns-else-not-has_no_more c =
    has_none c.args.self.now c.args.other.now c.has_no_more.result c.has_no_more.ensures (search rules)
