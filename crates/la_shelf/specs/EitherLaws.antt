-- The type of an object of one of two types is lawful where both are.
use Rattle.std.proofs.Common.{◌≡◌, ◌≢◌, List, [], ◌∷◌, fold, Some, refl, ap, ◌∙◌}
use Rattle.la_set.specs.declared.update.Update.{Update}
use Rattle.la_shelf.specs.declared.either.Either.{Either}
use Rattle.la_shelf.specs.declared.either.Either.TheVariants.{First, Second}
use Rattle.la_shelf.specs.Meanings.{Meaning, IsLawful, AreAscending}
use Rattle.la_shelf.specs.Eithers.{either_start, either_kind_of, either_after, either_reply, either_value}
use Rattle.la_shelf.specs.Eithers.{either_meaning}

module _ {K S Q A L T R B : Type 0} (m : Meaning K S Q A) (n : Meaning L T R B) where
  abbrev start : Either K L → Either S T
  start k = either_start m n k

  abbrev kind_of : Either S T → Either K L
  kind_of s = either_kind_of m n s

  abbrev after : Either S T → Update → Either S T
  after s u = either_after m n s u

  steps-first : (s : S) (us : List Update) → fold after (First s) us ≡ First (fold m.after s us)
  steps-first s [] = refl
  steps-first s (u ∷ us) = steps-first (m.after s u) us

  steps-second : (t : T) (us : List Update) → fold after (Second t) us ≡ Second (fold n.after t us)
  steps-second t [] = refl
  steps-second t (u ∷ us) = steps-second (n.after t u) us

  module _ (one : IsLawful m) (two : IsLawful n) where
    commutes : (s : Either S T) (u v : Update) → u.id.replica ≢ v.id.replica → after (after s u) v ≡ after (after s v) u
    commutes (First s) u v ne = ap First (one.commutes s u v ne)
    commutes (Second t) u v ne = ap Second (two.commutes t u v ne)

    keeps : (s : Either S T) (u : Update) → kind_of (after s u) ≡ kind_of s
    keeps (First s) u = ap First (one.keeps s u)
    keeps (Second t) u = ap Second (two.keeps t u)

    starts : (k : Either K L) → kind_of (start k) ≡ k
    starts (First k) = ap First (one.starts k)
    starts (Second l) = ap Second (two.starts l)

    means : (k : Either K L) (us : List Update) (q : Either Q R) → AreAscending us
        → either_reply m n (fold after (start k) us) q ≡ either_value m n k us q
    means (First k) us (First q) order =
        ap (λ s. either_reply m n s (First q)) (steps-first (m.start k) us)
        ∙ ap (λ a. Some (First a)) (one.means k us q order)
    means (First k) us (Second r) order = ap (λ s. either_reply m n s (Second r)) (steps-first (m.start k) us)
    means (Second l) us (First q) order = ap (λ s. either_reply m n s (First q)) (steps-second (n.start l) us)
    means (Second l) us (Second r) order =
        ap (λ s. either_reply m n s (Second r)) (steps-second (n.start l) us)
        ∙ ap (λ a. Some (Second a)) (two.means l us r order)

    pub either_lawful : IsLawful (either_meaning m n)
    either_lawful = record { commutes = commutes; keeps = keeps; starts = starts; means = means }
