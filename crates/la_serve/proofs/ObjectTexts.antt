-- The objects that a text says, part by part.
use Rattle.std.proofs.Common.{◌≡◌, ◌∙◌, ℕ, Bool, true, false, cond, List, [], ◌∷◌, ◌++◌, Option, Some, None, refl}
use Rattle.std.proofs.Common.{sym, ap, inl, inr}
use Rattle.std.specs.Prelude.{◌==◌}
use Rattle.std.specs.List.{slice_split}
use Rattle.std.proofs.Common.{true≢false, option_map}
use Rattle.std.specs.Borrow.{Bor}
use Rattle.std.specs.Iterator.{AlwaysYields}
use Rattle.std.specs.Option.{option_and_then}
use Rattle.la_object.specs.declared.kind.Kind.{Kind}
use Rattle.la_serve.specs.declared.unfit.UnfitObjects.{UnfitObjects}
use Rattle.la_serve.specs.Objects.{are_for_a_shelf, object_in, objects_in}
use Rattle.la_serve.specs.Objects.{IsFirstUnfit, IsNoObject, IsUnfitObject, IsUnfitPart}
use Rattle.la_cli.proofs.lemmas.GivenNumbers.{some_is, some≢none}
use Rattle.la_script.specs.Words.{each_word}
use Rattle.la_serve.proofs.OwnNumbers.{front_for_a_shelf}

-- one more part, of which one is read
each_more : (before : List (List ℕ)) (part : List ℕ) (os : List (ℕ × Kind)) (o : ℕ × Kind)
    → each_word object_in before ≡ Some os → object_in part ≡ Some o
    → each_word object_in (before ++ part ∷ []) ≡ Some (os ++ o ∷ [])
each_more [] part os o said is = rw is (ap (λ (xs : List (ℕ × Kind)). Some (xs ++ o ∷ [])) (some_is _ _ said))
each_more (first ∷ before) part os o said is =
    by_first (λ xs e. each_more before part xs o e is) (object_in first) said
  where
    by_rest : ((xs : List (ℕ × Kind)) → each_word object_in before ≡ Some xs
        → each_word object_in (before ++ part ∷ []) ≡ Some (xs ++ o ∷ []))
        → (x : ℕ × Kind) (rest : Option (List (ℕ × Kind))) → each_word object_in before ≡ rest
        → option_map (λ xs. x ∷ xs) rest ≡ Some os
        → option_map (λ xs. x ∷ xs) (each_word object_in (before ++ part ∷ [])) ≡ Some (os ++ o ∷ [])
    by_rest more x None rest e = absurd (some≢none _ (sym e))
    by_rest more x (Some xs) rest e =
        ap (option_map (λ ys. x ∷ ys)) (more xs rest)
        ∙ ap (λ (ys : List (ℕ × Kind)). Some (ys ++ o ∷ [])) (some_is _ _ e)

    by_first : ((xs : List (ℕ × Kind)) → each_word object_in before ≡ Some xs
        → each_word object_in (before ++ part ∷ []) ≡ Some (xs ++ o ∷ []))
        → (x : Option (ℕ × Kind))
        → option_and_then (λ x. option_map (λ xs. x ∷ xs) (each_word object_in before)) x ≡ Some os
        → option_and_then (λ x. option_map (λ xs. x ∷ xs) (each_word object_in (before ++ part ∷ []))) x
        ≡ Some (os ++ o ∷ [])
    by_first more None e = absurd (some≢none _ (sym e))
    by_first more (Some x) e = by_rest more x (each_word object_in before) refl e

-- parts with one more behind them
moved : (before : List (List ℕ)) (part : List ℕ) (left : List (List ℕ))
    → before ++ part ∷ left ≡ (before ++ part ∷ []) ++ left
moved [] part left = refl
moved (first ∷ before) part left = ap (λ xs. first ∷ xs) (moved before part left)

-- objects of which some were read, where the rest is said by these parts
abbrev pub behind : List (ℕ × Kind) → (left : List (List ℕ)) → Option (List (ℕ × Kind))
behind os left =
    option_and_then
    (λ more. cond (are_for_a_shelf (os ++ more)) (Some (os ++ more)) None)
    (each_word object_in left)

-- a part of which no object is read
behind_none : (os : List (ℕ × Kind)) (part : List ℕ) (left : List (List ℕ)) → object_in part ≡ None
    → behind os (part ∷ left) ≡ None
behind_none os part left none = rw none refl

joined : (os : List (ℕ × Kind)) (o : ℕ × Kind) (more : List (ℕ × Kind)) → (os ++ o ∷ []) ++ more ≡ os ++ o ∷ more
joined [] o more = refl
joined (x ∷ os) o more = ap (λ xs. x ∷ xs) (joined os o more)

-- a part of which one is read
behind_one : (os : List (ℕ × Kind)) (o : ℕ × Kind) (part : List ℕ) (left : List (List ℕ)) → object_in part ≡ Some o
    → behind os (part ∷ left) ≡ behind (os ++ o ∷ []) left
behind_one os o part left is = rw is (by_rest (each_word object_in left))
  where
    by_rest : (rest : Option (List (ℕ × Kind)))
        → option_and_then (λ more. cond (are_for_a_shelf (os ++ more)) (Some (os ++ more)) None)
        (option_map (λ xs. o ∷ xs) rest)
        ≡ option_and_then (λ more. cond (are_for_a_shelf ((os ++ o ∷ []) ++ more)) (Some ((os ++ o ∷ []) ++ more)) None)
        rest
    by_rest None = refl
    by_rest (Some more) =
        ap (λ (xs : List (ℕ × Kind)). cond (are_for_a_shelf xs) (Some xs) None) (sym (joined os o more))

-- of objects that are not for a shelf none go on
behind_unfit : (os : List (ℕ × Kind)) (left : List (List ℕ)) → are_for_a_shelf os ≡ false → behind os left ≡ None
behind_unfit os left unfit = by_rest (each_word object_in left)
  where
    by_test : (more : List (ℕ × Kind)) (b : Bool) → are_for_a_shelf (os ++ more) ≡ b → cond b (Some (os ++ more)) None ≡ None
    by_test more true is = absurd (true≢false (sym (front_for_a_shelf os more is) ∙ unfit))
    by_test more false is = refl

    by_rest : (rest : Option (List (ℕ × Kind)))
        → option_and_then (λ more. cond (are_for_a_shelf (os ++ more)) (Some (os ++ more)) None) rest ≡ None
    by_rest None = refl
    by_rest (Some more) = by_test more (are_for_a_shelf (os ++ more)) refl

with_end : (os : List (ℕ × Kind)) → os ++ [] ≡ os
with_end [] = refl
with_end (o ∷ os) = ap (λ xs. o ∷ xs) (with_end os)

behind_all : (os : List (ℕ × Kind)) → are_for_a_shelf os ≡ true → behind os [] ≡ Some os
behind_all os fits = rw (with_end os, fits) refl

module _ {S : Type 0} (steps : S → Option (Bor (List ℕ)) → S → Type 0) (text : List ℕ) where
  -- these objects were read, and these parts are left
  pub record ReadsOn (it : S) (os : List (ℕ × Kind)) : Type 0 where
    pub before : List (List ℕ)
    pub left : List (List ℕ)
    pub parts : slice_split (λ b. b == 44) text ≡ before ++ left
    pub yields : AlwaysYields steps (λ x. x.now) it left
    pub read : each_word object_in before ≡ Some os
    pub said : objects_in text ≡ behind os left
    pub fits : are_for_a_shelf os ≡ true

  -- a part is the first of those that are left
  record NextPart (then : S) (part : List ℕ) (before : List (List ℕ)) (os : List (ℕ × Kind)) : Type 0 where
    left : List (List ℕ)
    parts : slice_split (λ b. b == 44) text ≡ before ++ part ∷ left
    yields : AlwaysYields steps (λ x. x.now) then left
    said : objects_in text ≡ behind os (part ∷ left)

  -- the part that comes next is
  next_part : (it then : S) (x : Bor (List ℕ)) (os : List (ℕ × Kind)) (r : ReadsOn it os) → steps it (Some x) then
      → NextPart then x.now r.before os
  next_part it then x os r step = go r.left r.parts r.yields r.said
    where
      go : (left : List (List ℕ)) → slice_split (λ b. b == 44) text ≡ r.before ++ left
          → AlwaysYields steps (λ x. x.now) it left → objects_in text ≡ behind os left
          → NextPart then x.now r.before os
      go [] parts yields said = absurd (yields x then step)
      go (part ∷ left) parts yields said =
          let is = yields.1 x then step in record {
            left = left;
            parts = parts ∙ ap (λ p. r.before ++ p ∷ left) (sym is.0);
            yields = is.1;
            said = said ∙ ap (λ p. behind os (p ∷ left)) (sym is.0);
          }

  -- a part of which one is read that is for a shelf beside the others
  pub reads_next : (it then : S) (x : Bor (List ℕ)) (os now : List (ℕ × Kind)) (o : ℕ × Kind) → ReadsOn it os
      → steps it (Some x) then → object_in x.now ≡ Some o → are_for_a_shelf (os ++ o ∷ []) ≡ true → now ≡ os ++ o ∷ []
      → ReadsOn then now
  reads_next it then x os now o r step is fits added =
      let next = next_part it then x os r step in record {
        before = r.before ++ x.now ∷ [];
        left = next.left;
        parts = next.parts ∙ moved r.before x.now next.left;
        yields = next.yields;
        read = each_more r.before x.now os o r.read is ∙ ap Some (sym added);
        said = next.said ∙ behind_one os o x.now next.left is ∙ ap (λ xs. behind xs next.left) (sym added);
        fits = ap are_for_a_shelf added ∙ fits;
      }

  -- a part that does not fit
  unfit_next : (it then : S) (x : Bor (List ℕ)) (os : List (ℕ × Kind)) → ReadsOn it os → steps it (Some x) then
      → (why : UnfitObjects) → IsUnfitPart os x.now why → IsFirstUnfit text why
  unfit_next it then x os r step why unfit =
      let next = next_part it then x os r step in record {
        before = r.before;
        part = x.now;
        behind = next.left;
        parts = next.parts;
        objects = os;
        said = r.read;
        fit = r.fits;
        unfit = unfit;
      }

  -- a part of which no object is read
  pub reads_none : (it then : S) (x : Bor (List ℕ)) (os : List (ℕ × Kind)) → ReadsOn it os → steps it (Some x) then
      → object_in x.now ≡ None → (why : UnfitObjects) → IsNoObject x.now why
      → (objects_in text ≡ None) × IsFirstUnfit text why
  reads_none it then x os r step none why no_object =
      let next = next_part it then x os r step in
      (next.said ∙ behind_none os x.now next.left none, unfit_next it then x os r step why (inl no_object))

  -- or one that is not for a shelf beside the others
  pub reads_unfit : (it then : S) (x : Bor (List ℕ)) (os : List (ℕ × Kind)) (o : ℕ × Kind) → ReadsOn it os
      → steps it (Some x) then → object_in x.now ≡ Some o → are_for_a_shelf (os ++ o ∷ []) ≡ false
      → (why : UnfitObjects) → IsUnfitObject os o.0 why → (objects_in text ≡ None) × IsFirstUnfit text why
  reads_unfit it then x os o r step is unfit why because =
      let next = next_part it then x os r step in (
        next.said ∙ behind_one os o x.now next.left is ∙ behind_unfit (os ++ o ∷ []) next.left unfit,
        unfit_next it then x os r step why (inr (o, is, because)),
      )

  -- all parts were read
  pub reads_all : (it then : S) (os : List (ℕ × Kind)) → ReadsOn it os → steps it None then
      → objects_in text ≡ Some os
  reads_all it then os r step = go r.left r.yields r.said
    where
      go : (left : List (List ℕ)) → AlwaysYields steps (λ x. x.now) it left → objects_in text ≡ behind os left
          → objects_in text ≡ Some os
      go [] yields said = said ∙ behind_all os r.fits
      go (part ∷ left) yields said = absurd (yields.0 then step)
