use Rattle.std.proofs.Common.{◌≡◌, false, Result, Ok, Err, OnOk, refl, sym, ap, ◌∙◌, subst, true≢false}
use Rattle.la_set.specs.Inclusion.{IsSubset, is_subset}
use Rattle.la_set.proofs.lemmas.Decisions.{is_subset-Decides}
use Rattle.la_object.proofs.shelf.Shelf.absorb_compatible.Goals as goal

pub returns-then-not-contains_compatible-clause-error : goal.returns-then-not-contains_compatible-clause-error
returns-then-not-contains_compatible-clause-error g c =
    let old = c.args.self.now.view in let set = c.args.set.now in
    let no : is_subset old set ≡ false =
    ap (λ v. is_subset v set) (sym c.view.ensures) ∙ sym c.contains_compatible.ensures
    ∙ c.if-not-contains_compatible.true in
    ((λ sub. true≢false (sym ((is_subset-Decides old set).1 sub) ∙ no)), refl)

pub returns-then-not-contains_compatible-clause-again : goal.returns-then-not-contains_compatible-clause-again
returns-then-not-contains_compatible-clause-again g c = λ same.
    let old = c.args.self.now.view in let set = c.args.set.now in
    let no : is_subset old set ≡ false =
    ap (λ v. is_subset v set) (sym c.view.ensures) ∙ sym c.contains_compatible.ensures
    ∙ c.if-not-contains_compatible.true in
    absurd (true≢false (sym ((is_subset-Decides old set).1 (subst (IsSubset old) (sym same) (λ u has. has))) ∙ no))

pub absorb_new-requires-after_bounds : goal.absorb_new-requires-after_bounds
absorb_new-requires-after_bounds g c κs within =
    let old = c.args.self.now.view in let set = c.args.set.now in
    (is_subset-Decides old set).0
    (ap (λ v. is_subset v set) (sym c.view.ensures) ∙ sym c.contains_compatible.ensures
    ∙ c.if-not-contains_compatible.false)

on_ok : {A E P : Type 0} (r : Result A E) → P → OnOk r P
on_ok (Ok a) p = p
on_ok (Err e) p = tt

pub returns-clause-contained : goal.returns-clause-contained
returns-clause-contained g c =
    let old = c.args.self.now.view in let set = c.args.set.now in
    let sub : IsSubset old set =
    (is_subset-Decides old set).0
    (ap (λ v. is_subset v set) (sym c.view.ensures) ∙ sym c.contains_compatible.ensures
    ∙ c.if-not-contains_compatible.false) in
    on_ok c.absorb_new.result sub
