use Rattle.std.proofs.Common.{◌≡◌, ◌<◌, ◌≤◌, Some, None, ap, length, sym, ◌∙◌, subst}
use Rattle.std.specs.Option.{IsSomeAnd, option_map}
use Rattle.la_object.specs.Objects.{tags_by, tags_of, meaning}
use Rattle.la_object.specs.Refusals.{IsObserveRefusal}
use Rattle.la_object.specs.Shelves.{ShelfState, tags_at, updates_at}
use Rattle.la_shelf.proofs.lemmas.Rows.{lookup-none}
use Rattle.la_object.proofs.lemmas.Lawful.{lawful}
use Rattle.la_object.proofs.lemmas.Rows.{lookup-tags}
use Rattle.la_object.proofs.shelf.Shelf.observed.Goals as goal

pub returns-in-Ok-clause-ok : goal.returns-in-Ok-clause-ok
returns-in-Ok-clause-ok g c =
    subst (λ (s : ShelfState). tags_at s c.args.number c.args.element ≡ Some c.in-Ok.tags) c.self.view_is
    (lookup-tags c.self.inside.view g.B.Replicated.state c.args.number c.self.inside.objects.entries
    c.in-Some.object.now c.self.invariant.objects.agree (sym c.in-Some.ensures.value) c.args.element
    ∙ ap Some (sym c.in-Ok.ensures.ok))

pub returns-in-Err-TooManyTags-clause-error : goal.returns-in-Err-TooManyTags-clause-error
returns-in-Err-TooManyTags-clause-error g c =
    subst (λ (s : ShelfState). IsSomeAnd (tags_at s c.args.number c.args.element) (λ ids. 64 < length ids))
    c.self.view_is
    (subst (λ o. IsSomeAnd o (λ ids. 64 < length ids))
    (sym
    (lookup-tags c.self.inside.view g.B.Replicated.state c.args.number c.self.inside.objects.entries
    c.in-Some.object.now c.self.invariant.objects.agree (sym c.in-Some.ensures.value) c.args.element))
    (subst (IsObserveRefusal (tags_of (g.B.Replicated.state c.in-Some.object.now) c.args.element))
    c.in-Err-TooManyTags.field-0-is c.in-Err-TooManyTags.ensures.error))

pub returns-in-Err-Memory-clause-error : goal.returns-in-Err-Memory-clause-error
returns-in-Err-Memory-clause-error g c =
    subst
    (λ (s : ShelfState).
    IsSomeAnd (tags_at s c.args.number c.args.element) (λ ids. (2 < length ids) × (length ids ≤ 64))) c.self.view_is
    (subst (λ o. IsSomeAnd o (λ ids. (2 < length ids) × (length ids ≤ 64)))
    (sym
    (lookup-tags c.self.inside.view g.B.Replicated.state c.args.number c.self.inside.objects.entries
    c.in-Some.object.now c.self.invariant.objects.agree (sym c.in-Some.ensures.value) c.args.element))
    (subst (IsObserveRefusal (tags_of (g.B.Replicated.state c.in-Some.object.now) c.args.element))
    c.in-Err-Memory.field-0-is c.in-Err-Memory.ensures.error))

pub returns-in_default-clause-error : goal.returns-in_default-clause-error
returns-in_default-clause-error g c =
    subst (λ (s : ShelfState). tags_at s c.args.number c.args.element ≡ None) c.self.view_is
    (ap (option_map (λ kind. tags_by kind (updates_at c.self.inside.view c.args.number) c.args.element))
    (lookup-none meaning lawful g.B.Replicated.state c.args.number c.self.inside.objects.entries
    (sym c.in_default.ensures.value)))
