use Rattle.std.proofs.Common.{◌≡◌, nat_eq, Some, None, ap, ◌∙◌, sym, subst}
use Rattle.std.specs.Option.{IsSome}
use Rattle.std.specs.Map.{remove_entry}
use Rattle.la_object.specs.Shelves.{ShelfState, kinds, kind_at, state_at, IsClosedShelf}
use Rattle.la_shelf.proofs.lemmas.Rows.{kinds-remove, remove-IsShelf, lookup-state, lookup-kind, lookup-none}
use Rattle.la_object.specs.Objects.{meaning}
use Rattle.la_object.proofs.lemmas.Lawful.{lawful}
use Rattle.la_object.proofs.lemmas.Rows.{rows}
use Rattle.la_object.proofs.shelf.Shelf.retire.Goals as goal

pub invariant_of-self : goal.invariant_of-self
invariant_of-self g c =
    let f = g.B.Replicated.state in let es = c.self.inside.objects.entries in
    subst (λ xs. IsClosedShelf c.self.inside.view (rows f xs)) (sym c.shift_remove.ensures.entries)
    (record {
      objects = remove-IsShelf meaning lawful c.self.inside.view f c.args.number es c.self.invariant.objects;
      small = c.self.invariant.small;
    })

pub returns-clause-ok : goal.returns-clause-ok
returns-clause-ok g c = subst (λ (s : ShelfState). state_at s c.args.number ≡ Some c.in-Ok.state) c.self.view_is
    (lookup-state meaning lawful c.self.inside.view g.B.Replicated.state c.args.number c.self.inside.objects.entries
    c.in-Some.object.now c.self.invariant.objects.agree (sym c.in-Some.ensures.value) c.in-Ok.state c.in-Ok.ensures)

pub returns-clause-rest : goal.returns-clause-rest
returns-clause-rest g c =
    let f = g.B.Replicated.state in let es = c.self.inside.objects.entries in
    let objects : kinds (rows f c.shift_remove.new.self.entries) ≡ remove_entry (nat_eq c.args.number)
    c.args.self.now.objects =
    ap (λ xs. kinds (rows f xs)) c.shift_remove.ensures.entries ∙ kinds-remove meaning lawful f c.args.number es
    ∙ ap (λ (s : ShelfState). remove_entry (nat_eq c.args.number) s.objects) c.self.view_is in
    λ i. record { view = (c.self.view_is i).view; objects = objects i }

pub returns-in_default-state-clause-error : goal.returns-in_default-state-clause-error
returns-in_default-state-clause-error g c =
    subst (λ (s : ShelfState). IsSome (kind_at s.objects c.args.number)) c.self.view_is
    (lookup-kind meaning lawful c.self.inside.view g.B.Replicated.state c.args.number c.self.inside.objects.entries
    c.in-Some.object.now c.self.invariant.objects.agree (sym c.in-Some.ensures.value))

pub returns-in_default-clause-error : goal.returns-in_default-clause-error
returns-in_default-clause-error g c = subst (λ (s : ShelfState). kind_at s.objects c.args.number ≡ None) c.self.view_is
    (lookup-none meaning lawful g.B.Replicated.state c.args.number c.self.inside.objects.entries
    (sym c.in_default.ensures.value))
