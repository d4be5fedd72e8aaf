use Rattle.std.proofs.Common.{◌≡◌, false, Some, None, sym, subst}
use Rattle.std.specs.Option.{IsSome, IsSomeAnd}
use Rattle.la_object.specs.Objects.{answers_a_list, meaning}
use Rattle.la_object.specs.Shelves.{ShelfState, kind_at, answer_at}
use Rattle.la_shelf.proofs.lemmas.Rows.{lookup-answer, lookup-kind, lookup-none}
use Rattle.la_object.proofs.lemmas.Lawful.{lawful}
use Rattle.la_object.proofs.lemmas.Rows.{lookup-listing}
use Rattle.la_object.proofs.shelf.Shelf.ask.Goals as goal

pub returns-in-Ok-clause-ok : goal.returns-in-Ok-clause-ok
returns-in-Ok-clause-ok g c =
    subst (λ (s : ShelfState). answer_at s c.args.number c.args.query.now ≡ Some c.in-Ok.answer) c.self.view_is
    (lookup-answer meaning lawful c.self.inside.view g.B.Replicated.state c.args.number c.self.inside.objects.entries
    c.in-Some.object.now c.self.invariant.objects.agree (sym c.in-Some.ensures.value) c.args.query.now c.in-Ok.answer
    c.in-Ok.ensures.ok)

pub returns-in-Err-clause-error : goal.returns-in-Err-clause-error
returns-in-Err-clause-error g c = subst (λ (s : ShelfState). IsSome (kind_at s.objects c.args.number)) c.self.view_is
    (lookup-kind meaning lawful c.self.inside.view g.B.Replicated.state c.args.number c.self.inside.objects.entries
    c.in-Some.object.now c.self.invariant.objects.agree (sym c.in-Some.ensures.value))

pub returns-in_default-clause-error : goal.returns-in_default-clause-error
returns-in_default-clause-error g c = subst (λ (s : ShelfState). kind_at s.objects c.args.number ≡ None) c.self.view_is
    (lookup-none meaning lawful g.B.Replicated.state c.args.number c.self.inside.objects.entries
    (sym c.in_default.ensures.value))

pub returns-in-Err-clause-room : goal.returns-in-Err-clause-room
returns-in-Err-clause-room g c none =
    let query = c.args.query.now in
    c.in-Err.ensures.room
    (lookup-listing c.self.inside.view g.B.Replicated.state c.args.number c.self.inside.objects.entries
    c.in-Some.object.now c.self.invariant.objects.agree (sym c.in-Some.ensures.value) query
    (subst (λ (s : ShelfState). IsSomeAnd (kind_at s.objects c.args.number) (λ kind. answers_a_list kind query ≡ false))
    (sym c.self.view_is) none))

pub returns-in_default-clause-room : goal.returns-in_default-clause-room
returns-in_default-clause-room g c none = absurd
    (subst (λ o. IsSomeAnd o (λ kind. answers_a_list kind c.args.query.now ≡ false))
    (lookup-none meaning lawful g.B.Replicated.state c.args.number c.self.inside.objects.entries
    (sym c.in_default.ensures.value))
    (subst (λ (s : ShelfState). IsSomeAnd (kind_at s.objects c.args.number)
    (λ kind. answers_a_list kind c.args.query.now ≡ false)) (sym c.self.view_is) none))
