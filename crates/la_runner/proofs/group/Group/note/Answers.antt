use Rattle.std.proofs.Common.{map, refl, ap, sym, ◌∙◌, subst}
use Rattle.la_runner.specs.declared.group.Row.{Row}
use Rattle.la_runner.specs.Fields.{stands_for, note_stands_for}
use Rattle.la_runner.specs.Members.{GroupState, member_view}
use Rattle.la_runner.specs.Notes.{TellsNote}
use Rattle.la_runner.proofs.Telling.{names_given, tells_now, note_is, note_of}
use Rattle.la_runner.proofs.group.Group.note.Goals as goal

pub tell_all-requires : goal.tell_all-requires
tell_all-requires c =
    (names_given c.member.inside c.args.member.now c.args.self.now c.self.inside.rows.items c.member.view_is c.requires
    (ap (λ (g : GroupState). g.acceptors) c.self.view_is)
    ∙ ap (map (λ (r : Row). r.acceptors.items)) (sym c.deref.ensures.value))

pub invariant_of-result : goal.invariant_of-result
invariant_of-result c = note_is (stands_for c.member.inside) (note_stands_for (record { votes = c.member.inside.votes; giver = c.member.inside.replica; told = c.in_ok-told.told; view = c.in_ok-view.view })) c.member.invariant (tells_now c.member.inside (record { votes = c.member.inside.votes; giver = c.member.inside.replica; told = c.in_ok-told.told; view = c.in_ok-view.view }) refl refl c.in_ok-told.ensures.told (c.in_ok-view.ensures ∙ c.view.ensures ∙ ap member_view (sym c.member.view_is)))

pub returns-clause-note : goal.returns-clause-note
returns-clause-note c = subst (λ m. TellsNote m (note_stands_for (record { votes = c.member.inside.votes; giver = c.member.inside.replica; told = c.in_ok-told.told; view = c.in_ok-view.view }))) c.member.view_is (tells_now c.member.inside (record { votes = c.member.inside.votes; giver = c.member.inside.replica; told = c.in_ok-told.told; view = c.in_ok-view.view }) refl refl c.in_ok-told.ensures.told (c.in_ok-view.ensures ∙ c.view.ensures ∙ ap member_view (sym c.member.view_is)))

pub returns-clause-of : goal.returns-clause-of
returns-clause-of c = note_of c.args.self.now c.args.member.now (note_stands_for (record { votes = c.member.inside.votes; giver = c.member.inside.replica; told = c.in_ok-told.told; view = c.in_ok-view.view })) c.requires (returns-clause-note c)
