use Rattle.std.proofs.Common.{map, refl, ap, sym, ◌∙◌}
use Rattle.la_runner.specs.declared.group.Row.{Row}
use Rattle.la_runner.specs.declared.note.InstanceNote.{InstanceNote}
use Rattle.la_runner.specs.Members.{GroupState}
use Rattle.la_runner.specs.Notes.{NoteState, told_names}
use Rattle.la_runner.proofs.HavingMet.{comparable_here, member_met, goes_on_met, of_met, has_met_now}
use Rattle.la_runner.proofs.Telling.{names_given, map_map}
use Rattle.la_runner.proofs.group.Group.meet.Goals as goal

pub meet_all-requires-clause-sound : goal.meet_all-requires-clause-sound
meet_all-requires-clause-sound c i x at = (c.member.invariant.each i x at).0.sound

pub meet_all-requires-clause-acceptors : goal.meet_all-requires-clause-acceptors
meet_all-requires-clause-acceptors c =
    (names_given c.member.inside c.args.member.now c.args.self.now c.self.inside.rows.items c.member.view_is c.requires.of
    (ap (λ (g : GroupState). g.acceptors) c.self.view_is)
    ∙ ap (map (λ (r : Row). r.acceptors.items)) (sym c.deref.ensures.value))

pub meet_all-requires-clause-told : goal.meet_all-requires-clause-told
meet_all-requires-clause-told c =
    sym (map_map (λ (n : InstanceNote). n.notes.items) told_names c.note.inside.told.items)
    ∙ ap (λ (z : NoteState). map told_names z.told) c.note.view_is ∙ c.requires.note.acceptors
    ∙ sym (ap (λ (g : GroupState). g.acceptors) c.self.view_is)
    ∙ ap (map (λ (r : Row). r.acceptors.items)) (sym c.deref.ensures.value)

pub take_larger-requires : goal.take_larger-requires
take_larger-requires c = comparable_here c.member.inside c.args.member.now c.member.view_is c.member.invariant c.note.inside c.args.note c.note.view_is c.note.invariant c.args.self.now c.requires.of c.requires.note c.meet_all.new.instances.items (record { sizes = c.meet_all.ensures.sizes; each = c.meet_all.ensures.each }) c.index_mut.result.now c.index_mut.ensures.value

pub invariant_of-member : goal.invariant_of-member
invariant_of-member c = member_met c.member.inside c.args.member.now c.member.view_is c.member.invariant c.note.inside c.args.note c.note.view_is c.note.invariant c.args.self.now c.requires.of c.requires.note c.meet_all.new.instances.items (record { sizes = c.meet_all.ensures.sizes; each = c.meet_all.ensures.each }) c.index_mut.result.now c.index_mut.ensures.value (record { proposer = c.index_mut.result.now.proposer; passes = c.index_mut.result.now.passes; learnt = c.index_mut.result.now.learnt; view = c.take_larger.new.self }) c.take_larger.new.self refl c.take_larger.ensures.larger c.take_larger.ensures.grows c.take_larger.ensures.has

pub returns-clause-of : goal.returns-clause-of
returns-clause-of c = of_met c.member.inside c.args.member.now c.member.view_is c.member.invariant c.note.inside c.args.note c.note.view_is c.note.invariant c.args.self.now c.requires.of c.requires.note c.meet_all.new.instances.items (record { sizes = c.meet_all.ensures.sizes; each = c.meet_all.ensures.each }) c.index_mut.result.now c.index_mut.ensures.value (record { proposer = c.index_mut.result.now.proposer; passes = c.index_mut.result.now.passes; learnt = c.index_mut.result.now.learnt; view = c.take_larger.new.self }) c.take_larger.new.self refl c.take_larger.ensures.larger c.take_larger.ensures.grows c.take_larger.ensures.has

pub returns-clause-goes_on : goal.returns-clause-goes_on
returns-clause-goes_on c = goes_on_met c.member.inside c.args.member.now c.member.view_is c.member.invariant c.note.inside c.args.note c.note.view_is c.note.invariant c.args.self.now c.requires.of c.requires.note c.meet_all.new.instances.items (record { sizes = c.meet_all.ensures.sizes; each = c.meet_all.ensures.each }) c.index_mut.result.now c.index_mut.ensures.value (record { proposer = c.index_mut.result.now.proposer; passes = c.index_mut.result.now.passes; learnt = c.index_mut.result.now.learnt; view = c.take_larger.new.self }) c.take_larger.new.self refl c.take_larger.ensures.larger c.take_larger.ensures.grows c.take_larger.ensures.has

pub returns-clause-met : goal.returns-clause-met
returns-clause-met c = has_met_now c.member.inside c.args.member.now c.member.view_is c.member.invariant c.note.inside c.args.note c.note.view_is c.note.invariant c.args.self.now c.requires.of c.requires.note c.meet_all.new.instances.items (record { sizes = c.meet_all.ensures.sizes; each = c.meet_all.ensures.each }) c.index_mut.result.now c.index_mut.ensures.value (record { proposer = c.index_mut.result.now.proposer; passes = c.index_mut.result.now.passes; learnt = c.index_mut.result.now.learnt; view = c.take_larger.new.self }) c.take_larger.new.self refl c.take_larger.ensures.larger c.take_larger.ensures.grows c.take_larger.ensures.has
