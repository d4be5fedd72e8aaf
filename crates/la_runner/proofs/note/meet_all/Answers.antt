use Rattle.std.proofs.Common.{◌≡◌, [], map, ap, sym, ◌∙◌, subst, rules}
use Rattle.la_runner.specs.declared.group.Row.{Row}
use Rattle.la_runner.specs.Instances.{state_of}
use Rattle.la_runner.proofs.Telling.{told_items, MeetingAll, all_start, all_end, sound_here, names_here, told_names_here, met_next}
use Rattle.la_runner.proofs.note.meet_all.Goals as goal

pub loop-note-init : goal.loop-note-init
loop-note-init c = all_start (told_items c.args.told.items) (map state_of c.args.instances.now.items)

pub meet-requires-clause-sound : goal.meet-requires-clause-sound
meet-requires-clause-sound c =
    sound_here c.args.told.items c.args.instances.now.items c.args.rows.now c.loop-note.left.items c.pop.new.self.items
    c.in-Some.note c.loop-note.instances.items c.index_mut.result.now c.index-rows-at.result c.len-at.result
    c.requires.acceptors c.requires.told c.loop-note.invariant c.in-Some.ensures.items (search rules)
    c.index_mut.ensures.value c.index-rows-at.is c.requires.sound

pub meet-requires-clause-acceptors : goal.meet-requires-clause-acceptors
meet-requires-clause-acceptors c =
    names_here c.args.told.items c.args.instances.now.items c.args.rows.now c.loop-note.left.items c.pop.new.self.items
    c.in-Some.note c.loop-note.instances.items c.index_mut.result.now c.index-rows-at.result c.len-at.result
    c.requires.acceptors c.requires.told c.loop-note.invariant c.in-Some.ensures.items (search rules)
    c.index_mut.ensures.value c.index-rows-at.is
    ∙ sym (c.deref.ensures.value ∙ ap (λ (r : Row). r.acceptors.items) (sym c.index-rows-at.is))

pub meet-requires-clause-told : goal.meet-requires-clause-told
meet-requires-clause-told c =
    told_names_here c.args.told.items c.args.instances.now.items c.args.rows.now c.loop-note.left.items
    c.pop.new.self.items c.in-Some.note c.loop-note.instances.items c.index_mut.result.now c.index-rows-at.result
    c.len-at.result c.requires.acceptors c.requires.told c.loop-note.invariant c.in-Some.ensures.items (search rules)
    c.index_mut.ensures.value c.index-rows-at.is
    ∙ sym (c.deref.ensures.value ∙ ap (λ (r : Row). r.acceptors.items) (sym c.index-rows-at.is))

pub loop-note-preserved : goal.loop-note-preserved
loop-note-preserved c =
    met_next c.args.told.items c.args.instances.now.items c.args.rows.now c.loop-note.left.items c.pop.new.self.items
    c.in-Some.note c.loop-note.instances.items c.index_mut.result.now c.index-rows-at.result c.len-at.result
    c.requires.acceptors c.requires.told c.loop-note.invariant c.in-Some.ensures.items (search rules)
    c.index_mut.ensures.value c.index-rows-at.is c.meet.new.self
    (record { sound = c.meet.ensures.sound; goes = c.meet.ensures.goes; mine = c.meet.ensures.mine; told = c.meet.ensures.told; proposer = c.meet.ensures.proposer; learnt = c.meet.ensures.learnt; view = c.meet.ensures.view })

pub returns : goal.returns
returns c =
    let none : c.loop-note.left.items ≡ [] = search rules in
    all_end (told_items c.args.told.items) (map state_of c.args.instances.now.items)
    (map state_of c.loop-note.instances.items)
    (subst
    (λ l.
    MeetingAll (told_items c.args.told.items) (map state_of c.args.instances.now.items) (told_items l)
    (map state_of c.loop-note.instances.items)) none c.loop-note.invariant)
