use Rattle.std.proofs.Common.{◌≡◌, map, length, ap, sym, ◌∙◌, subst, arith, ◌+◌, slice_set}
use Rattle.la_runner.specs.declared.group.Row.{Row}
use Rattle.la_runner.specs.Instances.{state_of}
use Rattle.la_runner.proofs.Telling.{Telling, names_known, acceptors_now, here_now, same_after, told_more, told_whole}
use Rattle.la_runner.proofs.note.tell_all.Goals as goal

pub note-requires : goal.note-requires
note-requires c =
    acceptors_now c.args.instances.now.items c.args.rows.now c.loop-at.at c.loop-at.instances.items c.loop-at.told.items
    c.requires c.loop-at.invariant c.loop-at-test.true c.index_mut.result.now c.index-rows-at.result
    c.index_mut.ensures.value c.index-rows-at.is
    ∙ sym (c.deref.ensures.value ∙ ap (λ (r : Row). r.acceptors.items) (sym c.index-rows-at.is))

pub returns-in_err-note-clause-same : goal.returns-in_err-note-clause-same
returns-in_err-note-clause-same c =
    same_after (map state_of c.args.instances.now.items) c.args.rows.now
    (names_known c.args.instances.now.items c.args.rows.now c.requires) c.loop-at.at c.loop-at.instances.items
    c.loop-at.told.items c.loop-at.invariant c.index_mut.result.now
    (here_now c.args.instances.now.items c.args.rows.now c.loop-at.at c.loop-at.instances.items c.loop-at.told.items
    c.requires c.loop-at.invariant c.loop-at-test.true c.index_mut.result.now c.index_mut.ensures.value)
    c.note.new.self c.note.ensures.same

pub returns-in_err-push-clause-same : goal.returns-in_err-push-clause-same
returns-in_err-push-clause-same c =
    same_after (map state_of c.args.instances.now.items) c.args.rows.now
    (names_known c.args.instances.now.items c.args.rows.now c.requires) c.loop-at.at c.loop-at.instances.items
    c.loop-at.told.items c.loop-at.invariant c.index_mut.result.now
    (here_now c.args.instances.now.items c.args.rows.now c.loop-at.at c.loop-at.instances.items c.loop-at.told.items
    c.requires c.loop-at.invariant c.loop-at-test.true c.index_mut.result.now c.index_mut.ensures.value)
    c.note.new.self c.note.ensures.same

pub loop-at-preserved : goal.loop-at-preserved
loop-at-preserved c =
    subst
    (λ l.
    Telling (map state_of c.args.instances.now.items) (c.loop-at.at + 1)
    (slice_set c.loop-at.instances.items c.loop-at.at c.note.new.self) l) (sym c.in_ok-push.ensures.items)
    (told_more (map state_of c.args.instances.now.items) c.args.rows.now
    (names_known c.args.instances.now.items c.args.rows.now c.requires) c.loop-at.at c.loop-at.instances.items
    c.loop-at.told.items c.loop-at.invariant c.index_mut.result.now
    (here_now c.args.instances.now.items c.args.rows.now c.loop-at.at c.loop-at.instances.items c.loop-at.told.items
    c.requires c.loop-at.invariant c.loop-at-test.true c.index_mut.result.now c.index_mut.ensures.value)
    c.note.new.self c.in_ok-note.note c.note.ensures.same c.in_ok-note.ensures.notes)

pub returns-clause-told : goal.returns-clause-told
returns-clause-told c =
    let end : c.loop-at.at ≡ length c.args.rows.now = omega (arith, c.loop-at-test.false, c.loop-at.auto.at-end) in
    told_whole c.args.instances.now.items c.loop-at.instances.items c.args.rows.now c.loop-at.at c.loop-at.told.items
    c.requires end c.loop-at.invariant
