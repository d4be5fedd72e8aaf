use Rattle.std.proofs.Common.{refl, ap, sym, ◌∙◌, arith}
use Rattle.la_runner.specs.declared.group.Row.{Row}
use Rattle.la_runner.proofs.PassByPass.{none_of_all, told_of_all, from_names, to_names, to_sound, from_after, next_shown, all_instances}
use Rattle.la_runner.proofs.showing.show_instances.Goals as goal

pub loop-at-init : goal.loop-at-init
loop-at-init c = record { same = refl; shown = none_of_all (told_of_all c.args.from.now.items) _ }

pub show-requires-clause-sound : goal.show-requires-clause-sound
show-requires-clause-sound c =
    to_sound c.args.rows.now c.args.from.now.items c.args.to.now.items c.requires.from c.requires.to c.loop-at.at
    c.loop-at.from.items c.loop-at.to.items c.loop-at.invariant.same c.loop-at.invariant.shown c.loop-at-test.true
    c.index_mut.result.now c.index_mut-in-loop-at.result.now c.index-rows-at.result c.index_mut.ensures.value
    c.index_mut-in-loop-at.ensures.value c.index-rows-at.is c.requires.sound

pub show-requires-clause-from : goal.show-requires-clause-from
show-requires-clause-from c =
    from_names c.args.rows.now c.args.from.now.items c.args.to.now.items c.requires.from c.requires.to c.loop-at.at
    c.loop-at.from.items c.loop-at.to.items c.loop-at.invariant.same c.loop-at.invariant.shown c.loop-at-test.true
    c.index_mut.result.now c.index_mut-in-loop-at.result.now c.index-rows-at.result c.index_mut.ensures.value
    c.index_mut-in-loop-at.ensures.value c.index-rows-at.is
    ∙ sym (c.deref.ensures.value ∙ ap (λ (r : Row). r.acceptors.items) (sym c.index-rows-at.is))

pub show-requires-clause-to : goal.show-requires-clause-to
show-requires-clause-to c =
    to_names c.args.rows.now c.args.from.now.items c.args.to.now.items c.requires.from c.requires.to c.loop-at.at
    c.loop-at.from.items c.loop-at.to.items c.loop-at.invariant.same c.loop-at.invariant.shown c.loop-at-test.true
    c.index_mut.result.now c.index_mut-in-loop-at.result.now c.index-rows-at.result c.index_mut.ensures.value
    c.index_mut-in-loop-at.ensures.value c.index-rows-at.is
    ∙ sym (c.deref.ensures.value ∙ ap (λ (r : Row). r.acceptors.items) (sym c.index-rows-at.is))

pub loop-at-preserved : goal.loop-at-preserved
loop-at-preserved c = record {
  same =
      from_after c.args.rows.now c.args.from.now.items c.args.to.now.items c.requires.from c.requires.to c.loop-at.at
      c.loop-at.from.items c.loop-at.to.items c.loop-at.invariant.same c.loop-at.invariant.shown c.loop-at-test.true
      c.index_mut.result.now c.index_mut-in-loop-at.result.now c.index-rows-at.result c.index_mut.ensures.value
      c.index_mut-in-loop-at.ensures.value c.index-rows-at.is c.show.new.self c.show.ensures.same;
  shown =
      next_shown c.args.rows.now c.args.from.now.items c.args.to.now.items c.requires.from c.requires.to c.loop-at.at
      c.loop-at.from.items c.loop-at.to.items c.loop-at.invariant.same c.loop-at.invariant.shown c.loop-at-test.true
      c.index_mut.result.now c.index_mut-in-loop-at.result.now c.index-rows-at.result c.index_mut.ensures.value
      c.index_mut-in-loop-at.ensures.value c.index-rows-at.is c.show.new.to c.show.ensures.met;
}

pub returns-clause-met : goal.returns-clause-met
returns-clause-met c =
    all_instances c.args.rows.now c.args.from.now.items c.args.to.now.items c.loop-at.at c.loop-at.to.items
    c.requires.from (omega (arith, c.loop-at-test.false, c.loop-at.auto.at-end)) c.loop-at.invariant.shown
