use Rattle.std.proofs.Common.{◌≤◌, length, refl, ap, ◌∙◌, subst, arith, slice_index_or}
use mathlib.Core.List.{IsPrefix}
use Rattle.la_shared.specs.Passes.{Known}
use Rattle.la_runner.specs.Instances.{state_of}
use Rattle.la_runner.proofs.Keeping.{item_at, long_map, put_back, within_map}
use Rattle.la_runner.proofs.PassByPass.{none_shown, shown_next, shown_meets}
use Rattle.la_runner.proofs.instance.Instance.show.Goals as goal

pub loop-at-init : goal.loop-at-init
loop-at-init c = record { passes = refl; own_proposer = refl; own_learnt = refl; own_view = refl; shown = none_shown _ _ c.args.to.now.passes.items c.requires.sound.are; their_proposer = refl; their_learnt = refl; their_view = refl }

pub loop-at-preserved : goal.loop-at-preserved
loop-at-preserved c =
    let lt =
    within_map (λ (k : Known). k.acceptor) c.args.self.now.passes.items c.loop-at.self.passes.items
    c.args.acceptors.now c.loop-at.at c.requires.from c.loop-at.invariant.passes c.loop-at-test.true in
    let before =
    within_map (λ (k : Known). k.acceptor) c.args.self.now.passes.items c.args.self.now.passes.items
    c.args.acceptors.now c.loop-at.at c.requires.from refl c.loop-at-test.true in
    record {
      passes =
          put_back c.loop-at.self.passes.items c.loop-at.at c.index_mut.result.now c.note-note.new.pass lt
          c.index_mut.ensures.value c.note-note.ensures.same ∙ c.loop-at.invariant.passes;
      own_proposer = c.loop-at.invariant.own_proposer;
      own_learnt = c.loop-at.invariant.own_learnt;
      own_view = c.loop-at.invariant.own_view;
      shown =
          shown_next c.args.to.now.proposer.updates c.args.self.now.passes.items c.args.to.now.passes.items
          c.args.acceptors.now c.loop-at.at c.loop-at.to.passes.items c.requires.from c.requires.to c.loop-at-test.true
          c.loop-at.invariant.shown
          c.index_mut-in-loop-at.result.now c.index-acceptors-at.result c.index_mut-in-loop-at.ensures.value
          c.index-acceptors-at.is c.index_mut.result.now c.meet.new.pass
          (item_at c.args.self.now.passes.items c.loop-at.at c.index_mut.result.now before
          (c.index_mut.ensures.value
          ∙ ap (λ l. slice_index_or l c.loop-at.at c.index_mut.result.now) c.loop-at.invariant.passes))
          c.meet.ensures.pass c.meet.ensures.acceptor c.meet.ensures.before c.meet.ensures.mine
          (subst (λ l. IsPrefix l c.meet.new.pass.seen) c.note-note.ensures.note.1 c.meet.ensures.told);
      their_proposer = c.loop-at.invariant.their_proposer;
      their_learnt = c.loop-at.invariant.their_learnt;
      their_view = c.loop-at.invariant.their_view;
    }

pub returns-clause-met : goal.returns-clause-met
returns-clause-met c =
    let whole : length c.args.self.now.passes.items ≤ c.loop-at.at =
    (let a = long_map (λ (k : Known). k.acceptor) c.args.self.now.passes.items in
    let b = ap length c.requires.from in omega (arith, a, b, c.loop-at-test.false)) in
    shown_meets (state_of c.args.to.now) (state_of c.loop-at.to) c.args.self.now.passes.items c.loop-at.at
    c.requires.sound c.loop-at.invariant.shown whole c.loop-at.invariant.their_proposer
    c.loop-at.invariant.their_learnt c.loop-at.invariant.their_view
