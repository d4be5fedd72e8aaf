use Rattle.std.proofs.Common.{refl, ap, sym, ◌∙◌, subst}
use Rattle.la_set.specs.Histories.{push, IsNext}
use Rattle.la_set.specs.Counts.{within}
use Rattle.la_set.specs.Representation.{lent_lists, AllBegin}
use Rattle.la_set.proofs.Pushing.{next_at, pushed_more}
use Rattle.la_set.proofs.Growing.{fronts-grow}
use Rattle.la_set.proofs.set.UpdateSet.rebuilt.Goals as goal

pub loop-place-init : goal.loop-place-init
loop-place-init c =
    let x = c.args.self.now in
    record {
      so_far = c.in_ok-of.ensures.fronts ∙ ap (within x) c.base.ensures;
      grows =
          fronts-grow x c.base.result (lent_lists c.args.lists.now) c.in_ok-of.of _ refl
          (subst (AllBegin (lent_lists c.args.lists.now) x) (sym c.base.ensures) c.requires.lists)
          c.in_ok-of.ensures.keeps c.in_ok-of.ensures.fronts;
    }

pub add-requires-clause-next : goal.add-requires-clause-next
add-requires-clause-next c =
    let u = c.item.result.now in
    subst (λ s. IsNext s u.id) (sym c.loop-place.invariant.so_far)
    (next_at c.args.delta.now.more (within c.args.self.now c.args.delta.now.base) c.loop-place.place u c.item.ensures
    c.requires.over.next)

pub loop-place-preserved : goal.loop-place-preserved
loop-place-preserved c =
    let w = within c.args.self.now c.args.delta.now.base in let u = c.item.result.now in
    record {
      so_far =
          c.in_ok-add.ensures.ok ∙ ap (λ s. push s u) c.loop-place.invariant.so_far
          ∙ pushed_more c.args.delta.now.more w c.loop-place.place u c.item.ensures;
      grows = c.in_ok-add.ensures.grows;
    }
