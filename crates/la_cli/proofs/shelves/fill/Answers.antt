use Rattle.std.proofs.Common.{rules, length, map, All, sym, ap, ◌∙◌, subst, arith, inl, inr}
use Rattle.la_cli.specs.Shelves.{all_states_of, new_shelf, CanStand, IsFillRefusal}
use Rattle.la_cli.proofs.Standing.{none_shelved, one_shelved, all_shelved, has_unfit, is_fill_refusal}
use Rattle.la_cli.proofs.shelves.fill.Goals as goal

pub loop-objects-init : goal.loop-objects-init
loop-objects-init g c =
    let gives = c.into_iter-objects-iterator.ensures.into_iter_gives in (
      none_shelved g.B.Replicated.state c.args.all.items _ _ gives.0 c.in_ok-shelves.ensures.items,
      gives.1
          ∙ c.args.all.ok.0 ∙ ap length (sym gives.0),
    )

pub loop-objects-preserved : goal.loop-objects-preserved
loop-objects-preserved g c =
    let i = c.loop-objects.invariant in let steps = c.in-Some.ensures.steps in (
      one_shelved g.B.Replicated.state _ _ _ _ c.in-Some.objects _ _ _ i.0 steps.0 c.in_ok-shelf_with.ensures.ok
          c.in_ok-shelf_with.ensures.stand c.in_ok-push.ensures.items,
      omega (arith, i.1, steps.1, ap length steps.0),
    )

pub returns-in_err-shelf_with-clause-error : goal.returns-in_err-shelf_with-clause-error
returns-in_err-shelf_with-clause-error g c =
    let i = c.loop-objects.invariant in let e = c.in_err-shelf_with.field-0.0 in
    let refusal : IsFillRefusal (all_states_of g.B.Replicated.state c.args.all.items) e = is_fill_refusal _ e (elim c.in_err-shelf_with.ensures.error [
      | inl memory ↦ inl memory
      | inr unfit ↦ inr (has_unfit g.B.Replicated.state _ _ _ _ c.in-Some.objects _ e i.0 c.in-Some.ensures.steps.0 unfit)
    ]) in
    search rules

pub returns-clause-ok : goal.returns-clause-ok
returns-clause-ok g c =
    let i = c.loop-objects.invariant in
    i.0.are
    ∙ ap (λ os. map new_shelf (all_states_of g.B.Replicated.state os))
    (all_shelved g.B.Replicated.state _ _ _ _ i.0 (sym i.1 ∙ c.in-None.ensures.steps.0))

pub returns-clause-stand : goal.returns-clause-stand
returns-clause-stand g c =
    let i = c.loop-objects.invariant in
    subst (λ os. All CanStand (all_states_of g.B.Replicated.state os))
    (all_shelved g.B.Replicated.state _ _ _ _ i.0 (sym i.1 ∙ c.in-None.ensures.steps.0)) i.0.stand
