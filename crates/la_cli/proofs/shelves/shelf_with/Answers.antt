use Rattle.std.proofs.Common.{rules, ◌≡◌, ◌⊎◌, length, sym, ap, ◌∙◌, subst, arith, inr}
use Rattle.la_object.specs.declared.error.ShelfError.TheVariants.{Memory}
use Rattle.la_cli.specs.Shelves.{states_of, new_shelf, CanStand, IsUnfit}
use Rattle.la_cli.proofs.Standing.{nothing_put, one_put, all_put, is_unfit}
use Rattle.la_cli.proofs.shelves.shelf_with.Goals as goal

pub loop-number-init : goal.loop-number-init
loop-number-init g c =
    let gives = c.into_iter-number-iterator.ensures.into_iter_gives in (
      nothing_put g.B.Replicated.state c.args.objects.items _ _ gives.0 c.new-shelf.ensures,
      gives.1
          ∙ c.args.objects.ok.0 ∙ ap length (sym gives.0),
    )

pub loop-number-preserved : goal.loop-number-preserved
loop-number-preserved g c =
    let i = c.loop-number.invariant in let steps = c.in-Some.ensures.steps in (
      one_put g.B.Replicated.state _ _ _ _ (c.in-Some.number, c.in-Some.object) _ _ i.0 steps.0
          c.in_ok-add.ensures.absent c.in_ok-add.ensures.fresh c.in_ok-add.ensures.ok,
      omega (arith, i.1, steps.1, ap length steps.0),
    )

pub returns-in_err-add-clause-error : goal.returns-in_err-add-clause-error
returns-in_err-add-clause-error g c =
    let i = c.loop-number.invariant in let e = c.in_err-add.field-0.0 in
    let unfit : (e ≡ Memory) ⊎ IsUnfit (states_of g.B.Replicated.state c.args.objects.items) e =
    inr
    (is_unfit g.B.Replicated.state _ _ _ _ (c.in-Some.number, c.in-Some.object) _ e i.0 c.in-Some.ensures.steps.0
    c.in_err-add.ensures.error) in
    search rules

pub returns-clause-ok : goal.returns-clause-ok
returns-clause-ok g c =
    let i = c.loop-number.invariant in
    i.0.is
    ∙ ap (λ os. new_shelf (states_of g.B.Replicated.state os))
    (all_put g.B.Replicated.state _ _ _ _ i.0 (sym i.1 ∙ c.in-None.ensures.steps.0))

pub returns-clause-stand : goal.returns-clause-stand
returns-clause-stand g c =
    let i = c.loop-number.invariant in
    subst (λ os. CanStand (states_of g.B.Replicated.state os))
    (all_put g.B.Replicated.state _ _ _ _ i.0 (sym i.1 ∙ c.in-None.ensures.steps.0)) i.0.stand
