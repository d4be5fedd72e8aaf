use Rattle.std.proofs.Common.{◌≡◌, ◌∙◌, ap, sym, subst, map, replicate, All, arith}
use Rattle.std.proofs.lemmas.Result.{IfOk-weaker, IfErr-weaker}
use Rattle.std.proofs.lemmas.List.Elements.{All-replicate}
use Rattle.la_cli.specs.Shelves.{new_shelf, CanStand, standard_objects}
use Rattle.la_cli.proofs.Standing.{only_memory, standard_stand}
use Rattle.la_cli.proofs.objects.shelves_of.Goals as goal

pub returns-clause-ok : goal.returns-clause-ok
returns-clause-ok g c =
    let eight : c.loop.counter ≡ 8 = omega (arith, c.loop-test.false, c.loop.auto.counter-end) in
    IfOk-weaker c.fill.result _ _
    (λ shelves made. made ∙ ap (map new_shelf) (c.loop.invariant ∙ ap (λ n. replicate n standard_objects) eight))
    c.fill.ensures.ok

pub returns-clause-error : goal.returns-clause-error
returns-clause-error g c =
    IfErr-weaker c.fill.result _ _
    (λ e refusal.
    only_memory _ e
    (subst (All CanStand) (sym c.loop.invariant)
    (All-replicate CanStand c.loop.counter standard_objects standard_stand)) refusal)
    c.fill.ensures.error
