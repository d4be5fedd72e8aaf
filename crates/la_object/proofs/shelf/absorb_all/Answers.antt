use Rattle.std.proofs.Common.{◌≡◌, map, Some, sym, ap, ◌∙◌, arith}
use Rattle.std.specs.List.{slice_get}
use Rattle.la_shelf.specs.Shelves.{absorbed, states}
use Rattle.la_shelf.proofs.lemmas.Rows.{mapped-at, absorbed-next}
use Rattle.la_object.specs.Objects.{meaning}
use Rattle.la_object.proofs.lemmas.Lawful.{lawful}
use Rattle.la_object.proofs.lemmas.Rows.{small-next}
use Rattle.la_object.proofs.shelf.absorb_all.Goals as goal

pub loop-at-preserved : goal.loop-at-preserved
loop-at-preserved g c =
    let us = map (λ u. u.now) c.args.run.now in let u = c.index-run-at.result.now in
    let here : slice_get us c.loop-at.at ≡ Some u =
    mapped-at meaning lawful (λ v. v.now) c.args.run.now c.loop-at.at _ _
    (omega (arith, c.loop-at-test.true)) c.index-run-at.is in
    record {
      some =
          c.in-Ok.ensures.ok ∙ ap (λ ss. absorbed meaning ss u) c.loop-at.invariant.some
          ∙ sym (absorbed-next meaning lawful (states g.B.Replicated.state c.args.objects.now) us c.loop-at.at u here);
      small = small-next us c.loop-at.at u here c.tell_small.ensures c.loop-at.invariant.small;
    }
