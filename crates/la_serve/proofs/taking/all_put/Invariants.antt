use Rattle.std.proofs.Common.{◌≡◌, take}
use Rattle.std.specs.List.{list_all}
use Rattle.la_set.specs.Histories.{get}
use Rattle.la_serve.specs.Takes.{is_put}
use Rattle.la_serve.proofs.taking.all_put.Given as goal

abbrev pub invariant-loop-place : goal.invariant-loop-place
invariant-loop-place l =
    l.all ≡ list_all (λ id. is_put l.object l.element (get l.view id)) (take l.place l.tags)
