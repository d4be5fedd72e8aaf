use Rattle.std.proofs.Common.{◌∙◌, ap, ap₂, List, [], ◌∷◌, ◌++◌, replicate, arith}
use Rattle.std.proofs.lemmas.List.{replicate-append-replicate}
use Rattle.la_set.specs.Histories.{empty}
use Rattle.la_object.specs.Shelves.{ShelfState}
use Rattle.la_world.proofs.shelves.empty_shelves.Goals as goal

-- a shelf without objects
abbrev none : ShelfState
none = record { view = empty; objects = [] }

pub loop-preserved : goal.loop-preserved
loop-preserved g c =
    c.in_ok-push.ensures.items
    ∙ ap₂ (λ (all : List ShelfState) (last : ShelfState). all ++ last ∷ []) c.loop.invariant c.new.ensures
    ∙ replicate-append-replicate c.loop.counter 1 none

pub returns : goal.returns
returns g c = c.loop.invariant ∙ ap (λ n. replicate n none) (omega (arith, c.loop-test.false, c.loop.auto.counter-end))
