use Rattle.std.proofs.Common.{rules, ◌≡◌, length, ap, subst, sym, ◌∙◌}
use Rattle.std.proofs.lemmas.Bool.{false≢true}
use Rattle.la_set.specs.Histories.{empty, updates}
use Rattle.la_object.specs.Shelves.{ShelfState}
use Rattle.la_set.proofs.lemmas.Differences.{empty_has_none, none_empty}
use Rattle.la_object.proofs.FreshShelves.{unused_more}
use Rattle.la_object.proofs.unused.are_unused.Goals as goal

pub returns-then-len-ne0 : goal.returns-then-len-ne0
returns-then-len-ne0 g c = (
  (λ no. absurd (false≢true no)),
  λ all.
      let unused : c.shelf-item.result.view ≡ empty =
      subst (λ (s : ShelfState). s.view ≡ empty) (sym c.shelf-item.is)
      (all c.loop-shelf.shelf-index c.shelf-item.result (search rules)) in
      let none : c.len.result ≡ 0 =
      c.len.ensures.len ∙ ap (λ s. length (updates s)) (c.view.ensures ∙ unused) ∙ empty_has_none in
      search rules,
)

pub loop-shelf-preserved : goal.loop-shelf-preserved
loop-shelf-preserved g c =
    let none : length (updates c.view.result.now) ≡ 0 = search rules in
    unused_more c.args.shelves.now c.loop-shelf.shelf-index c.shelf-item.result c.loop-shelf.invariant (search rules)
    c.shelf-item.is
    (sym c.view.ensures ∙ none_empty c.view.result.now none)
