use Rattle.std.proofs.Common.{ap, ◌∙◌, sym, subst}
use Rattle.std.specs.List.{All}
use Rattle.std.proofs.lemmas.List.{nil_from_length}
use Rattle.std.proofs.lemmas.List.Elements.{All-nil}
use Rattle.la_set.specs.Histories.{updates}
use Rattle.la_object.specs.Shelves.{IsSmall}
use Rattle.la_shelf.specs.Shelves.{IsObject}
use Rattle.la_shelf.proofs.lemmas.Rows.{updates-empty}
use Rattle.la_object.specs.Objects.{meaning}
use Rattle.la_object.proofs.lemmas.Lawful.{lawful}
use Rattle.la_object.proofs.lemmas.Rows.{rows}
use Rattle.la_object.proofs.shelf.Shelf.new.Goals as goal

pub invariant_of-result : goal.invariant_of-result
invariant_of-result g c = record {
  objects = record {
    agree =
        subst (λ es. All (IsObject meaning c.new-2.result) (rows g.B.Replicated.state es))
        (sym (nil_from_length c.new.result.entries c.new.ensures.len)) (All-nil (IsObject meaning c.new-2.result));
  };
  small = subst (All IsSmall) (sym (ap updates c.new-2.ensures ∙ updates-empty meaning lawful)) (All-nil IsSmall);
}
