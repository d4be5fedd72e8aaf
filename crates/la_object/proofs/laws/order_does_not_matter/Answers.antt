use Rattle.std.proofs.Common.{ap, ◌∙◌}
use Rattle.la_shelf.proofs.lemmas.Orders.{steps-IsPermutation, ascending-distinct}
use Rattle.la_shelf.proofs.lemmas.Rows as shelf
use Rattle.la_object.specs.Objects.{meaning, reply, tags_of, start}
use Rattle.la_object.specs.Shelves.{updates_at}
use Rattle.la_object.proofs.lemmas.Lawful.{lawful, by_id, ascending-view}
use Rattle.la_object.proofs.Replies.{tags-steps}
use Rattle.la_object.proofs.laws.order_does_not_matter.Goals as goal

pub returns-clause-commute : goal.returns-clause-commute
returns-clause-commute c = by_id.swaps

pub returns-clause-answers : goal.returns-clause-answers
returns-clause-answers c kind set number order query one =
    let us = updates_at set number in let up = shelf.ascending-view set number in
    ap (λ s. reply s query) (steps-IsPermutation meaning by_id (start kind) us order (ascending-distinct us up) one)
    ∙ lawful.means kind us query up

pub returns-clause-tags : goal.returns-clause-tags
returns-clause-tags c kind set number order x one =
    let us = updates_at set number in let up = shelf.ascending-view set number in
    ap (λ s. tags_of s x) (steps-IsPermutation meaning by_id (start kind) us order (ascending-distinct us up) one)
    ∙ tags-steps kind us x (ascending-view set number)
