use Rattle.std.proofs.Common.{Some, sym, ap, ◌∙◌}
use Rattle.la_object.specs.Objects.{value, tags_by, steps, start}
use Rattle.la_object.proofs.OwnOperations.{answer-own, tags-own, state-own}
use Rattle.la_object.proofs.laws.other_objects_do_not_count.Goals as goal

pub returns-clause-answers : goal.returns-clause-answers
returns-clause-answers c a b number kind query one =
    answer-own a number kind one.here query ∙ ap (λ us. Some (value kind us query)) one.operations
    ∙ sym (answer-own b number kind one.there query)

pub returns-clause-tags : goal.returns-clause-tags
returns-clause-tags c a b number kind x one =
    tags-own a number kind one.here x ∙ ap (λ us. Some (tags_by kind us x)) one.operations
    ∙ sym (tags-own b number kind one.there x)

pub returns-clause-states : goal.returns-clause-states
returns-clause-states c a b number kind one =
    state-own a number kind one.here ∙ ap (λ us. Some (steps (start kind) us)) one.operations
    ∙ sym (state-own b number kind one.there)
