use Rattle.std.specs.Option.{option_map}
use Rattle.la_shelf.specs.Shelves.{updates_at, state_by}
use Rattle.la_object.specs.Objects.{value, tags_by, meaning}
use Rattle.la_object.proofs.laws.equal_views_answer_alike.Goals as goal

pub returns-clause-answers : goal.returns-clause-answers
returns-clause-answers c a b number query views there =
    λ i. option_map (λ kind. value kind (updates_at (views i) number) query) (there i)

pub returns-clause-tags : goal.returns-clause-tags
returns-clause-tags c a b number x views there =
    λ i. option_map (λ kind. tags_by kind (updates_at (views i) number) x) (there i)

pub returns-clause-states : goal.returns-clause-states
returns-clause-states c a b number views there = λ i. option_map (state_by meaning (views i) number) (there i)
