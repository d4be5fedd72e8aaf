-- What an object comes to by its updates of a set, in whatever order it absorbs them, each once. src/laws.rt has the
-- law of these statements.
use Rattle.std.specs.Prelude.{◌≡◌, ℕ, List, IsPermutation}
use Rattle.la_set.specs.declared.update.Update.{Update}
use Rattle.la_set.specs.Histories.{Histories}
use Rattle.la_object.specs.declared.kind.Kind.{Kind}
use Rattle.la_object.specs.declared.query.Query.{Query}
use Rattle.la_object.specs.Objects.{steps, start, reply, value, tags_of, tags_by}
use Rattle.la_object.specs.Shelves.{updates_at}

-- it answers by what they are
abbrev pub OrderLeavesAnswers : Type 0
OrderLeavesAnswers = (kind : Kind) (set : Histories) (number : ℕ) (order : List Update) (query : Query) →
    IsPermutation (updates_at set number) order →
    reply (steps (start kind) order) query ≡ value kind (updates_at set number) query

-- it observes their live tags
abbrev pub OrderLeavesTags : Type 0
OrderLeavesTags = (kind : Kind) (set : Histories) (number : ℕ) (order : List Update) (x : ℕ) →
    IsPermutation (updates_at set number) order →
    tags_of (steps (start kind) order) x ≡ tags_by kind (updates_at set number) x
