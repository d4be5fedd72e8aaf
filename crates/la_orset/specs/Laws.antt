-- What an observed-remove set comes to that has absorbed the updates of a view under a number, in whatever order, each
-- once: the view's Marks and Votes do not count. `state` is what each set of a type stands for. src/laws.rt has the
-- law of these statements.
use Rattle.std.specs.Prelude.{◌≡◌, ℕ, List, IsPermutation}
use Rattle.la_set.specs.declared.update.Update.{Update}
use Rattle.la_set.specs.Histories.{Histories, updates}
use Rattle.la_object.specs.declared.kind.Kind.TheVariants.{OrSet as OrSetKind}
use Rattle.la_object.specs.declared.query.Query.{Query}
use Rattle.la_object.specs.declared.state.State.{State}
use Rattle.la_object.specs.OrSet.{set_value, live_tags}
use Rattle.la_object.specs.Objects.{start, steps, reply, tags_of, of_object, without_marks_and_votes}
use Rattle.la_object.specs.Shelves.{updates_at}

-- it answers by the view without them
abbrev pub AnswersPassOverMarks : {S : Type 0} → (state : S → State) → Type 0
AnswersPassOverMarks {S} state =
    (set : S) (view : Histories) (number : ℕ) (order : List Update) (query : Query) →
    IsPermutation (updates_at view number) order → state set ≡ steps (start OrSetKind) order →
    reply (state set) query ≡ set_value (of_object number (without_marks_and_votes (updates view))) query

-- it observes the live tags that the view without them has
abbrev pub TagsPassOverMarks : {S : Type 0} → (state : S → State) → Type 0
TagsPassOverMarks {S} state =
    (set : S) (view : Histories) (number : ℕ) (order : List Update) (x : ℕ) →
    IsPermutation (updates_at view number) order → state set ≡ steps (start OrSetKind) order →
    tags_of (state set) x ≡ live_tags (of_object number (without_marks_and_votes (updates view))) x
