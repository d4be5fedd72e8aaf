-- When each call is refused, and how: a word for each call, by cases over the error.
use Rattle.std.specs.Prelude.{◌≡◌, ◌<◌, ◌≤◌, List, length, Option, IsSome, IsSomeAnd, None}
use Rattle.la_set.specs.declared.tags.TheConstants.{MAX_TAGS, INLINE_TAGS}
use Rattle.la_set.specs.declared.update.UpdateId.{UpdateId}
use Rattle.la_set.specs.Histories.{Histories}
use Rattle.la_set.specs.Inclusion.{IsSubset}
use Rattle.la_shelf.specs.Refusals.{HasAbsorbed}
use Rattle.la_object.specs.declared.kind.Kind.{Kind}
use Rattle.la_object.specs.declared.state.State.{State}
use Rattle.la_object.specs.declared.error.ObserveError.{ObserveError}
use Rattle.la_object.specs.declared.error.ObserveError.TheVariants.{TooManyTags as TagsTooMany, Memory as ObserveMemory}
use Rattle.la_object.specs.declared.error.ShelfError.{ShelfError}
use Rattle.la_object.specs.declared.error.ShelfError.TheVariants.{Taken, NotFresh, NoSuchObject, TooManyTags, Memory}
use Rattle.la_object.specs.declared.error.AbsorbError.{AbsorbError}
use Rattle.la_object.specs.declared.error.AbsorbError.TheVariants.{Smaller, Memory as AbsorbMemory}
use Rattle.la_object.specs.Objects.{IsFresh}
use Rattle.la_object.specs.Shelves.{ShelfState}

-- what an object observes: more tags than a Remove may name, and else memory may run out where they
-- are more than take none
abbrev pub IsObserveRefusal : List UpdateId → ObserveError → Type 0
IsObserveRefusal tags TagsTooMany = MAX_TAGS < length tags
IsObserveRefusal tags ObserveMemory = (INLINE_TAGS < length tags) × (length tags ≤ MAX_TAGS)

-- an addition: a number that is there, and else an object that is not fresh, and else memory may
-- run out
abbrev pub IsAddRefusal : Option Kind → State → ShelfError → Type 0
IsAddRefusal there state Taken = IsSome there
IsAddRefusal there state NotFresh = (there ≡ None) × ¬ IsFresh state
IsAddRefusal there state Memory = (there ≡ None) × IsFresh state
IsAddRefusal there state NoSuchObject = ⊥
IsAddRefusal there state TooManyTags = ⊥

-- a question to an object, and a retirement: no such number, and else memory may run out
abbrev pub IsAskRefusal : Option Kind → ShelfError → Type 0
IsAskRefusal there NoSuchObject = there ≡ None
IsAskRefusal there Memory = IsSome there
IsAskRefusal there Taken = ⊥
IsAskRefusal there NotFresh = ⊥
IsAskRefusal there TooManyTags = ⊥

-- the tags that an object observes: no such number, else more tags than a Remove may name, and else
-- memory may run out where they are more than take none
abbrev pub IsTagsRefusal : Option (List UpdateId) → ShelfError → Type 0
IsTagsRefusal tags NoSuchObject = tags ≡ None
IsTagsRefusal tags TooManyTags = IsSomeAnd tags (λ ids. MAX_TAGS < length ids)
IsTagsRefusal tags Memory =
    IsSomeAnd tags (λ ids. (INLINE_TAGS < length ids) × (length ids ≤ MAX_TAGS))
IsTagsRefusal tags Taken = ⊥
IsTagsRefusal tags NotFresh = ⊥

-- an absorption, and what it leaves: a set that does not contain the view, and then nothing has
-- changed; and else memory may run out, and then the view is the old one with the first `done` of
-- the new updates
abbrev pub IsAbsorbRefusal : ShelfState → Histories → ShelfState → AbsorbError → Type 0
IsAbsorbRefusal old set new Smaller = (¬ IsSubset old.view set) × (new ≡ old)
IsAbsorbRefusal old set new (AbsorbMemory done) = IsSubset old.view set × HasAbsorbed old set new done
