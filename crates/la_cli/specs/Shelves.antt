-- The shelves that are made of objects, and when they are refused.
use Rattle.std.specs.Prelude.{◌≡◌, ℕ, nat_eq, List, [], ◌∷◌, ◌++◌, map, replicate, All, Result, IfOk}
use Rattle.std.specs.Global.{Vec}
use Rattle.std.specs.List.{IsDistinct}
use Rattle.la_set.specs.Histories.{empty}
use Rattle.la_object.specs.declared.kind.Kind.TheVariants.{Counter, MaxRegister, OrSet}
use Rattle.la_object.specs.declared.state.State.{State}
use Rattle.la_object.specs.declared.error.ShelfError.{ShelfError}
use Rattle.la_object.specs.declared.error.ShelfError.TheVariants.{Taken, NotFresh, NoSuchObject, TooManyTags, Memory}
use Rattle.la_object.specs.Objects.{start, IsFresh}
use Rattle.la_object.specs.Shelves.{ShelfState, kinds, kind_at}
use Rattle.la_object.specs.Refusals.{IsAddRefusal}

-- ## Objects under numbers

-- each number with the state that its object is in
abbrev pub states_of : {B : Type 0} → (B → State) → List (ℕ × B) → List (ℕ × State)
states_of state objects = map (λ o. (o.0, state o.1)) objects

-- the same of each replica's objects
abbrev pub all_states_of : {B : Type 0} → (B → State) → List (Vec (ℕ × B)) → List (List (ℕ × State))
all_states_of state all = map (λ objects. states_of state objects.items) all

-- the shelf of these objects, which has absorbed nothing
abbrev pub new_shelf : List (ℕ × State) → ShelfState
new_shelf objects = record { view = empty; objects = kinds objects }

-- they can stand on one shelf: no two under one number, and each in its kind's start state
pub record CanStand (objects : List (ℕ × State)) : Type 0 where
  pub apart : IsDistinct nat_eq (map (λ o. o.0) objects)
  pub fresh : All (λ o. IsFresh o.1) objects

-- ## Refusals

-- one of the objects is refused as an addition to those before it, which can stand
pub record IsUnfit (objects : List (ℕ × State)) (e : ShelfError) : Type 0 where
  pub before : List (ℕ × State)
  pub object : ℕ × State
  pub behind : List (ℕ × State)
  pub parts : objects ≡ before ++ object ∷ behind
  pub stand : CanStand before
  pub refused : IsAddRefusal (kind_at (kinds before) object.0) object.1 e

-- one of the replicas has objects that are refused so, and those of the replicas before it can stand
pub record HasUnfit (all : List (List (ℕ × State))) (e : ShelfError) : Type 0 where
  pub before : List (List (ℕ × State))
  pub objects : List (ℕ × State)
  pub behind : List (List (ℕ × State))
  pub parts : all ≡ before ++ objects ∷ behind
  pub stand : All CanStand before
  pub unfit : IsUnfit objects e

-- why there are no shelves: the first object that is unfit, or else memory may run out
abbrev pub IsFillRefusal : List (List (ℕ × State)) → ShelfError → Type 0
IsFillRefusal all Taken = HasUnfit all Taken
IsFillRefusal all NotFresh = HasUnfit all NotFresh
IsFillRefusal all Memory = Unit {0}
IsFillRefusal all NoSuchObject = ⊥
IsFillRefusal all TooManyTags = ⊥

-- ## The objects of the program

-- a new counter under 1, a new max register under 2 and a new observed-remove set under 3
abbrev pub standard_objects : List (ℕ × State)
standard_objects = (1, start Counter) ∷ (2, start MaxRegister) ∷ (3, start OrSet) ∷ []

-- what makes objects may be called, and what it makes are those of the program
pub record MakesStandard {B F E : Type 0} (state : B → State) (pre : F → Type 0)
    (post : F → Result (Vec (ℕ × B)) E → Type 0) (make : F) : Type 0 where
  pub callable : pre make
  pub made : (objects : Result (Vec (ℕ × B)) E) → post make objects →
      IfOk objects (λ v. states_of state v.items ≡ standard_objects)

-- eight shelves of such objects, one for each replica that a group may have
abbrev pub standard_shelves : List ShelfState
standard_shelves = replicate 8 (new_shelf standard_objects)
