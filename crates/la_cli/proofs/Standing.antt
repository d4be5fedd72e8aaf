-- Objects that can stand on one shelf, as they are added one after another.
use Rattle.std.proofs.Common.{◌≡◌, ℕ, ◌||◌, ◌⊎◌, inl, inr, nat_eq, Bool, true, false, cond, List, [], ◌∷◌, ◌++◌, length, map, Some, None, refl, ap, sym, ◌∙◌, subst, All, true≢false}
use Rattle.std.specs.Global.{Vec}
use Rattle.std.specs.Cmp.{nat_eq_equiv}
use Rattle.std.specs.List.{IsDistinct, AllByRecursion, list_any}
use Rattle.std.specs.Option.{IsSome}
use Rattle.std.proofs.lemmas.Option.{none-some}
use Rattle.std.proofs.lemmas.Map.Keys.{IsDistinct-push}
use Rattle.std.proofs.lemmas.List.{nil_from_length, append-nil, append_assoc, map-append}
use Rattle.std.proofs.lemmas.List.Elements.{All-nil, All-head, All-tail, All-push, All-from_recursion}
use Rattle.la_set.specs.Histories.{empty}
use Rattle.la_object.specs.declared.error.ShelfError.{ShelfError}
use Rattle.la_object.specs.declared.error.ShelfError.TheVariants.{Taken, NotFresh, NoSuchObject, TooManyTags, Memory}
use Rattle.la_object.specs.declared.state.State.{State}
use Rattle.la_object.specs.Objects.{kind_of, IsFresh}
use Rattle.la_object.specs.Shelves.{ShelfState, kinds, kind_at}
use Rattle.la_object.specs.Refusals.{IsAddRefusal}
use Rattle.la_object.proofs.lemmas.Rows.{rows-push, kinds-push}
use Rattle.la_cli.specs.Shelves.{states_of, all_states_of, new_shelf, CanStand, IsUnfit, HasUnfit, IsFillRefusal, standard_objects}

-- no number is this one, where none of the objects stands under it
none_is : (number : ℕ) (os : List (ℕ × State)) → kind_at (kinds os) number ≡ None
    → list_any (nat_eq number) (map (λ o. o.0) os) ≡ false
none_is number [] none = refl
none_is number (o ∷ os) none = by (nat_eq number o.0) (none_is number os) none
  where
    by : (b : Bool) → (kind_at (kinds os) number ≡ None → list_any (nat_eq number) (map (λ o. o.0) os) ≡ false)
        → cond b (Some (kind_of o.1)) (kind_at (kinds os) number) ≡ None
        → (b || list_any (nat_eq number) (map (λ o. o.0) os)) ≡ false
    by true rest none = absurd (none-some (kind_of o.1) (sym none))
    by false rest none = rest none

numbers-push : (os : List (ℕ × State)) (o : ℕ × State) → map (λ o. o.0) (os ++ o ∷ []) ≡ map (λ o. o.0) os ++ o.0 ∷ []
numbers-push [] o = refl
numbers-push (p ∷ os) o = ap (λ ns. p.0 ∷ ns) (numbers-push os o)

-- one more object can stand with them
pub stand-push : (os : List (ℕ × State)) (o : ℕ × State) → CanStand os → kind_at (kinds os) o.0 ≡ None → IsFresh o.1
    → CanStand (os ++ o ∷ [])
stand-push os o can none fresh = record {
  apart =
      subst (IsDistinct nat_eq) (sym (numbers-push os o))
      (IsDistinct-push nat_eq_equiv (map (λ o. o.0) os) o.0 can.apart (none_is o.0 os none));
  fresh = All-push (λ o. IsFresh o.1) os o can.fresh fresh;
}

-- a shelf on which the first of all objects were put, and those that are still to come
pub record Filling {B : Type 0} (state : B → State) (all done left : List (ℕ × B)) (shelf : ShelfState) : Type 0 where
  pub parts : all ≡ done ++ left
  pub is : shelf ≡ new_shelf (states_of state done)
  pub stand : CanStand (states_of state done)

pub nothing_put : {B : Type 0} (state : B → State) (all left : List (ℕ × B)) (shelf : ShelfState) → left ≡ all → shelf ≡ record { view = empty; objects = [] } → Filling state all [] left shelf
unfolding IsDistinct
nothing_put state all left shelf whole new = record { parts = sym whole; is = new; stand = record { apart = tt; fresh = All-nil (λ o. IsFresh o.1) } }

-- where the next one was put there
pub one_put : {B : Type 0} (state : B → State) (all done left rest : List (ℕ × B)) (o : ℕ × B)
    (shelf shelf_after : ShelfState) →
    Filling state all done left shelf → left ≡ o ∷ rest → kind_at shelf.objects o.0 ≡ None → IsFresh (state o.1) →
    shelf_after ≡ record shelf { objects = shelf.objects ++ (o.0, kind_of (state o.1)) ∷ [] }
    → Filling state all (done ++ o ∷ []) rest shelf_after
one_put state all done left rest o shelf shelf_after f is none fresh put =
    let before = states_of state done in
    let next : states_of state (done ++ o ∷ []) ≡ before ++ (o.0, state o.1) ∷ [] = rows-push state done o.0 o.1 in
    record {
      parts = f.parts ∙ ap (λ os. done ++ os) is ∙ sym (append_assoc done (o ∷ []) rest);
      is = put
          ∙ ap (λ (s : ShelfState). record s { objects = s.objects ++ (o.0, kind_of (state o.1)) ∷ [] }) f.is
          ∙ ap (λ os. record { view = empty; objects = os }) (sym (kinds-push before o.0 (state o.1)))
          ∙ ap new_shelf (sym next);
      stand =
          subst CanStand (sym next)
          (stand-push before (o.0, state o.1) f.stand (ap (λ (s : ShelfState). kind_at s.objects o.0) (sym f.is) ∙ none)
          fresh);
    }

-- where all were put there
pub all_put : {B : Type 0} (state : B → State) (all done left : List (ℕ × B)) (shelf : ShelfState)
    → Filling state all done left shelf → length left ≡ 0 → done ≡ all
all_put state all done left shelf f none =
    sym (f.parts ∙ ap (λ os. done ++ os) (nil_from_length left none) ∙ append-nil done)

-- where the next one is refused
pub is_unfit : {B : Type 0} (state : B → State) (all done left rest : List (ℕ × B)) (o : ℕ × B) (shelf : ShelfState)
    (e : ShelfError) →
    Filling state all done left shelf → left ≡ o ∷ rest → IsAddRefusal (kind_at shelf.objects o.0) (state o.1) e
    → IsUnfit (states_of state all) e
is_unfit state all done left rest o shelf e f is refused = record {
  before = states_of state done;
  object = (o.0, state o.1);
  behind = states_of state rest;
  parts =
      ap (states_of state) (f.parts ∙ ap (λ os. done ++ os) is)
      ∙ map-append (λ (o : ℕ × _). (o.0, state o.1)) done (o ∷ rest);
  stand = f.stand;
  refused = subst (λ (s : ShelfState). IsAddRefusal (kind_at s.objects o.0) (state o.1) e) f.is refused;
}

-- shelves for the first of all replicas, and the objects of those that are still to come
pub record Shelved {B : Type 0} (state : B → State) (all done left : List (Vec (ℕ × B))) (shelves : List ShelfState) :
    Type 0 where
  pub parts : all ≡ done ++ left
  pub are : shelves ≡ map new_shelf (all_states_of state done)
  pub stand : All CanStand (all_states_of state done)

pub none_shelved : {B : Type 0} (state : B → State) (all left : List (Vec (ℕ × B))) (shelves : List ShelfState)
    → left ≡ all → shelves ≡ [] → Shelved state all [] left shelves
none_shelved state all left shelves whole new = record { parts = sym whole; are = new; stand = All-nil CanStand }

all_states-push : {B : Type 0} (state : B → State) (done : List (Vec (ℕ × B))) (v : Vec (ℕ × B))
    → all_states_of state (done ++ v ∷ []) ≡ all_states_of state done ++ states_of state v.items ∷ []
all_states-push state done v = map-append (λ (objects : Vec (ℕ × _)). states_of state objects.items) done (v ∷ [])

-- where the next replica has its shelf
pub one_shelved : {B : Type 0} (state : B → State) (all done left rest : List (Vec (ℕ × B))) (v : Vec (ℕ × B))
    (shelves shelves_after : List ShelfState) (shelf : ShelfState) →
    Shelved state all done left shelves → left ≡ v ∷ rest → shelf ≡ new_shelf (states_of state v.items)
    → CanStand (states_of state v.items) →
    shelves_after ≡ shelves ++ shelf ∷ [] → Shelved state all (done ++ v ∷ []) rest shelves_after
one_shelved state all done left rest v shelves shelves_after shelf f is made can pushed =
    let next = all_states-push state done v in
    record {
      parts = f.parts ∙ ap (λ os. done ++ os) is ∙ sym (append_assoc done (v ∷ []) rest);
      are =
          pushed ∙ ap (λ ss. ss ++ shelf ∷ []) f.are ∙ ap (λ s. map new_shelf (all_states_of state done) ++ s ∷ []) made
          ∙ sym (map-append new_shelf (all_states_of state done) (states_of state v.items ∷ []))
          ∙ ap (map new_shelf) (sym next);
      stand =
          subst (All CanStand) (sym next)
          (All-push CanStand (all_states_of state done) (states_of state v.items) f.stand can);
    }

-- where all have theirs
pub all_shelved : {B : Type 0} (state : B → State) (all done left : List (Vec (ℕ × B))) (shelves : List ShelfState)
    → Shelved state all done left shelves → length left ≡ 0 → done ≡ all
all_shelved state all done left shelves f none =
    sym (f.parts ∙ ap (λ os. done ++ os) (nil_from_length left none) ∙ append-nil done)

-- where the next one's objects are refused
pub has_unfit : {B : Type 0} (state : B → State) (all done left rest : List (Vec (ℕ × B))) (v : Vec (ℕ × B))
    (shelves : List ShelfState) (e : ShelfError) →
    Shelved state all done left shelves → left ≡ v ∷ rest → IsUnfit (states_of state v.items) e
    → HasUnfit (all_states_of state all) e
has_unfit state all done left rest v shelves e f is unfit = record {
  before = all_states_of state done;
  objects = states_of state v.items;
  behind = all_states_of state rest;
  parts =
      ap (all_states_of state) (f.parts ∙ ap (λ os. done ++ os) is)
      ∙ map-append (λ (objects : Vec (ℕ × _)). states_of state objects.items) done (v ∷ rest);
  stand = f.stand;
  unfit = unfit;
}

-- what is refused is want of memory, or else an object
pub is_fill_refusal : (all : List (List (ℕ × State))) (e : ShelfError) → (e ≡ Memory) ⊎ HasUnfit all e
    → IsFillRefusal all e
is_fill_refusal all e (inl memory) = subst (IsFillRefusal all) (sym memory) tt
is_fill_refusal all Taken (inr unfit) = unfit
is_fill_refusal all NotFresh (inr unfit) = unfit
is_fill_refusal all Memory (inr unfit) = tt
is_fill_refusal all NoSuchObject (inr unfit) = unfit.unfit.refused
is_fill_refusal all TooManyTags (inr unfit) = unfit.unfit.refused

-- ## Objects that can all stand

-- what holds of each holds of one in the middle
middle : {X : Type 0} (P : X → Type 0) (xs : List X) (y : X) (ys : List X) → All P (xs ++ y ∷ ys) → P y
middle P [] y ys h = All-head P y ys h
middle P (x ∷ xs) y ys h = middle P xs y ys (All-tail P x (xs ++ y ∷ ys) h)

-- the number of one in the middle is free before it
free_before : (before : List (ℕ × State)) (o : ℕ × State) (behind : List (ℕ × State))
    → IsDistinct nat_eq (map (λ o. o.0) (before ++ o ∷ behind)) → kind_at (kinds before) o.0 ≡ None
unfolding IsDistinct
free_before [] o behind apart = refl
free_before (p ∷ before) o behind apart =
    ap (λ b. cond b (Some (kind_of p.1)) (kind_at (kinds before) o.0))
    (nat_eq_equiv.symm o.0 p.0 ∙ other before (apart.0)) ∙ free_before before o behind apart.1
  where
    other : (os : List (ℕ × State)) → AllByRecursion (λ n. nat_eq p.0 n ≡ false) (map (λ o. o.0) (os ++ o ∷ behind))
        → nat_eq p.0 o.0 ≡ false
    other [] h = h.0
    other (q ∷ os) h = other os h.1

-- none of them is refused for what it is
none_unfit : (objects : List (ℕ × State)) (e : ShelfError) → CanStand objects → IsUnfit objects e → e ≡ Memory
none_unfit objects e can unfit = by e free fresh unfit.refused
  where
    same : CanStand (unfit.before ++ unfit.object ∷ unfit.behind)
    same = subst CanStand unfit.parts can

    free : kind_at (kinds unfit.before) unfit.object.0 ≡ None
    free = free_before unfit.before unfit.object unfit.behind same.apart

    fresh : IsFresh unfit.object.1
    fresh = middle (λ o. IsFresh o.1) unfit.before unfit.object unfit.behind same.fresh

    by : (e : ShelfError) → kind_at (kinds unfit.before) unfit.object.0 ≡ None → IsFresh unfit.object.1
        → IsAddRefusal (kind_at (kinds unfit.before) unfit.object.0) unfit.object.1 e → e ≡ Memory
    by Taken none new r = absurd (true≢false (sym (subst IsSome none r)))
    by NotFresh none new r = absurd (r.1 new)
    by Memory none new r = refl
    by NoSuchObject none new r = absurd r
    by TooManyTags none new r = absurd r

-- so memory alone may be refused
pub only_memory : (all : List (List (ℕ × State))) (e : ShelfError) → All CanStand all → IsFillRefusal all e → e ≡ Memory
only_memory all Memory can r = refl
only_memory all Taken can r =
    none_unfit r.objects Taken (middle CanStand r.before r.objects r.behind (subst (All CanStand) r.parts can)) r.unfit
only_memory all NotFresh can r =
    none_unfit r.objects NotFresh (middle CanStand r.before r.objects r.behind (subst (All CanStand) r.parts can)) r.unfit
only_memory all NoSuchObject can r = absurd r
only_memory all TooManyTags can r = absurd r

-- the program's objects can
pub standard_stand : CanStand standard_objects
unfolding IsDistinct
standard_stand = record {
  apart = ((refl, (refl, tt)), ((refl, tt), (tt, tt)));
  fresh = All-from_recursion (λ o. IsFresh o.1) standard_objects (refl, (refl, (refl, tt)));
}
