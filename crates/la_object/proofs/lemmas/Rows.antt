-- What a shelf's objects have beside those of one's own: they observe tags, answer some queries in place, and have
-- room.
use Rattle.std.proofs.Common.{◌≡◌, ℕ, ◌+◌, ◌≤◌, ◌==◌, nat_eq, Bool, false, List, [], ◌∷◌, ◌++◌, length, take, fold, Some, ap, sym, ◌∙◌, subst, arith}
use Rattle.std.specs.List.{All, slice_get}
use Rattle.std.specs.Map.{lookup}
use Rattle.std.specs.Option.{option_map, IsSomeAnd}
use Rattle.std.proofs.lemmas.Option.{slice_get_within, get_or_from_slice_get}
use Rattle.std.proofs.lemmas.List.{length-take}
use Rattle.std.proofs.lemmas.List.Elements.{All-weaker, All-cons, All-filter, All-head, All-tail, All-take, All-push}
use Rattle.std.proofs.lemmas.List.Sorted.{All-permutation, IsPermutation-middle, IsPermutation-sym}
use Rattle.la_set.specs.declared.update.Update.{Update}
use Rattle.la_set.specs.Histories.{Histories, updates, IsNext, push}
use Rattle.la_set.specs.Deltas.{AreNext}
use Rattle.la_shelf.specs.Shelves.{IsObject}
use Rattle.la_shelf.proofs.lemmas.NewUpdates.{length-filter-le}
use Rattle.la_shelf.proofs.lemmas.Views.{push-IsInserted}
use Rattle.la_shelf.proofs.lemmas.Rows as shelf
use Rattle.la_object.specs.declared.kind.Kind.{Kind}
use Rattle.la_object.specs.declared.query.Query.{Query}
use Rattle.la_object.specs.declared.state.State.{State}
use Rattle.la_object.specs.Objects.{meaning, steps, start, kind_of, HasRoom, of_object, tags_of, tags_by, answers_a_list}
use Rattle.la_object.specs.Shelves.{kinds, HaveRoom, IsSmall, IsClosedShelf, kind_at, updates_at, tags_at}
use Rattle.la_object.proofs.Replies.{steps-HasRoom, tags-steps}
use Rattle.la_object.proofs.lemmas.Lawful.{lawful, ascending-view}

-- the rows of a list of objects
abbrev pub rows : {B : Type 0} → (B → State) → List (ℕ × B) → List (ℕ × State)
rows f es = shelf.rows meaning lawful f es

pub rows-push : {B : Type 0} (f : B → State) (es : List (ℕ × B)) (k : ℕ) (v : B)
    → rows f (es ++ (k, v) ∷ []) ≡ rows f es ++ (k, f v) ∷ []
rows-push f es k v = shelf.rows-push meaning lawful f es k v

pub kinds-push : (ss : List (ℕ × State)) (k : ℕ) (t : State)
    → kinds (ss ++ (k, t) ∷ []) ≡ kinds ss ++ (k, kind_of t) ∷ []
kinds-push ss k t = shelf.kinds-push meaning lawful ss k t

-- ## The object that is looked up

module _ {B : Type 0} (view : Histories) (f : B → State) (k : ℕ) (es : List (ℕ × B)) (v : B)
    (all : All (IsObject meaning view) (rows f es)) (found : lookup (nat_eq k) es ≡ Some v) where
  found_kind : kind_at (kinds (rows f es)) k ≡ Some (kind_of (f v))
  found_kind = shelf.found_kind meaning lawful view f k es v all found

  pub lookup-tags : (x : ℕ) → tags_at (record { view = view; objects = kinds (rows f es) }) k x ≡ Some (tags_of (f v) x)
  lookup-tags x =
      ap (option_map (λ kind. tags_by kind (updates_at view k) x)) found_kind
      ∙ ap Some
      (sym
      (ap (λ s. tags_of s x) (shelf.lookup-agree meaning lawful view f k es v all found)
      ∙ tags-steps (kind_of (f v)) (updates_at view k) x (ascending-view view k)))

  pub lookup-listing : (query : Query)
      → IsSomeAnd (kind_at (kinds (rows f es)) k) (λ kind. answers_a_list kind query ≡ false)
      → answers_a_list (kind_of (f v)) query ≡ false
  lookup-listing query none = subst (λ o. IsSomeAnd o (λ kind. answers_a_list kind query ≡ false)) found_kind none

-- ## Small numbers in the updates

pub small-push : (view : Histories) (u : Update) → IsNext view u.id → IsSmall u → All IsSmall (updates view)
    → All IsSmall (updates (push view u))
small-push view u next one all =
    let put = push-IsInserted view u next in
    subst (All IsSmall) (sym put.new)
    (All-permutation IsSmall (u ∷ (put.before ++ put.later)) (put.before ++ u ∷ put.later)
    (IsPermutation-sym _ _ (IsPermutation-middle put.before u put.later))
    (All-cons IsSmall u (put.before ++ put.later) one (subst (All IsSmall) put.old all)))

pub small-run : (view : Histories) (us : List Update) → AreNext view us → All IsSmall us → All IsSmall (updates view)
    → All IsSmall (updates (fold push view us))
small-run view [] next small all = all
small-run view (u ∷ us) next small all =
    small-run (push view u) us next.1 (All-tail IsSmall u us small)
    (small-push view u next.0 (All-head IsSmall u us small) all)

pub small-next : (us : List Update) (n : ℕ) (u : Update) → slice_get us n ≡ Some u → IsSmall u → All IsSmall (take n us)
    → All IsSmall (take (n + 1) us)
small-next us n u e one all =
    subst (All IsSmall) (sym (shelf.take_one_more meaning lawful us n u e)) (All-push IsSmall (take n us) u all one)

-- ## Room

pub taken-HasRoom : (view : Histories) (kind : Kind) (k n : ℕ) → All IsSmall (updates view)
    → length (updates view) ≤ 8000000 → HasRoom (steps (start kind) (of_object k (take n (updates view))))
taken-HasRoom view kind k n small few =
    let own : Update → Bool = λ u. u.object == k in
    steps-HasRoom kind (of_object k (take n (updates view)))
    (All-filter own IsSmall (take n (updates view)) (All-take IsSmall n (updates view) small))
    (omega (arith, few, length-filter-le own (take n (updates view)), length-take n (updates view)))

-- the objects of a shelf have room
pub shelf-HaveRoom : (view : Histories) (ss : List (ℕ × State)) → IsClosedShelf view ss
    → length (updates view) ≤ 8000000
    → HaveRoom ss
shelf-HaveRoom view ss keeps few = All-weaker (IsObject meaning view) (λ p. HasRoom p.1) (λ p is.
    let own : Update → Bool = λ u. u.object == p.0 in
    subst HasRoom (sym is)
    (steps-HasRoom (kind_of p.1) (of_object p.0 (updates view)) (All-filter own IsSmall (updates view) keeps.small)
    (omega (arith, few, length-filter-le own (updates view))))) ss keeps.objects.agree

pub row-HasRoom : (ss : List (ℕ × State)) (i k : ℕ) (t : State) → HaveRoom ss → slice_get ss i ≡ Some (k, t) → HasRoom t
row-HasRoom ss i k t room at =
    subst (λ (p : ℕ × State). HasRoom p.1) (get_or_from_slice_get ss i (k, t) (k, t) at)
    (room i (k, t) (slice_get_within ss i (k, t) at))
