-- Only the operations of an object's own kind on the object itself count.
use Rattle.std.proofs.Common.{◌≡◌, ℕ, max, Bool, true, false, true≢false, cond, ◌+◌, ◌||◌, List, [], ◌∷◌, fold, filter, map as list_map, Option, Some, None, refl, ap, sym, ◌∙◌, subst, arith, inl, inr}
use Rattle.std.specs.Prelude.{pos, ◌-ℤ◌}
use Rattle.std.specs.List.{sum_by, list_any, filter_map, cons_option}
use Rattle.std.specs.Option.{option_map}
use Rattle.std.specs.Ordering.{eq_by_cmp}
use Rattle.std.specs.FinMap as map
use Rattle.std.proofs.lemmas.Bool.{cases_Bool}
use Rattle.std.proofs.lemmas.List.Sums.{sum_by-cons}
use Rattle.la_set.specs.declared.update.UpdateId.{UpdateId}
use Rattle.la_set.specs.declared.update.Op.{Op}
use Rattle.la_set.specs.declared.update.Op.TheVariants.{Inc, Dec, Raise, Put, Remove, Mark, Vote}
use Rattle.la_set.specs.declared.update.Update.{Update}
use Rattle.la_object.specs.declared.kind.Kind.{Kind}
use Rattle.la_object.specs.declared.kind.Kind.TheVariants.{Counter as CounterKind, MaxRegister, OrSet}
use Rattle.la_object.specs.declared.query.Query.{Query}
use Rattle.la_object.specs.declared.query.Query.TheVariants.{Total, AtLeast, Largest, Has, Size, Items}
use Rattle.la_object.specs.declared.query.Answer.TheVariants.{Total as TotalIs, Reached, Largest as LargestIs, Has as HasIs, Size as SizeIs, Items as ItemsAre}
use Rattle.la_object.specs.declared.state.State.{State}
use Rattle.la_object.specs.declared.state.State.TheVariants.{Counter, Max, Set}
use Rattle.la_object.specs.IdOrder.{id_cmp}
use Rattle.la_object.specs.Counter.{counts, increment, decrement, total, reaches}
use Rattle.la_object.specs.MaxRegister.{raises, raised}
use Rattle.la_object.specs.OrSet.{puts_or_removes, element, named, is_removed, live, present, element_set, is_element, live_tags, with_element, with_ids}
use Rattle.la_shelf.specs.Shelves.{state_by}
use Rattle.la_object.specs.Objects.{meaning, value, tags_by, is_of_kind, is_of_some_kind, kind_of, start, after, steps}
use Rattle.la_object.specs.Shelves.{ShelfState, kind_at, updates_at, operations_at, answer_at, tags_at, state_at}
use Rattle.la_object.proofs.lemmas.IdMaps.{with_ids-nil}
use Rattle.la_object.proofs.Replies.{kind_of-after}
use Rattle.la_object.proofs.lemmas.Lawful.{kind_of-start}

-- ## What a kind takes from the operations of others

no_increment : (op : Op) → counts op ≡ false → increment op ≡ 0
no_increment (Inc n) e = absurd (true≢false e)
no_increment (Dec n) e = refl
no_increment (Raise n) e = refl
no_increment (Put x) e = refl
no_increment (Remove ids) e = refl
no_increment Mark e = refl
no_increment (Vote v s) e = refl

no_decrement : (op : Op) → counts op ≡ false → decrement op ≡ 0
no_decrement (Inc n) e = refl
no_decrement (Dec n) e = absurd (true≢false e)
no_decrement (Raise n) e = refl
no_decrement (Put x) e = refl
no_decrement (Remove ids) e = refl
no_decrement Mark e = refl
no_decrement (Vote v s) e = refl

no_raise : (op : Op) → raises op ≡ false → raised op ≡ 0
no_raise (Inc n) e = refl
no_raise (Dec n) e = refl
no_raise (Raise n) e = absurd (true≢false e)
no_raise (Put x) e = refl
no_raise (Remove ids) e = refl
no_raise Mark e = refl
no_raise (Vote v s) e = refl

no_element : (op : Op) → puts_or_removes op ≡ false → element op ≡ None
no_element (Inc n) e = refl
no_element (Dec n) e = refl
no_element (Raise n) e = refl
no_element (Put x) e = absurd (true≢false e)
no_element (Remove ids) e = refl
no_element Mark e = refl
no_element (Vote v s) e = refl

no_names : (op : Op) → puts_or_removes op ≡ false → named op ≡ []
no_names (Inc n) e = refl
no_names (Dec n) e = refl
no_names (Raise n) e = refl
no_names (Put x) e = refl
no_names (Remove ids) e = absurd (true≢false e)
no_names Mark e = refl
no_names (Vote v s) e = refl

-- ## Updates that are left out

module _ (keeps : Update → Bool) where
  sum-kept : (f : Update → ℕ) → ((u : Update) → keeps u ≡ false → f u ≡ 0) → (us : List Update)
      → sum_by f (filter keeps us) ≡ sum_by f us
  sum-kept f none [] = refl
  sum-kept f none (u ∷ us) = elim (cases_Bool (keeps u)) [
    | inl is ↦ ap (λ b. sum_by f (cond b (u ∷ filter keeps us) (filter keeps us))) is
        ∙ omega (arith, sum_by-cons f u (filter keeps us), sum_by-cons f u us, sum-kept f none us)
    | inr not ↦ ap (λ b. sum_by f (cond b (u ∷ filter keeps us) (filter keeps us))) not
        ∙ omega (arith, sum_by-cons f u us, none u not, sum-kept f none us)
  ]

  largest-kept : ((u : Update) → keeps u ≡ false → raised u.op ≡ 0) → (a : ℕ) (us : List Update)
      → fold (λ m u. max m (raised u.op)) a (filter keeps us) ≡ fold (λ m u. max m (raised u.op)) a us
  largest-kept none a [] = refl
  largest-kept none a (u ∷ us) = elim (cases_Bool (keeps u)) [
    | inl is ↦ ap (λ b. fold (λ m (v : Update). max m (raised v.op)) a (cond b (u ∷ filter keeps us) (filter keeps us)))
        is ∙ largest-kept none (max a (raised u.op)) us
    | inr not ↦ ap (λ b. fold (λ m (v : Update). max m (raised v.op)) a
        (cond b (u ∷ filter keeps us) (filter keeps us))) not ∙ largest-kept none a us
        ∙ ap (λ n. fold (λ m (v : Update). max m (raised v.op)) n us) {x = a} {y = max a (raised u.op)}
        (omega (arith, none u not))
  ]

  removed-kept : ((u : Update) → keeps u ≡ false → named u.op ≡ []) → (id : UpdateId) (us : List Update)
      → is_removed (filter keeps us) id ≡ is_removed us id
  removed-kept none id [] = refl
  removed-kept none id (u ∷ us) = elim (cases_Bool (keeps u)) [
    | inl is ↦ ap (λ b. is_removed (cond b (u ∷ filter keeps us) (filter keeps us)) id) is
        ∙ ap (λ b. list_any (eq_by_cmp id_cmp id) (named u.op) || b) (removed-kept none id us)
    | inr not ↦ ap (λ b. is_removed (cond b (u ∷ filter keeps us) (filter keeps us)) id) not ∙ removed-kept none id us
        ∙ ap (λ ids. list_any (eq_by_cmp id_cmp id) ids || is_removed us id) (sym (none u not))
  ]

  read-kept : (f : Update → Option ℕ) → ((u : Update) → keeps u ≡ false → f u ≡ None) → (us : List Update)
      → filter_map f (filter keeps us) ≡ filter_map f us
  read-kept f none [] = refl
  read-kept f none (u ∷ us) = elim (cases_Bool (keeps u)) [
    | inl is ↦ ap (λ b. filter_map f (cond b (u ∷ filter keeps us) (filter keeps us))) is
        ∙ ap (cons_option (f u)) (read-kept f none us)
    | inr not ↦ ap (λ b. filter_map f (cond b (u ∷ filter keeps us) (filter keeps us))) not ∙ read-kept f none us
        ∙ ap (λ o. cons_option o (filter_map f us)) (sym (none u not))
  ]

  ids-kept : (p : Update → Bool) → ((u : Update) → keeps u ≡ false → p u ≡ false) → (us : List Update)
      → filter p (filter keeps us) ≡ filter p us
  ids-kept p none [] = refl
  ids-kept p none (u ∷ us) = elim (cases_Bool (keeps u)) [
    | inl is ↦ ap (λ b. filter p (cond b (u ∷ filter keeps us) (filter keeps us))) is
        ∙ ap (λ vs. cond (p u) (u ∷ vs) vs) (ids-kept p none us)
    | inr not ↦ ap (λ b. filter p (cond b (u ∷ filter keeps us) (filter keeps us))) not ∙ ids-kept p none us
        ∙ ap (λ b. cond b (u ∷ filter p us) (filter p us)) (sym (none u not))
  ]

  module _ (puts : (u : Update) → keeps u ≡ false → element u.op ≡ None)
      (names : (u : Update) → keeps u ≡ false → named u.op ≡ []) (us : List Update) where
    live-kept : (u : Update) → live (filter keeps us) u ≡ live us u
    live-kept u = ap (λ b. cond b None (element u.op)) (removed-kept names u.id us)

    live-none : (u : Update) → keeps u ≡ false → live us u ≡ None
    live-none u not =
        ap (λ o. cond (is_removed us u.id) None o) (puts u not)
        ∙ elim (is_removed us u.id) as (λ b. cond {A = Option ℕ} b None None ≡ None) [ true ↦ refl | false ↦ refl ]

    present-kept : present (filter keeps us) ≡ present us
    present-kept =
        (λ i. element_set (filter_map (λ u. live-kept u i) (filter keeps us)))
        ∙ ap element_set (read-kept (live us) live-none us)

    tags-kept : (x : ℕ) → live_tags (filter keeps us) x ≡ live_tags us x
    tags-kept x =
        (λ i. list_map (λ (u : Update). u.id) (filter (λ u. is_element x (live-kept u i)) (filter keeps us)))
        ∙ ap (list_map (λ (u : Update). u.id))
        (ids-kept (λ u. is_element x (live us u)) (λ u not. ap (is_element x) (live-none u not)) us)

-- an update is left out only where its operation is of another kind
abbrev pub LeavesOutOthers : Kind → (Update → Bool) → Type 0
LeavesOutOthers kind keeps = (u : Update) → keeps u ≡ false → is_of_kind kind u.op ≡ false

pub value-kept : (kind : Kind) (keeps : Update → Bool) → LeavesOutOthers kind keeps → (us : List Update) (query : Query)
    → value kind (filter keeps us) query ≡ value kind us query
value-kept CounterKind keeps others us Total =
    λ i.
    TotalIs
    (pos (sum-kept keeps (λ u. increment u.op) (λ u not. no_increment u.op (others u not)) us i) -ℤ pos
    (sum-kept keeps (λ u. decrement u.op) (λ u not. no_decrement u.op (others u not)) us i))
value-kept CounterKind keeps others us (AtLeast bound) =
    λ i.
    Reached
    (reaches
    (total (sum-kept keeps (λ u. increment u.op) (λ u not. no_increment u.op (others u not)) us i)
    (sum-kept keeps (λ u. decrement u.op) (λ u not. no_decrement u.op (others u not)) us i)) bound)
value-kept CounterKind keeps others us Largest = refl
value-kept CounterKind keeps others us (Has x) = refl
value-kept CounterKind keeps others us Size = refl
value-kept CounterKind keeps others us Items = refl
value-kept MaxRegister keeps others us Total = refl
value-kept MaxRegister keeps others us (AtLeast bound) = refl
value-kept MaxRegister keeps others us Largest =
    ap LargestIs (largest-kept keeps (λ u not. no_raise u.op (others u not)) 0 us)
value-kept MaxRegister keeps others us (Has x) = refl
value-kept MaxRegister keeps others us Size = refl
value-kept MaxRegister keeps others us Items = refl
value-kept OrSet keeps others us Total = refl
value-kept OrSet keeps others us (AtLeast bound) = refl
value-kept OrSet keeps others us Largest = refl
value-kept OrSet keeps others us (Has x) =
    ap (λ s. HasIs (map.contains_key s x))
    (present-kept keeps (λ u not. no_element u.op (others u not)) (λ u not. no_names u.op (others u not)) us)
value-kept OrSet keeps others us Size =
    ap (λ s. SizeIs (map.len s))
    (present-kept keeps (λ u not. no_element u.op (others u not)) (λ u not. no_names u.op (others u not)) us)
value-kept OrSet keeps others us Items =
    ap (λ s. ItemsAre (map.keys s))
    (present-kept keeps (λ u not. no_element u.op (others u not)) (λ u not. no_names u.op (others u not)) us)

pub tags_by-kept : (kind : Kind) (keeps : Update → Bool) → LeavesOutOthers kind keeps → (us : List Update) (x : ℕ)
    → tags_by kind (filter keeps us) x ≡ tags_by kind us x
tags_by-kept CounterKind keeps others us x = refl
tags_by-kept MaxRegister keeps others us x = refl
tags_by-kept OrSet keeps others us x =
    tags-kept keeps (λ u not. no_element u.op (others u not)) (λ u not. no_names u.op (others u not)) us x

-- a Mark or a Vote is of no kind
pub of_no_kind : (kind : Kind) (op : Op) → is_of_some_kind op ≡ false → is_of_kind kind op ≡ false
of_no_kind CounterKind Mark e = refl
of_no_kind MaxRegister Mark e = refl
of_no_kind OrSet Mark e = refl
of_no_kind CounterKind (Vote v s) e = refl
of_no_kind MaxRegister (Vote v s) e = refl
of_no_kind OrSet (Vote v s) e = refl
of_no_kind kind (Inc n) e = absurd (true≢false e)
of_no_kind kind (Dec n) e = absurd (true≢false e)
of_no_kind kind (Raise n) e = absurd (true≢false e)
of_no_kind kind (Put x) e = absurd (true≢false e)
of_no_kind kind (Remove ids) e = absurd (true≢false e)

-- ## The state

changes_nothing : (s : State) (u : Update) → is_of_kind (kind_of s) u.op ≡ false → after s u ≡ s
changes_nothing (Counter up down) u other =
    λ i.
    Counter (same up (increment u.op) (no_increment u.op other) i)
    (same down (decrement u.op) (no_decrement u.op other) i)
  where
    same : (a n : ℕ) → n ≡ 0 → a + n ≡ a
    same a n e = omega (arith, e)
changes_nothing (Max most) u other = ap Max {x = max most (raised u.op)} {y = most} (omega (arith, no_raise u.op other))
changes_nothing (Set adds gone) u other =
    (λ i. Set (with_element adds u.id (no_element u.op other i)) (with_ids gone (no_names u.op other i)))
    ∙ ap (Set adds) (with_ids-nil gone)

pub steps-kept : (keeps : Update → Bool) (s : State) → LeavesOutOthers (kind_of s) keeps → (us : List Update)
    → steps s (filter keeps us) ≡ steps s us
steps-kept keeps s others [] = refl
steps-kept keeps s others (u ∷ us) = elim (cases_Bool (keeps u)) [
  | inl is ↦ ap (λ b. steps s (cond b (u ∷ filter keeps us) (filter keeps us))) is
      ∙ steps-kept keeps (after s u) (subst (λ kind. LeavesOutOthers kind keeps) (sym (kind_of-after s u)) others) us
  | inr not ↦ ap (λ b. steps s (cond b (u ∷ filter keeps us) (filter keeps us))) not ∙ steps-kept keeps s others us
      ∙ ap (λ t. steps t us) (sym (changes_nothing s u (others u not)))
]

-- ## A shelf's object, by the operations of its kind on it

module _ (s : ShelfState) (number : ℕ) (kind : Kind) (here : kind_at s.objects number ≡ Some kind) where
  pub answer-own : (query : Query)
      → answer_at s number query ≡ Some (value kind (operations_at s.view number kind) query)
  answer-own query =
      ap (option_map (λ k. value k (updates_at s.view number) query)) here
      ∙ ap Some (sym (value-kept kind (λ u. is_of_kind kind u.op) (λ u not. not) (updates_at s.view number) query))

  pub tags-own : (x : ℕ) → tags_at s number x ≡ Some (tags_by kind (operations_at s.view number kind) x)
  tags-own x =
      ap (option_map (λ k. tags_by k (updates_at s.view number) x)) here
      ∙ ap Some (sym (tags_by-kept kind (λ u. is_of_kind kind u.op) (λ u not. not) (updates_at s.view number) x))

  pub state-own : state_at s number ≡ Some (steps (start kind) (operations_at s.view number kind))
  state-own =
      ap (option_map (state_by meaning s.view number)) here
      ∙ ap Some
      (sym
      (steps-kept (λ u. is_of_kind kind u.op) (start kind)
      (subst (λ k. LeavesOutOthers k (λ u. is_of_kind kind u.op)) (sym (kind_of-start kind)) (λ u not. not))
      (updates_at s.view number)))
