-- What a member tells of all instances, and what it takes in.
use Rattle.std.proofs.Common.{◌≡◌, inl, inr, ℕ, zero, suc, ◌+◌, ◌<◌, ◌≤◌, arith, List, [], ◌∷◌, ◌++◌, length, map, take, Some, refl, ap, ap₂, sym, ◌∙◌, subst, length-append, append_assoc}
use Rattle.std.specs.List.{slice_get, slice_set, slice_index_or}
use Rattle.std.proofs.lemmas.Bool.{cases_eq}
use Rattle.std.proofs.lemmas.Option.{slice_get_within}
use Rattle.std.proofs.lemmas.List.{length-set}
use mathlib.Core.List.{IsPrefix}
use Rattle.la_set.specs.Histories.{Histories}
use Rattle.la_shared.specs.History.{HasYes}
use Rattle.la_shared.specs.Passes.{Known, ToldPass, AcceptorName}
use Rattle.la_shared.proofs.lemmas.Theorems.{prefix_self}
use Rattle.la_runner.specs.declared.group.Row.{Row}
use Rattle.la_runner.specs.declared.instance.Instance.{Instance}
use Rattle.la_runner.specs.declared.note.InstanceNote.{InstanceNote}
use Rattle.la_proposer.specs.Majority.{votes_of}
use Rattle.la_runner.specs.declared.member.Member.TheInside.{Inside}
use Rattle.la_runner.specs.declared.note.MemberNote.TheInside as notes
use Rattle.la_runner.specs.Certificates.{seen_of, passes_seen_at, OfMajority}
use Rattle.la_runner.specs.Fields.{stands_for, note_stands_for}
use Rattle.la_runner.specs.Following.{acceptors_of}
use Rattle.la_runner.specs.Instances.{InstanceState, state_of}
use Rattle.la_runner.specs.Invariant.{IsMember}
use Rattle.la_runner.specs.Members.{MemberState, GroupState, passes_of, passes_in, member_view, acceptors_in, IsOfGroup}
use Rattle.la_runner.specs.Notes.{pass_told, told_names, told_seen, notes_told_at, told_of, note_told_in, Meets, AllMeet, NoteState, IsNote, IsNoteOf, TellsNote}
use Rattle.la_runner.proofs.Standing.{view_is}
use Rattle.la_runner.specs.Sound.{IsSound}
use Rattle.la_runner.proofs.Certified.{of_majority}
use Rattle.la_runner.proofs.Fresh.{map_push, take_more}
use Rattle.la_runner.proofs.Keeping.{item_at, long_map, get_map, map_set}
use Rattle.la_runner.proofs.Passing.{get-set_same, get-set_other, map-set_other}

-- ## What is told

abbrev pub tell : InstanceState → List ToldPass
tell x = map pass_told x.passes

-- so many of the instances are told
pub record Telling (states : List InstanceState) (at : ℕ) (xs : List Instance) (notes : List InstanceNote) : Type 0
  where
    pub same : map state_of xs ≡ states
    pub told : map (λ n. n.notes.items) notes ≡ take at (map tell states)

pub tells_of : (xs : List Instance) → map (λ x. map pass_told x.passes.items) xs ≡ map tell (map state_of xs)
tells_of [] = refl
tells_of (x ∷ xs) = ap (λ l. map pass_told x.passes.items ∷ l) (tells_of xs)

names_of : (xs : List Instance)
    → map (λ x. acceptors_of x.passes.items) xs ≡ map (λ z. acceptors_of z.passes) (map state_of xs)
names_of [] = refl
names_of (x ∷ xs) = ap (λ l. acceptors_of x.passes.items ∷ l) (names_of xs)

some_is : {A : Type 0} {a b : A} → Some a ≡ Some b → a ≡ b
some_is e = cc

module _ (states : List InstanceState) (rows : List Row)
    (names : map (λ z. acceptors_of z.passes) states ≡ map (λ r. r.acceptors.items) rows) where
  pub as_many_rows : length states ≡ length rows
  as_many_rows =
      sym (long_map (λ (z : InstanceState). acceptors_of z.passes) states) ∙ ap length names
      ∙ long_map (λ (r : Row). r.acceptors.items) rows

  -- the instance at a row, and its acceptors
  pub acceptors_there : (i : ℕ) (z : InstanceState) (r : Row) → slice_get states i ≡ Some z → slice_get rows i ≡ Some r
      → acceptors_of z.passes ≡ r.acceptors.items
  acceptors_there i z r at row =
      some_is
      (sym (get_map (λ (z : InstanceState). acceptors_of z.passes) states i z at) ∙ ap (λ l. slice_get l i) names
      ∙ get_map (λ (r : Row). r.acceptors.items) rows i r row)

  module _ (at : ℕ) (xs : List Instance) (notes : List InstanceNote) (t : Telling states at xs notes) (x : Instance)
      (here : slice_get xs at ≡ Some x) where
    state_here : slice_get states at ≡ Some (state_of x)
    state_here = ap (λ l. slice_get l at) (sym t.same) ∙ get_map state_of xs at x here

    pub same_after : (y : Instance) → state_of y ≡ state_of x → map state_of (slice_set xs at y) ≡ states
    same_after y same = map-set_other state_of xs at x y here same ∙ t.same

    pub told_more : (y : Instance) (n : InstanceNote) → state_of y ≡ state_of x
        → n.notes.items ≡ map pass_told x.passes.items → Telling states (at + 1) (slice_set xs at y) (notes ++ n ∷ [])
    told_more y n same told = record {
      same = same_after y same;
      told =
          map_push (λ (n : InstanceNote). n.notes.items) notes n ∙ (λ i. t.told i ++ told i ∷ [])
          ∙ sym
          (ap (λ k. take k (map tell states)) (next at)
          ∙ take_more (map tell states) at (tell (state_of x)) (get_map tell states at (state_of x) state_here));
    }
      where
        next : (k : ℕ) → k + 1 ≡ suc k
        next k = omega arith

pub take_whole : {A : Type 0} (xs : List A) (n : ℕ) → length xs ≡ n → take n xs ≡ xs
take_whole [] zero e = refl
take_whole [] (suc n) e = refl
take_whole (x ∷ xs) zero e = absurd (omega arith)
take_whole (x ∷ xs) (suc n) e = ap (λ ys. x ∷ ys) (take_whole xs n (omega arith))

pub names_known : (xs : List Instance) (rows : List Row)
    → map (λ x. acceptors_of x.passes.items) xs ≡ map (λ r. r.acceptors.items) rows
    → map (λ z. acceptors_of z.passes) (map state_of xs) ≡ map (λ r. r.acceptors.items) rows
names_known xs rows e = sym (names_of xs) ∙ e

-- by what the code knows: the instance and the row at a place
module _ (init : List Instance) (rows : List Row) (at : ℕ) (xs : List Instance) (notes : List InstanceNote)
    (names : map (λ x. acceptors_of x.passes.items) init ≡ map (λ r. r.acceptors.items) rows)
    (t : Telling (map state_of init) at xs notes) (lt : at < length rows) (x : Instance) where
  as_many_now : length xs ≡ length rows
  as_many_now =
      sym (long_map state_of xs) ∙ ap length t.same ∙ as_many_rows (map state_of init) rows (names_known init rows names)

  pub here_now : x ≡ slice_index_or xs at x → slice_get xs at ≡ Some x
  here_now e = item_at xs at x (let n = as_many_now in omega (arith, n, lt)) e

  pub acceptors_now : (r : Row) → x ≡ slice_index_or xs at x → r ≡ slice_index_or rows at r
      → acceptors_of x.passes.items ≡ r.acceptors.items
  acceptors_now r e f =
      acceptors_there (map state_of init) rows (names_known init rows names) at (state_of x) r
      (ap (λ l. slice_get l at) (sym t.same) ∙ get_map state_of xs at x (here_now e)) (item_at rows at r lt f)

pub told_whole : (init xs : List Instance) (rows : List Row) (at : ℕ) (notes : List InstanceNote)
    → map (λ x. acceptors_of x.passes.items) init ≡ map (λ r. r.acceptors.items) rows → at ≡ length rows
    → Telling (map state_of init) at xs notes
    → map (λ n. n.notes.items) notes ≡ map (λ x. map pass_told x.passes.items) init
told_whole init xs rows at notes names end t =
    t.told
    ∙ take_whole (map tell (map state_of init)) at
    (long_map tell (map state_of init) ∙ as_many_rows (map state_of init) rows (names_known init rows names)
    ∙ sym end) ∙ sym (tells_of init)

names_told : (ps : List Known) → told_names (map pass_told ps) ≡ acceptors_of ps
names_told [] = refl
names_told (k ∷ ps) = ap (λ l. k.acceptor ∷ l) (names_told ps)

names_all_told : (xs : List InstanceState) → map told_names (map tell xs) ≡ map (λ x. acceptors_of x.passes) xs
names_all_told [] = refl
names_all_told (x ∷ xs) = ap₂ (λ n l. n ∷ l) (names_told x.passes) (names_all_told xs)

told_seen_of : (ps : List Known) (a : ℕ) → told_seen (slice_get (map pass_told ps) a) ≡ seen_of (slice_get ps a)
told_seen_of [] a = refl
told_seen_of (k ∷ ps) zero = refl
told_seen_of (k ∷ ps) (suc a) = told_seen_of ps a

pub told_is_seen : (ps : List Known) (a : ℕ) → notes_told_at (map pass_told ps) a ≡ passes_seen_at ps a
unfolding notes_told_at passes_seen_at
told_is_seen ps a = told_seen_of ps a

pub told_of_instance : (xs : List InstanceState) (i : ℕ)
    → told_of (slice_get (map tell xs) i) ≡ map pass_told (passes_of (slice_get xs i))
told_of_instance [] i = refl
told_of_instance (x ∷ xs) zero = refl
told_of_instance (x ∷ xs) (suc i) = told_of_instance xs i

-- what is told of an instance's acceptor is what was seen
pub tells_seen : (m : MemberState) (n : NoteState) → TellsNote m n → (i a : ℕ)
    → notes_told_at (note_told_in n i) a ≡ passes_seen_at (passes_in m i) a
tells_seen m n t i a =
    ap (λ l. notes_told_at (told_of (slice_get l i)) a) t.told ∙ ap (λ l. notes_told_at l a) (told_of_instance m.instances i)
    ∙ told_is_seen (passes_in m i) a

-- a note of a member is one
pub note_is : (m : MemberState) (n : NoteState) → IsMember m → TellsNote m n → IsNote n
note_is m n is t = elim (view_is m is) [
  | inl e ↦ inl (t.view ∙ e)
  | inr c ↦ inr (subst (λ (z : List ℕ × Histories). OfMajority z.0 (λ a. HasYes (notes_told_at (note_told_in n 0) a) z.1)) (λ k. (sym t.votes k, sym t.view k))
      (of_majority m.votes (λ a. HasYes (passes_seen_at (passes_in m 0) a) (member_view m)) (λ a. HasYes (notes_told_at (note_told_in n 0) a) (member_view m)) (λ a y. subst (λ l. HasYes l (member_view m)) (sym (tells_seen m n t 0 a)) y) c))
]

pub note_of : (group : GroupState) (m : MemberState) (n : NoteState) → IsOfGroup group m → TellsNote m n → IsNoteOf group n
note_of group m n of t = record { votes = t.votes ∙ of.votes; acceptors = ap (map told_names) t.told ∙ names_all_told m.instances ∙ of.acceptors }

-- by what the code knows
pub names_given : (m : Inside) (n : MemberState) (group : GroupState) (rows : List Row) → stands_for m ≡ n
    → IsOfGroup group n → map (λ r. r.acceptors.items) rows ≡ group.acceptors
    → map (λ x. acceptors_of x.passes.items) m.instances.items ≡ map (λ r. r.acceptors.items) rows
names_given m n group rows same of rows_are =
    names_of m.instances.items ∙ ap acceptors_in same ∙ of.acceptors ∙ sym rows_are

pub tells_now : (m : Inside) (note : notes.Inside) → note.votes ≡ m.votes → note.giver ≡ m.replica
    → map (λ n. n.notes.items) note.told.items ≡ map (λ x. map pass_told x.passes.items) m.instances.items
    → note.view ≡ member_view (stands_for m) → TellsNote (stands_for m) (note_stands_for note)
tells_now m note votes giver told member_view = record { votes = ap votes_of votes; giver = giver; told = told ∙ tells_of m.instances.items; view = member_view }

-- ## What is met

-- these notes are still to be met
pub record MeetingAll (told : List (List ToldPass)) (xs : List InstanceState) (notes : List (List ToldPass))
    (ys : List InstanceState) : Type 0 where
  pub sizes : length ys ≡ length xs
  pub front : IsPrefix notes told
  pub before : (i : ℕ) → i < length notes → slice_get ys i ≡ slice_get xs i
  pub done :
      (i : ℕ) (t : List ToldPass) (x y : InstanceState) → length notes ≤ i → slice_get told i ≡ Some t
      → slice_get xs i ≡ Some x → slice_get ys i ≡ Some y → Meets t x y

past : {A : Type 0} (xs : List A) (i : ℕ) (x : A) → length xs ≤ i → slice_get xs i ≡ Some x → ⊥
past xs i x le e = let lt = slice_get_within xs i x e in omega (arith, le, lt)

pub all_start : (told : List (List ToldPass)) (xs : List InstanceState) → MeetingAll told xs told xs
all_start told xs = record { sizes = refl; front = prefix_self told; before = λ i lt. refl; done = λ i t x y le e. absurd (past told i t le e) }

last_told : (notes rest : List (List ToldPass)) (n : List ToldPass)
    → slice_get ((notes ++ n ∷ []) ++ rest) (length notes) ≡ Some n
last_told [] rest n = refl
last_told (t ∷ notes) rest n = last_told notes rest n

module _ (told : List (List ToldPass)) (xs : List InstanceState) (notes : List (List ToldPass)) (n : List ToldPass)
    (ys : List InstanceState) (m : MeetingAll told xs (notes ++ n ∷ []) ys) (x y : InstanceState)
    (at : slice_get ys (length notes) ≡ Some x) (meets : Meets n x y) where
  more : length (notes ++ n ∷ []) ≡ length notes + 1
  more = length-append notes (n ∷ [])

  told_here : slice_get told (length notes) ≡ Some n
  told_here = ap (λ l. slice_get l (length notes)) (sym m.front.1) ∙ last_told notes m.front.0 n

  was_here : slice_get xs (length notes) ≡ Some x
  was_here = sym (m.before (length notes) (let h = more in omega arith)) ∙ at

  done_now : (i : ℕ) (t : List ToldPass) (u v : InstanceState) → length notes ≤ i → slice_get told i ≡ Some t
      → slice_get xs i ≡ Some u → slice_get (slice_set ys (length notes) y) i ≡ Some v → Meets t u v
  done_now i t u v le te ue ve = elim (cases_eq i (length notes)) [
    | inl e ↦
        let one : n ≡ t = some_is (sym told_here ∙ ap (slice_get told) (sym e) ∙ te) in
        let two : x ≡ u = some_is (sym was_here ∙ ap (slice_get xs) (sym e) ∙ ue) in
        let three : y ≡ v =
        some_is
        (sym (get-set_same ys (length notes) y (slice_get_within ys (length notes) x at))
        ∙ ap (slice_get (slice_set ys (length notes) y)) (sym e) ∙ ve) in
        subst (λ (z : List ToldPass × InstanceState × InstanceState). Meets z.0 z.1 z.2) (λ k. (one k, two k, three k))
        meets
    | inr ne ↦ m.done i t u v (let h = more in omega (arith, ne, le, h)) te ue (sym (get-set_other ys (length notes) i y ne) ∙ ve)
  ]

  all_step : MeetingAll told xs notes (slice_set ys (length notes) y)
  all_step = record {
    sizes = length-set ys (length notes) y ∙ m.sizes;
    front = (n ∷ m.front.0, sym (append_assoc notes (n ∷ []) m.front.0) ∙ m.front.1);
    before =
        λ i lt.
        get-set_other ys (length notes) i y (λ e. let l = lt in omega (arith, l, e))
        ∙ m.before i (let h = more in omega (arith, lt, h));
    done = done_now;
  }

pub all_end : (told : List (List ToldPass)) (xs ys : List InstanceState) → MeetingAll told xs [] ys → AllMeet told xs ys
all_end told xs ys m = record { sizes = m.sizes; each = λ i t x y. m.done i t x y (omega arith) }

abbrev pub told_items : List InstanceNote → List (List ToldPass)
told_items notes = map (λ n. n.notes.items) notes

abbrev pub told_all : List InstanceNote → List (List AcceptorName)
told_all notes = map (λ n. told_names n.notes.items) notes

pub map_map : {A B C : Type 0} (f : A → B) (g : B → C) (xs : List A) → map g (map f xs) ≡ map (λ x. g (f x)) xs
map_map f g [] = refl
map_map f g (x ∷ xs) = ap (λ l. g (f x) ∷ l) (map_map f g xs)

-- ## The same, by what the code knows: the instance, the row and the note at a place

module _ (told : List InstanceNote) (init : List Instance) (rows : List Row) (items : List InstanceNote)
    (left : List InstanceNote) (n : InstanceNote) (xs : List Instance) (x : Instance) (r : Row) (i : ℕ)
    (names : map (λ x. acceptors_of x.passes.items) init ≡ map (λ r. r.acceptors.items) rows)
    (theirs : told_all told ≡ map (λ r. r.acceptors.items) rows)
    (m : MeetingAll (told_items told) (map state_of init) (told_items items) (map state_of xs))
    (items_are : items ≡ left ++ n ∷ []) (i_is : i ≡ length left) (x_is : x ≡ slice_index_or xs i x)
    (r_is : r ≡ slice_index_or rows i r) where
  now : MeetingAll (told_items told) (map state_of init) (told_items left ++ n.notes.items ∷ []) (map state_of xs)
  now =
      subst (λ l. MeetingAll (told_items told) (map state_of init) l (map state_of xs))
      (ap told_items items_are ∙ map_push (λ (n : InstanceNote). n.notes.items) left n) m

  left_long : length (told_items left) ≡ i
  left_long = long_map (λ (n : InstanceNote). n.notes.items) left ∙ sym i_is

  as_many : length xs ≡ length init
  as_many = sym (long_map state_of xs) ∙ m.sizes ∙ long_map state_of init

  told_long : length (told_items told) ≡ length rows
  told_long =
      long_map (λ (n : InstanceNote). n.notes.items) told
      ∙ sym (long_map (λ (n : InstanceNote). told_names n.notes.items) told) ∙ ap length theirs
      ∙ long_map (λ (r : Row). r.acceptors.items) rows

  rows_long : length init ≡ length rows
  rows_long = sym (long_map state_of init) ∙ as_many_rows (map state_of init) rows (names_known init rows names)

  front_long : length (told_items left ++ n.notes.items ∷ []) ≤ length (told_items told)
  front_long =
      let e = ap length now.front.1 in
      let l = length-append (told_items left ++ n.notes.items ∷ []) now.front.0 in omega (arith, e, l)

  pub within_rows : i < length rows
  within_rows =
      let a = length-append (told_items left) (n.notes.items ∷ []) in omega (arith, front_long, a, left_long, told_long)

  pub within_instances : i < length xs
  within_instances = omega (arith, within_rows, as_many, rows_long)

  pub item_here : slice_get xs i ≡ Some x
  item_here = item_at xs i x within_instances x_is

  row_here : slice_get rows i ≡ Some r
  row_here = item_at rows i r within_rows r_is

  was : slice_get (map state_of init) i ≡ Some (state_of x)
  was =
      sym (now.before i (let a = length-append (told_items left) (n.notes.items ∷ []) in omega (arith, a, left_long)))
      ∙ get_map state_of xs i x item_here

  pub sound_here :
      ((j : ℕ) (z : InstanceState) → slice_get (map state_of init) j ≡ Some z → IsSound z.proposer z.passes)
      → IsSound x.proposer x.passes.items
  sound_here each = each i (state_of x) was

  pub names_here : acceptors_of x.passes.items ≡ r.acceptors.items
  names_here = acceptors_there (map state_of init) rows (names_known init rows names) i (state_of x) r was row_here

  told_there : slice_get (told_items told) i ≡ Some n.notes.items
  told_there =
      ap (λ l. slice_get l i) (sym now.front.1)
      ∙ ap (λ k. slice_get ((told_items left ++ n.notes.items ∷ []) ++ now.front.0) k) (sym left_long)
      ∙ last_told (told_items left) now.front.0 n.notes.items

  pub told_names_here : told_names n.notes.items ≡ r.acceptors.items
  told_names_here =
      some_is
      (sym (get_map told_names (told_items told) i n.notes.items told_there)
      ∙ ap (λ l. slice_get l i) (map_map (λ (n : InstanceNote). n.notes.items) told_names told ∙ theirs)
      ∙ get_map (λ (r : Row). r.acceptors.items) rows i r row_here)

  pub met_next : (y : Instance) → Meets n.notes.items (state_of x) (state_of y)
      → MeetingAll (told_items told) (map state_of init) (told_items left) (map state_of (slice_set xs i y))
  met_next y meets =
      subst (MeetingAll (told_items told) (map state_of init) (told_items left))
      (ap (λ k. slice_set (map state_of xs) k (state_of y)) left_long ∙ sym (map_set state_of xs i y))
      (all_step (told_items told) (map state_of init) (told_items left) n.notes.items (map state_of xs) now (state_of x)
      (state_of y) (ap (slice_get (map state_of xs)) left_long ∙ get_map state_of xs i x item_here) meets)
