-- A member that sees, pass by pass, what another one has.
use Rattle.std.proofs.Common.{◌≡◌, inl, inr, ℕ, ◌+◌, ◌<◌, ◌≤◌, arith, List, length, map, Some, refl, ap, sym, ◌∙◌, subst}
use Rattle.std.proofs.lemmas.Bool.{cases_eq, cases_lt}
use Rattle.std.proofs.lemmas.Option.{slice_get_within}
use Rattle.std.proofs.lemmas.List.{length-set}
use Rattle.std.specs.List.{slice_get, slice_set, slice_index_or}
use mathlib.Core.List.{IsPrefix}
use Rattle.la_set.specs.Histories.{Histories, empty}
use Rattle.la_shared.specs.Passes.{Known, ToldPass, AcceptorName, IsPass}
use Rattle.la_runner.specs.declared.group.Row.{Row}
use Rattle.la_runner.specs.declared.instance.Instance.{Instance}
use Rattle.la_runner.specs.declared.member.Member.TheInside.{Inside}
use Rattle.la_runner.specs.Certificates.{seen_of, passes_seen_at, mine_at}
use Rattle.la_runner.specs.Fields.{stands_for}
use Rattle.la_runner.specs.Following.{acceptors_of}
use Rattle.la_runner.specs.Instances.{InstanceState, state_of}
use Rattle.la_runner.specs.Invariant.{IsMember}
use Rattle.la_runner.specs.Members.{MemberState, GroupState, passes_in, acceptors_in, IsOfGroup}
use Rattle.la_runner.specs.Notes.{pass_told, told_of, notes_told_at, Meets, AllMeet, NoteState}
use Rattle.la_runner.specs.Sound.{IsSound, IsPassAt}
use Rattle.la_runner.specs.Together.{HasSeen, SeesMore}
use Rattle.la_runner.proofs.Going.{sound_grown}
use Rattle.la_runner.proofs.HavingMet.{mid_member, mid_goes_on, mid_doings, mid_told, same_view}
use Rattle.la_runner.proofs.Keeping.{item_at, long_map, get_map, map_set}
use Rattle.la_runner.proofs.Meeting.{grown_trans, told_past, acceptor_there, long_names, pass_grown, pass_mine, pass_seen}
use Rattle.la_runner.proofs.Passing.{Grown, on_refl, prefix_trans, get-set_same, get-set_other, map-set_other}
use Rattle.la_runner.proofs.Proposing.{some_same}
use Rattle.la_runner.proofs.Telling.{tells_of, told_of_instance, told_is_seen, names_known, acceptors_there, as_many_rows}

-- ## One instance

-- so many of the passes have seen what is told
pub record Showing (s : Histories) (told : List ToldPass) (ps : List Known) (at : ℕ) (qs : List Known) : Type 0 where
  pub on : Grown s ps qs
  pub mine : (a : ℕ) → mine_at qs a ≡ mine_at ps a
  pub done : (a : ℕ) → a < at → IsPrefix (notes_told_at told a) (passes_seen_at qs a)

pub none_shown : (s : Histories) (told : List ToldPass) (ps : List Known) → ((a : ℕ) → IsPassAt (slice_get ps a))
    → Showing s told ps 0 ps
none_shown s told ps are = record {
  on = record { sizes = refl; on = on_refl ps; are = are; offered = λ a t r e. inl e };
  mine = λ a. refl;
  done = λ a lt. absurd (omega (arith, lt));
}

module _ (s : Histories) (told : List ToldPass) (ps : List Known) (at : ℕ) (qs : List Known) (k w : Known)
    (m : Showing s told ps at qs) (here : slice_get qs at ≡ Some k) (is : IsPass w) (same_one : w.acceptor ≡ k.acceptor)
    (seen : IsPrefix k.seen w.seen) (mine : w.mine ≡ k.mine) (heard : IsPrefix (notes_told_at told at) w.seen) where
  step : Grown s qs (slice_set qs at w)
  step = pass_grown s qs at k w here is same_one seen mine m.on.are

  done_now : (a : ℕ) → a < at + 1 → IsPrefix (notes_told_at told a) (passes_seen_at (slice_set qs at w) a)
  done_now a lt = elim (cases_eq a at) [
    | inl e ↦ subst (λ b. IsPrefix (notes_told_at told b) (passes_seen_at (slice_set qs at w) b)) (sym e)
        (subst (IsPrefix (notes_told_at told at)) (sym (pass_seen s qs at k w here is same_one seen mine m.on.are)) heard)
    | inr ne ↦ prefix_trans (notes_told_at told a) (passes_seen_at qs a) (passes_seen_at (slice_set qs at w) a) (m.done a (omega (arith, lt, ne))) (step.on.seen a)
  ]

  one_shown : Showing s told ps (at + 1) (slice_set qs at w)
  one_shown = record {
    on = grown_trans s ps qs (slice_set qs at w) m.on step;
    mine = λ a. pass_mine s qs at k w here is same_one seen mine m.on.are a ∙ m.mine a;
    done = done_now;
  }

seen_there : (ps : List Known) (a : ℕ) (k : Known) → slice_get ps a ≡ Some k → passes_seen_at ps a ≡ k.seen
unfolding passes_seen_at
seen_there ps a k e = ap seen_of e

-- by what the code knows: the pass that tells, the one that is told, and their acceptor
module _ (s : Histories) (js ps : List Known) (names : List AcceptorName) (at : ℕ) (qs : List Known)
    (tells : acceptors_of js ≡ names) (ours : acceptors_of ps ≡ names) (lt : at < length names)
    (m : Showing s (map pass_told js) ps at qs) (k : Known) (a : AcceptorName) (k_is : k ≡ slice_index_or qs at k)
    (a_is : a ≡ slice_index_or names at a) where
  within : at < length qs
  within =
      let n = ap length ours in
      let l = long_names (λ (z : Known). z.acceptor) ps in let z = m.on.sizes in omega (arith, n, l, z, lt)

  there : slice_get qs at ≡ Some k
  there = item_at qs at k within k_is

  pub names_pass : k.acceptor ≡ a
  names_pass =
      sym (acceptor_there qs at k a there (a_is ∙ ap (λ l. slice_index_or l at a) (sym (m.on.on.acceptors ∙ ours))))

  pub shown_next : (j w : Known) → slice_get js at ≡ Some j → IsPass w → w.acceptor ≡ a → IsPrefix k.seen w.seen
      → w.mine ≡ k.mine → IsPrefix j.seen w.seen → Showing s (map pass_told js) ps (at + 1) (slice_set qs at w)
  shown_next j w told is of seen mine heard =
      one_shown s (map pass_told js) ps at qs k w m there is (of ∙ sym names_pass) seen mine
      (subst (λ l. IsPrefix l w.seen) (sym (told_is_seen js at ∙ seen_there js at j told)) heard)

pub all_shown : (s : Histories) (told : List ToldPass) (ps : List Known) (at : ℕ) (qs : List Known)
    → Showing s told ps at qs → length told ≤ at → (a : ℕ) → IsPrefix (notes_told_at told a) (passes_seen_at qs a)
unfolding notes_told_at
all_shown s told ps at qs m whole a = elim (cases_lt a at) [
  | inl lt ↦ m.done a lt
  | inr past ↦ subst (λ l. IsPrefix l (passes_seen_at qs a)) (sym (told_past told a (omega (arith, whole, past)))) (passes_seen_at qs a, refl)
]

pub shown_meets : (x y : InstanceState) (js : List Known) (at : ℕ) → IsSound x.proposer x.passes
    → Showing x.proposer.updates (map pass_told js) x.passes at y.passes → length js ≤ at → y.proposer ≡ x.proposer
    → y.learnt ≡ x.learnt → y.view ≡ x.view → Meets (map pass_told js) x y
shown_meets x y js at sound m whole proposer learnt view = record {
  sound = subst (λ p. IsSound p y.passes) (sym proposer) (sound_grown x.proposer x.passes y.passes sound m.on);
  goes = m.on.on;
  mine = m.mine;
  told =
      all_shown x.proposer.updates (map pass_told js) x.passes at y.passes m
      (let l = long_map pass_told js in omega (arith, l, whole));
  proposer = proposer;
  learnt = learnt;
  view = view;
}

-- ## All instances

pub record ShowingAll (told : List (List ToldPass)) (xs : List InstanceState) (at : ℕ) (ys : List InstanceState) : Type 0
  where
    pub sizes : length ys ≡ length xs
    pub after : (i : ℕ) → at ≤ i → slice_get ys i ≡ slice_get xs i
    pub done :
        (i : ℕ) (t : List ToldPass) (x y : InstanceState) → i < at → slice_get told i ≡ Some t
        → slice_get xs i ≡ Some x → slice_get ys i ≡ Some y → Meets t x y

pub none_of_all : (told : List (List ToldPass)) (xs : List InstanceState) → ShowingAll told xs 0 xs
none_of_all told xs = record { sizes = refl; after = λ i le. refl; done = λ i t x y lt. absurd (omega (arith, lt)) }

module _ (told : List (List ToldPass)) (xs : List InstanceState) (at : ℕ) (ys : List InstanceState)
    (m : ShowingAll told xs at ys) (n : List ToldPass) (x y : InstanceState) (told_here : slice_get told at ≡ Some n)
    (here : slice_get ys at ≡ Some x) (meets : Meets n x y) where
  one_more : ShowingAll told xs (at + 1) (slice_set ys at y)
  one_more = record {
    sizes = length-set ys at y ∙ m.sizes;
    after = λ i le. get-set_other ys at i y (λ e. omega (arith, le, e)) ∙ m.after i (omega (arith, le));
    done = λ i t u v lt te ue ve. elim (cases_eq i at) [
      | inl e ↦
          let one : n ≡ t = some_same (sym told_here ∙ ap (slice_get told) (sym e) ∙ te) in
          let two : x ≡ u = some_same (sym here ∙ m.after at (omega arith) ∙ ap (slice_get xs) (sym e) ∙ ue) in
          let three : y ≡ v =
          some_same
          (sym (get-set_same ys at y (slice_get_within ys at x here)) ∙ ap (slice_get (slice_set ys at y)) (sym e)
          ∙ ve) in
          subst (λ (z : List ToldPass × InstanceState × InstanceState). Meets z.0 z.1 z.2) (λ k. (one k, two k, three k))
          meets
      | inr ne ↦ m.done i t u v (omega (arith, lt, ne)) te ue (sym (get-set_other ys at i y ne) ∙ ve)
    ];
  }

abbrev pub told_of_all : List Instance → List (List ToldPass)
told_of_all xs = map (λ x. map pass_told x.passes.items) xs

-- by what the code knows: the instances and the row at a place
module _ (rows : List Row) (froms tos : List Instance)
    (names : map (λ x. acceptors_of x.passes.items) froms ≡ map (λ r. r.acceptors.items) rows)
    (their : map (λ x. acceptors_of x.passes.items) tos ≡ map (λ r. r.acceptors.items) rows) (at : ℕ)
    (from to : List Instance) (same : map state_of from ≡ map state_of froms)
    (m : ShowingAll (told_of_all froms) (map state_of tos) at (map state_of to)) (lt : at < length rows) (x y : Instance)
    (r : Row) (x_is : x ≡ slice_index_or from at x) (y_is : y ≡ slice_index_or to at y)
    (r_is : r ≡ slice_index_or rows at r) where
  from_there : slice_get from at ≡ Some x
  from_there =
      item_at from at x
      (let a = long_map state_of from in
      let b = ap length same in
      let c = as_many_rows (map state_of froms) rows (names_known froms rows names) in omega (arith, a, b, c, lt)) x_is

  to_there : slice_get to at ≡ Some y
  to_there =
      item_at to at y
      (let a = long_map state_of to in
      let b = m.sizes in
      let c = as_many_rows (map state_of tos) rows (names_known tos rows their) in omega (arith, a, b, c, lt)) y_is

  was : slice_get (map state_of tos) at ≡ Some (state_of y)
  was = sym (m.after at (omega arith)) ∙ get_map state_of to at y to_there

  tells : slice_get (map state_of froms) at ≡ Some (state_of x)
  tells = ap (λ l. slice_get l at) (sym same) ∙ get_map state_of from at x from_there

  pub from_names : acceptors_of x.passes.items ≡ r.acceptors.items
  from_names =
      acceptors_there (map state_of froms) rows (names_known froms rows names) at (state_of x) r tells
      (item_at rows at r lt r_is)

  pub to_names : acceptors_of y.passes.items ≡ r.acceptors.items
  to_names =
      acceptors_there (map state_of tos) rows (names_known tos rows their) at (state_of y) r was
      (item_at rows at r lt r_is)

  pub to_sound : ((i : ℕ) (z : InstanceState) → slice_get (map state_of tos) i ≡ Some z → IsSound z.proposer z.passes)
      → IsSound y.proposer y.passes.items
  to_sound each = each at (state_of y) was

  told_there : slice_get (told_of_all froms) at ≡ Some (map pass_told x.passes.items)
  told_there =
      ap (λ l. slice_get l at) (tells_of froms)
      ∙ get_map (λ (z : InstanceState). map pass_told z.passes) (map state_of froms) at (state_of x) tells

  pub from_after : (z : Instance) → state_of z ≡ state_of x → map state_of (slice_set from at z) ≡ map state_of froms
  from_after z e = map-set_other state_of from at x z from_there e ∙ same

  pub next_shown : (w : Instance) → Meets (map pass_told x.passes.items) (state_of y) (state_of w)
      → ShowingAll (told_of_all froms) (map state_of tos) (at + 1) (map state_of (slice_set to at w))
  next_shown w meets =
      subst (ShowingAll (told_of_all froms) (map state_of tos) (at + 1)) (sym (map_set state_of to at w))
      (one_more (told_of_all froms) (map state_of tos) at (map state_of to) m (map pass_told x.passes.items) (state_of y)
      (state_of w) told_there (get_map state_of to at y to_there) meets)

pub all_instances : (rows : List Row) (froms tos : List Instance) (at : ℕ) (to : List Instance)
    → map (λ x. acceptors_of x.passes.items) froms ≡ map (λ r. r.acceptors.items) rows → at ≡ length rows
    → ShowingAll (told_of_all froms) (map state_of tos) at (map state_of to)
    → AllMeet (told_of_all froms) (map state_of tos) (map state_of to)
all_instances rows froms tos at to names end m = record {
  sizes = m.sizes;
  each = λ i t x y te. m.done i t x y (
      let lt = slice_get_within (told_of_all froms) i t te in
      let a = long_map (λ (x : Instance). map pass_told x.passes.items) froms in
      let b = long_map state_of froms in
      let c = as_many_rows (map state_of froms) rows (names_known froms rows names) in
      omega (arith, lt, a, b, c, end)) te;
}

-- ## Members

module _ (group : GroupState) (f m : Inside) (from to : MemberState) (from_is : stands_for f ≡ from)
    (to_is : stands_for m ≡ to) (is : IsMember (stands_for m)) (of_from : IsOfGroup group from) (of_to : IsOfGroup group to)
    (ys : List Instance)
    (all : AllMeet (told_of_all f.instances.items) (map state_of m.instances.items) (map state_of ys)) where
  abbrev told : NoteState
  told = record { votes = (stands_for m).votes; giver = 0; told = told_of_all f.instances.items; view = empty }

  as_long : length (stands_for m).instances ≡ length (told_of_all f.instances.items)
  as_long =
      let a = long_map (λ (z : InstanceState). acceptors_of z.passes) (stands_for m).instances in
      let b = long_map (λ (z : InstanceState). acceptors_of z.passes) (stands_for f).instances in
      let c =
      ap length (ap acceptors_in to_is ∙ of_to.acceptors ∙ sym of_from.acceptors ∙ sym (ap acceptors_in from_is)) in
      let d = long_map state_of f.instances.items in
      let e = long_map (λ (x : Instance). map pass_told x.passes.items) f.instances.items in
      omega (arith, a, b, c, d, e)

  abbrev after : MemberState
  after = record (stands_for m) { instances = map state_of ys }

  pub shown_member : IsMember (record (stands_for m) { instances = map state_of ys })
  shown_member = mid_member (stands_for m) is told (inl refl) refl (map state_of ys) all as_long

  pub shown_more : SeesMore to (record (stands_for m) { instances = map state_of ys })
  shown_more = subst (λ z. SeesMore z after) to_is (record {
    is = shown_member;
    goes = mid_goes_on (stands_for m) is told (inl refl) refl (map state_of ys) all as_long;
    same = mid_doings (stands_for m) is told (inl refl) refl (map state_of ys) all as_long;
    kept = same_view (stands_for m) is told (inl refl) refl (map state_of ys) all as_long;
  })

  told_seen : (i a : ℕ)
      → notes_told_at (told_of (slice_get (told_of_all f.instances.items) i)) a ≡ passes_seen_at (passes_in from i) a
  told_seen i a = ap (λ l. notes_told_at (told_of (slice_get l i)) a) (tells_of f.instances.items)
      ∙ ap (λ l. notes_told_at l a) (told_of_instance (map state_of f.instances.items) i)
      ∙ told_is_seen (passes_in (stands_for f) i) a
      ∙ ap (λ z. passes_seen_at (passes_in z i) a) from_is

  pub shown_seen : HasSeen from (record (stands_for m) { instances = map state_of ys })
  shown_seen = record {
    votes = ap (λ (z : MemberState). z.votes) to_is ∙ of_to.votes ∙ sym of_from.votes;
    sees =
        λ i a.
        subst (λ l. IsPrefix l (passes_seen_at (passes_in after i) a)) (told_seen i a)
        (mid_told (stands_for m) is told (inl refl) refl (map state_of ys) all as_long i a);
  }
