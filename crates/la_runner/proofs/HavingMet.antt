-- A member that has met a note.
use Rattle.std.proofs.Common.{◌≡◌, inl, inr, ℕ, zero, suc, ◌≤◌, arith, true, List, [], ◌∷◌, length, map, Option, Some, None, refl, ap, ap₂, sym, ◌∙◌, subst}
use Rattle.std.specs.Prelude.{IfSome}
use Rattle.std.specs.List.{slice_get, slice_set, slice_index_or}
use mathlib.Core.List.{IsPrefix}
use Rattle.la_set.specs.Histories.{Histories}
use Rattle.la_set.specs.Inclusion.{IsSubset, AreComparable, larger_of}
use Rattle.la_set.proofs.lemmas.Theorems.{subset-refl}
use Rattle.la_acceptor.specs.declared.reply.Reply.TheVariants.{Yes}
use Rattle.la_proposer.specs.ProposerState.{ProposerState}
use Rattle.la_proposer.specs.Inputs.{all_submitted}
use Rattle.la_shared.specs.History.{HasYes}
use Rattle.la_shared.specs.Passes.{Known, ToldPass}
use Rattle.la_shared.proofs.lemmas.Theorems.{has-prefix, prefix_self}
use Rattle.la_runner.specs.declared.instance.Instance.{Instance}
use Rattle.la_runner.specs.declared.member.Member.TheInside.{Inside}
use Rattle.la_runner.specs.declared.note.MemberNote.TheInside as notes
use Rattle.la_runner.specs.Certificates.{passes_seen_at, mine_at, OfMajority}
use Rattle.la_runner.specs.Fields.{stands_for, note_stands_for}
use Rattle.la_runner.specs.Following.{acceptors_of}
use Rattle.la_runner.specs.Instances.{InstanceState, state_of, IsLearntSet, IsInstance, InstanceSteps}
use Rattle.la_runner.specs.Invariant.{IsMember}
use Rattle.la_runner.specs.Members.{MemberState, GroupState, passes_of, submitted_of, member_submitted, instance_learnt, member_learnt, instance_view, member_view, acceptors_in, IsOfGroup, MemberGoesOn}
use Rattle.la_runner.specs.Notes.{told_names, notes_told_at, told_of, Meets, AllMeet, NoteState, IsNote, IsNoteOf, doings, HasMetNote}
use Rattle.la_runner.specs.Rounds.{IsLarger}
use Rattle.la_runner.specs.Sound.{IsView, IsPassAt}
use Rattle.la_runner.proofs.Certified.{certificates_compare}
use Rattle.la_runner.proofs.Going.{follows_refl, view_stays}
use Rattle.la_runner.proofs.Keeping.{item_at, long_map, get_map, map_set, with_instance, stays_member, goes_on, goes_on_then, each_instance, participant_same, participants_beside, there}
use Rattle.la_runner.proofs.Passing.{map-set_other, on_refl}
use Rattle.la_runner.proofs.Proposing.{of_after}
use Rattle.la_runner.proofs.Stepping.{if_some_on, learnt_on}
use Rattle.la_runner.proofs.Viewing.{is_larger_set, empty_within}

-- a map that each item keeps
map_each : {A B : Type 0} (f : A → B) (xs ys : List A) → length ys ≡ length xs
    → ((i : ℕ) (x y : A) → slice_get xs i ≡ Some x → slice_get ys i ≡ Some y → f y ≡ f x) → map f ys ≡ map f xs
map_each f [] [] e each = refl
map_each f [] (y ∷ ys) e each = absurd (omega arith)
map_each f (x ∷ xs) [] e each = absurd (omega arith)
map_each f (x ∷ xs) (y ∷ ys) e each =
    ap₂ (λ z l. z ∷ l) (each zero x y refl refl) (map_each f xs ys (omega arith) (λ i. each (suc i)))

-- items at one place of two lists of one length
there_too : {A B : Type 0} (xs : List A) (ys : List B) (i : ℕ) (y : B) → length ys ≡ length xs → slice_get ys i ≡ Some y
    → (x : A) × (slice_get xs i ≡ Some x)
there_too xs [] i y e at = absurd (cc)
there_too [] (z ∷ ys) i y e at = absurd (omega arith)
there_too (x ∷ xs) (z ∷ ys) zero y e at = (x, refl)
there_too (x ∷ xs) (z ∷ ys) (suc i) y e at = there_too xs ys i y (omega arith) at

-- ## One instance

pub meets_instance : (t : List ToldPass) (x y : InstanceState) → IsInstance x → Meets t x y → IsInstance y
meets_instance t x y is m = record {
  sound = m.sound;
  view =
      subst (λ (z : ProposerState × Histories). IsView z.0.votes y.passes z.1) (λ i. (sym m.proposer i, sym m.view i))
      (view_stays x.proposer.votes x.passes y.passes x.view m.goes is.view);
  learnt =
      subst (λ (z : ProposerState × Option Histories). IfSome z.1 (IsLearntSet z.0 y.passes))
      (λ i. (sym m.proposer i, sym m.learnt i))
      (if_some_on (IsLearntSet x.proposer x.passes) (IsLearntSet x.proposer y.passes) x.learnt
      (λ s.
      learnt_on x.proposer x.proposer x.passes y.passes s refl refl (prefix_self (all_submitted x.proposer))
      m.goes.mine) is.learnt);
  cap = subst (λ (p : ProposerState). 1 ≤ p.cap) (sym m.proposer) is.cap;
  under_way =
      subst (λ (z : ProposerState × Option Histories). z.1 ≡ None → 1 ≤ length (all_submitted z.0) → z.0.is_asking ≡ true)
      (λ i. (sym m.proposer i, sym m.learnt i)) is.under_way;
}

-- two sets, each of which may be a view
views_compare : (votes : List ℕ) (ps : List Known) (v w : Histories) → ((a : ℕ) → IsPassAt (slice_get ps a))
    → IsView votes ps v → IsView votes ps w → AreComparable v w
views_compare votes ps v w are (inl e) d = inl (subst (λ z. IsSubset z w) (sym e) (empty_within w))
views_compare votes ps v w are (inr c) (inl e) = inr (subst (λ z. IsSubset z v) (sym e) (empty_within v))
views_compare votes ps v w are (inr c) (inr d) = certificates_compare votes ps v w are c d

-- ## All of them

module _ (m : MemberState) (is : IsMember m) (n : NoteState) (note : IsNote n) (votes : n.votes ≡ m.votes)
    (ys : List InstanceState) (all : AllMeet n.told m.instances ys) (told_long : length m.instances ≡ length n.told) where
  -- the passes have met, the view not yet
  abbrev pub mid : MemberState
  mid = record m { instances = ys }

  record MetAt (i : ℕ) (y : InstanceState) : Type 0 where
    x : InstanceState
    t : List ToldPass
    was : slice_get m.instances i ≡ Some x
    told : slice_get n.told i ≡ Some t
    meets : Meets t x y

  met_at : (i : ℕ) (y : InstanceState) → slice_get ys i ≡ Some y → MetAt i y
  met_at i y e =
      let one = there_too m.instances ys i y all.sizes e in
      let two = there_too n.told m.instances i one.0 told_long one.1 in
      record { x = one.0; t = two.0; was = one.1; told = two.1; meets = all.each i two.0 one.0 y two.1 one.1 e }

  -- a fact of each instance, or of none
  each_met : (R : Option InstanceState → Option InstanceState → Option (List ToldPass) → Type 0)
      → ((t : List ToldPass) (x y : InstanceState) → Meets t x y → R (Some x) (Some y) (Some t)) → R None None None → (i : ℕ)
      → R (slice_get m.instances i) (slice_get ys i) (slice_get n.told i)
  each_met R here none i = go (slice_get ys i) refl
    where
      gone : slice_get ys i ≡ None → (o : Option InstanceState) → slice_get m.instances i ≡ o → o ≡ None
      gone e None f = refl
      gone e (Some x) f = absurd (let w = there_too ys m.instances i x (sym all.sizes) f in none_some (sym e ∙ w.1))
        where
          none_some : {A : Type 0} {a : A} → None ≡ Some a → ⊥
          none_some e = cc

      gone_told : slice_get m.instances i ≡ None → (o : Option (List ToldPass)) → slice_get n.told i ≡ o → o ≡ None
      gone_told e None f = refl
      gone_told e (Some x) f =
          absurd (let w = there_too m.instances n.told i x (sym told_long) f in none_some (sym e ∙ w.1))
        where
          none_some : {A : Type 0} {a : A} → None ≡ Some a → ⊥
          none_some e = cc

      go : (o : Option InstanceState) → slice_get ys i ≡ o
          → R (slice_get m.instances i) (slice_get ys i) (slice_get n.told i)
      go None e =
          let was = gone e (slice_get m.instances i) refl in
          subst (λ (z : Option InstanceState × Option InstanceState × Option (List ToldPass)). R z.0 z.1 z.2)
          (λ k. (sym was k, sym e k, sym (gone_told was (slice_get n.told i) refl) k)) none
      go (Some y) e =
          let at = met_at i y e in
          subst (λ (z : Option InstanceState × Option InstanceState × Option (List ToldPass)). R z.0 z.1 z.2)
          (λ k. (sym at.was k, sym e k, sym at.told k)) (here at.t at.x y at.meets)

  same_submitted : (i : ℕ) → member_submitted mid i ≡ member_submitted m i
  same_submitted i = each_met (λ o q t. submitted_of q ≡ submitted_of o) (λ t x y m. ap all_submitted m.proposer) refl i

  same_learnt : (i : ℕ) → member_learnt mid i ≡ member_learnt m i
  same_learnt i = each_met (λ o q t. instance_learnt q ≡ instance_learnt o) (λ t x y m. m.learnt) refl i

  pub same_view : member_view mid ≡ member_view m
  same_view = each_met (λ o q t. instance_view q ≡ instance_view o) (λ t x y m. m.view) refl 0

  pub mid_member : IsMember mid
  mid_member = record {
    some = subst (λ k. 1 ≤ k) (sym all.sizes) is.some;
    most = subst (λ k. k ≤ 33) (sym all.sizes) is.most;
    few = is.few;
    each = λ i y e.
        let at = met_at i y e in
        let was = is.each i at.x at.was in (
          meets_instance at.t at.x y was.0 at.meets,
          ap (λ (p : ProposerState). p.votes) at.meets.proposer ∙ was.1,
          ap (λ (p : ProposerState). p.own) at.meets.proposer ∙ was.2,
        );
    participant = λ k. participant_same m mid k refl same_submitted same_learnt (is.participant k);
  }

  same_prefix : {A : Type 0} (l r : List A) → r ≡ l → IsPrefix l r
  same_prefix l r e = subst (IsPrefix l) (sym e) (prefix_self l)

  pub mid_goes_on : MemberGoesOn m mid
  mid_goes_on = record {
    votes = refl;
    replica = refl;
    acceptors =
        map_each (λ (z : InstanceState). acceptors_of z.passes) m.instances ys all.sizes
        (λ i x y at now.
        (all.each i (there_too n.told m.instances i x told_long at).0 x y
        (there_too n.told m.instances i x told_long at).1 at now).goes.acceptors);
    seen =
        λ i a.
        each_met (λ o q t. IsPrefix (passes_seen_at (passes_of o) a) (passes_seen_at (passes_of q) a)) (λ t x y m. m.goes.seen a)
        (prefix_self (passes_seen_at [] a)) i;
    mine =
        λ i a.
        each_met (λ o q t. IsPrefix (mine_at (passes_of o) a) (mine_at (passes_of q) a)) (λ t x y m. m.goes.mine a)
        (prefix_self (mine_at [] a)) i;
    submitted = λ i. same_prefix (member_submitted m i) (member_submitted mid i) (same_submitted i);
    grows = subst (IsSubset (member_view m)) (sym same_view) (subset-refl (member_view m));
  }

  told_nothing : (a : ℕ) → notes_told_at [] a ≡ []
  unfolding notes_told_at
  told_nothing a = refl

  pub mid_told : (i a : ℕ)
      → IsPrefix (notes_told_at (told_of (slice_get n.told i)) a) (passes_seen_at (passes_of (slice_get ys i)) a)
  mid_told i a =
      each_met (λ o q t. IsPrefix (notes_told_at (told_of t) a) (passes_seen_at (passes_of q) a)) (λ t x z m. m.told a)
      (subst (λ l. IsPrefix l (passes_seen_at [] a)) (sym (told_nothing a)) (passes_seen_at [] a, refl)) i

  pub mid_doings : doings mid ≡ doings m
  mid_doings =
      map_each (λ (z : InstanceState). (z.proposer, z.learnt)) m.instances ys all.sizes
      (λ i x z was now.
      let t = there_too n.told m.instances i x told_long was in
      let e = all.each i t.0 x z t.1 was now in λ k. (e.proposer k, e.learnt k))

  -- ## The view

  module _ (y : InstanceState) (at : slice_get ys 0 ≡ Some y) where
    first : MetAt 0 y
    first = met_at 0 y at

    votes_are : y.proposer.votes ≡ m.votes
    votes_are = (mid_member.each 0 y at).1

    -- the note's view is certified in what was met
    told_view : IsView y.proposer.votes y.passes n.view
    told_view = elim note [
      | inl e ↦ inl e
      | inr c ↦ inr (subst (λ vs. OfMajority vs (λ a. HasYes (passes_seen_at y.passes a) n.view)) (votes ∙ sym votes_are)
          (c.0, c.1, λ a q. has-prefix (notes_told_at (told_of (slice_get n.told 0)) a) (passes_seen_at y.passes a) n.view Yes (subst (λ o. IsPrefix (notes_told_at (told_of o) a) (passes_seen_at y.passes a)) (sym first.told) (first.meets.told a)) (c.2 a q)))
    ]

    pub comparable_views : AreComparable y.view n.view
    comparable_views =
        views_compare y.proposer.votes y.passes y.view n.view first.meets.sound.are (mid_member.each 0 y at).0.view
        told_view

    module _ (w : Histories) (larger : IsLarger n.view y.view w) where
      abbrev pub now : InstanceState
      now = record y { view = w }

      now_view : IsView y.proposer.votes y.passes w
      now_view = elim larger.one [
        | inl e ↦ subst (IsView y.proposer.votes y.passes) (sym e) (mid_member.each 0 y at).0.view
        | inr e ↦ subst (IsView y.proposer.votes y.passes) (sym e) told_view
      ]

      steps : InstanceSteps y now
      steps = let was = (mid_member.each 0 y at).0 in record {
        is = record { sound = was.sound; view = now_view; learnt = was.learnt; cap = was.cap; under_way = was.under_way };
        follows = follows_refl y.proposer y.passes y.passes (on_refl y.passes);
        submitted = prefix_self (all_submitted y.proposer);
        grows = larger.grows;
      }

      pub met_member : IsMember (with_instance mid 0 now)
      met_member = stays_member mid 0 y now at steps mid_member (participants_beside mid now mid_member.participant)

      pub met_goes_on : MemberGoesOn m (with_instance mid 0 now)
      met_goes_on = goes_on_then m mid (with_instance mid 0 now) mid_goes_on (goes_on mid 0 y now at steps)

      passes_now : (i : ℕ) → passes_of (slice_get (slice_set ys 0 now) i) ≡ passes_of (slice_get ys i)
      passes_now i = each_instance mid 0 y now at (λ o q. passes_of q ≡ passes_of o) refl (λ o. refl) i

      pub has_met : HasMetNote n m (with_instance mid 0 now)
      has_met = record {
        told =
            λ i a.
            subst (λ l. IsPrefix (notes_told_at (told_of (slice_get n.told i)) a) (passes_seen_at l a)) (sym (passes_now i))
            (mid_told i a);
        mine =
            λ i a.
            ap (λ l. mine_at l a) (passes_now i)
            ∙ each_met (λ o q t. mine_at (passes_of q) a ≡ mine_at (passes_of o) a) (λ t x z m. m.mine a) refl i;
        same = map-set_other (λ (z : InstanceState). (z.proposer, z.learnt)) ys 0 y now at refl ∙ mid_doings;
        view =
            subst (λ (z : Histories × Histories). IsLarger n.view z.0 z.1)
            (λ k. ((sym (ap instance_view at) ∙ same_view) k, sym (ap instance_view (there mid 0 y now at)) k)) larger;
      }

-- ## By what the code knows

module _ (m : Inside) (n : MemberState) (same : stands_for m ≡ n) (is : IsMember (stands_for m)) (note : notes.Inside)
    (told : NoteState) (told_is : note_stands_for note ≡ told) (holds : IsNote (note_stands_for note))
    (group : GroupState) (of : IsOfGroup group n) (note_of : IsNoteOf group told) (ys : List Instance)
    (all : AllMeet (map (λ n. n.notes.items) note.told.items) (map state_of m.instances.items) (map state_of ys)) where
  votes_same : (note_stands_for note).votes ≡ (stands_for m).votes
  votes_same =
      ap (λ (z : NoteState). z.votes) told_is ∙ note_of.votes ∙ sym of.votes
      ∙ sym (ap (λ (z : MemberState). z.votes) same)

  as_long : length (map state_of m.instances.items) ≡ length (note_stands_for note).told
  as_long =
      sym (long_map (λ (z : InstanceState). acceptors_of z.passes) (map state_of m.instances.items))
      ∙ ap length (ap acceptors_in same ∙ of.acceptors ∙ sym note_of.acceptors) ∙ long_map told_names told.told
      ∙ sym (ap (λ (z : NoteState). length z.told) told_is)

  module _ (y : Instance) (y_is : y ≡ slice_index_or ys 0 y) where
    here : slice_get (map state_of ys) 0 ≡ Some (state_of y)
    here =
        get_map state_of ys 0 y
        (item_at ys 0 y
        (let some = is.some in
        let sizes = all.sizes in let long = long_map state_of ys in omega (arith, some, sizes, long)) y_is)

    pub comparable_here : AreComparable y.view note.view
    comparable_here =
        comparable_views (stands_for m) is (note_stands_for note) holds votes_same (map state_of ys) all as_long
        (state_of y) here

    module _ (now : Instance) (w : Histories) (now_is : state_of now ≡ record (state_of y) { view = w })
        (larger : w ≡ larger_of y.view note.view) (grows : IsSubset y.view w) (has : IsSubset note.view w) where
      is_larger : IsLarger note.view y.view w
      is_larger = is_larger_set y.view note.view w larger grows has

      abbrev after : MemberState
      after = record (stands_for m) { instances = map state_of (slice_set ys 0 now) }

      after_is : after
          ≡ with_instance (record (stands_for m) { instances = map state_of ys }) 0 (record (state_of y) { view = w })
      after_is =
          ap (λ l. record (stands_for m) { instances = l })
          (map_set state_of ys 0 now ∙ ap (slice_set (map state_of ys) 0) now_is)

      pub member_met : IsMember (record (stands_for m) { instances = map state_of (slice_set ys 0 now) })
      member_met =
          subst IsMember (sym after_is)
          (met_member (stands_for m) is (note_stands_for note) holds votes_same (map state_of ys) all as_long
          (state_of y) here w is_larger)

      pub goes_on_met : MemberGoesOn n (record (stands_for m) { instances = map state_of (slice_set ys 0 now) })
      goes_on_met =
          subst (λ (z : MemberState × MemberState). MemberGoesOn z.0 z.1) (λ k. (same k, sym after_is k))
          (met_goes_on (stands_for m) is (note_stands_for note) holds votes_same (map state_of ys) all as_long
          (state_of y) here w is_larger)

      pub of_met : IsOfGroup group (record (stands_for m) { instances = map state_of (slice_set ys 0 now) })
      of_met = of_after group n (record (stands_for m) { instances = map state_of (slice_set ys 0 now) }) of goes_on_met

      pub has_met_now : HasMetNote told n (record (stands_for m) { instances = map state_of (slice_set ys 0 now) })
      has_met_now =
          subst (λ (z : NoteState × MemberState × MemberState). HasMetNote z.0 z.1 z.2)
          (λ k. (told_is k, same k, sym after_is k))
          (has_met (stands_for m) is (note_stands_for note) holds votes_same (map state_of ys) all as_long (state_of y)
          here w is_larger)
