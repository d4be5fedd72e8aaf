-- A group and its members in which nothing has happened.
use Rattle.std.proofs.Common.{◌≡◌, inl, inr, ℕ, zero, suc, ◌+◌, ◌<◌, ◌≤◌, Bool, true, false, cond, ◌==◌, true≢false, arith, List, [], ◌∷◌, ◌++◌, All, length, map, take, reverse, Option, Some, None, refl, ap, sym, ◌∙◌, subst, ◌⊎◌, length-append}
use Rattle.std.proofs.lemmas.List.{reverse-append}
use Rattle.std.proofs.lemmas.List.Elements.{All-head, All-tail}
use Rattle.std.proofs.lemmas.Option.{slice_get_within, slice_get-get_or}
use Rattle.std.specs.Prelude.{IfSome}
use Rattle.std.specs.Option.{option_to_list}
use Rattle.std.specs.List.{slice_get, slice_index_or}
use Rattle.la_set.specs.ObjectOps.{ObjectOp, update_of}
use Rattle.la_set.specs.Histories.{history, object_op_number, empty}
use Rattle.la_set.proofs.lemmas.Theorems.{contains-object_op}
use Rattle.la_commit.specs.Instances.{first_instance, second_instance}
use Rattle.la_proposer.specs.Inputs.{all_submitted}
use Rattle.la_set.proofs.lemmas.Inclusions.{contains-empty}
use Rattle.la_proposer.specs.ProposerState.{ProposerState, start}
use Rattle.la_proposer.proofs.lemmas.Theorems.{start_is}
use Rattle.la_shared.specs.History.{HasEntry}
use Rattle.la_shared.specs.Passes.{Known, AcceptorName}
use Rattle.la_runner.specs.Certificates.{mine_of, mine_at}
use Rattle.la_runner.specs.Sound.{IsPassAt, IsSound}
use Rattle.la_runner.specs.Following.{acceptors_of}
use Rattle.la_runner.specs.Instances.{InstanceState, IsInstance, IsLearntSet}
use Rattle.la_runner.specs.Invariant.{IsIn, IsMember}
use Rattle.la_runner.specs.Members.{MemberState, GroupState, submitted_of}
use Rattle.la_runner.specs.Participants.{IsMemberParticipant}
use Rattle.la_runner.specs.Starting.{newcomer, IsNewInstance, member_cap, IsNewMember, AreMembersFrom}

-- ## One instance

none_listed : (own : ℕ) (ds : List ObjectOp) → history empty own ≡ ds → ds ≡ []
none_listed own [] e = refl
none_listed own (d ∷ ds) e =
    absurd
    (contains-empty (update_of own 1 d)
    (contains-object_op empty (update_of own 1 d) (ap (λ h. object_op_number h 1) e)))

history-empty : (own : ℕ) → history empty own ≡ []
history-empty own = none_listed own (history empty own) refl

nothing_submitted : (votes : List ℕ) (own cap : ℕ) → length (all_submitted (start votes own cap empty)) ≡ 0
nothing_submitted votes own cap = length-append (history empty own) [] ∙ ap (λ n. n + 0) (ap length (history-empty own))

none_made : (row : List AcceptorName) (a : ℕ) → mine_of (slice_get (map newcomer row) a) ≡ []
none_made [] a = refl
none_made (r ∷ row) zero = refl
none_made (r ∷ row) (suc a) = none_made row a

nothing_made : (row : List AcceptorName) (a : ℕ) → mine_at (map newcomer row) a ≡ []
unfolding mine_at
nothing_made row a = none_made row a

are_passes : (row : List AcceptorName) (a : ℕ) → IsPassAt (slice_get (map newcomer row) a)
are_passes [] a = tt
are_passes (r ∷ row) zero = (tt, refl)
are_passes (r ∷ row) (suc a) = are_passes row a

length_newcomers : (row : List AcceptorName) → length (map newcomer row) ≡ length row
length_newcomers [] = refl
length_newcomers (r ∷ row) = ap suc (length_newcomers row)

same_acceptors : (row : List AcceptorName) → acceptors_of (map newcomer row) ≡ row
same_acceptors [] = refl
same_acceptors (r ∷ row) = ap (λ rs. r ∷ rs) (same_acceptors row)

module _ (votes : List ℕ) (own cap : ℕ) (row : List AcceptorName) (known : own < length votes) (few : length votes ≤ 8)
    (most : cap ≤ 1000000) (sizes : length row ≡ length votes) where
  fresh_sound : IsSound (start votes own cap empty) (map newcomer row)
  fresh_sound = record {
    proposer = start_is votes own cap known few most;
    rests = λ _. refl;
    asks_own = λ asked. absurd (true≢false (sym asked));
    sizes = length_newcomers row ∙ sizes;
    are = are_passes row;
    within = λ a s r e. absurd (subst (λ l. HasEntry l s r) (nothing_made row a) e);
    counted = λ a r y. absurd y;
    told = λ u here other. absurd (contains-empty u here);
  }

  pub fresh_instance : (some : 1 ≤ cap) (x : InstanceState) → IsNewInstance votes own cap row x → IsInstance x
  fresh_instance some x is = record {
    sound =
        subst (λ (z : ProposerState × List Known). IsSound z.0 z.1) (λ i. (sym is.proposer i, sym is.passes i))
        fresh_sound;
    view = inl is.view;
    learnt = subst (λ o. IfSome o (IsLearntSet x.proposer x.passes)) (sym is.learnt) tt;
    cap = subst (λ (p : ProposerState). 1 ≤ p.cap) (sym is.proposer) some;
    under_way =
        λ none made.
        let nothing : length (all_submitted x.proposer) ≡ 0 =
        ap (λ (p : ProposerState). length (all_submitted p)) is.proposer ∙ nothing_submitted votes own cap in
        absurd (omega arith);
  }

-- ## The instances of a member, one after another

get_push : {A : Type 0} (xs : List A) (x : A) (i : ℕ) (z : A) → slice_get (xs ++ x ∷ []) i ≡ Some z
    → (slice_get xs i ≡ Some z) ⊎ ((i ≡ length xs) × (x ≡ z))
get_push [] x zero z e = inr (refl, cc)
get_push [] x (suc i) z e = absurd (cc)
get_push (y ∷ ys) x zero z e = inl e
get_push (y ∷ ys) x (suc i) z e = elim (get_push ys x i z e) [ inl old ↦ inl old | inr new ↦ inr (ap suc new.0, new.1) ]

pub map_push : {A B : Type 0} (f : A → B) (xs : List A) (x : A) → map f (xs ++ x ∷ []) ≡ map f xs ++ f x ∷ []
map_push f [] x = refl
map_push f (y ∷ ys) x = ap (λ zs. f y ∷ zs) (map_push f ys x)

-- so many of the instances stand
pub record AreNew (group : List (List AcceptorName)) (votes : List ℕ) (own cap at : ℕ) (xs : List InstanceState) : Type
    0 where
  pub count : length xs ≡ at
  pub of : map (λ x. acceptors_of x.passes) xs ≡ take at group
  pub each : (i : ℕ) (row : List AcceptorName) (x : InstanceState) → slice_get group i ≡ Some row
      → slice_get xs i ≡ Some x → IsNewInstance votes own (member_cap cap i) row x

pub take_more : {A : Type 0} (xs : List A) (i : ℕ) (x : A) → slice_get xs i ≡ Some x
    → take (suc i) xs ≡ take i xs ++ x ∷ []
take_more [] i x e = absurd (cc)
take_more (y ∷ ys) zero x e = let same : y ≡ x = cc in ap (λ z. z ∷ []) same
take_more (y ∷ ys) (suc i) x e = ap (λ zs. y ∷ zs) (take_more ys i x e)

one_more : (n : ℕ) → n + 1 ≡ suc n
one_more n = omega arith

pub new_push : (group : List (List AcceptorName)) (votes : List ℕ) (own cap at : ℕ) (xs : List InstanceState)
    (row : List AcceptorName) (x : InstanceState) → AreNew group votes own cap at xs → slice_get group at ≡ Some row
    → IsNewInstance votes own (member_cap cap at) row x → AreNew group votes own cap (at + 1) (xs ++ x ∷ [])
new_push group votes own cap at xs row x are there new = record {
  count = length-append xs (x ∷ []) ∙ ap (λ n. n + 1) are.count;
  of =
      map_push (λ z. acceptors_of z.passes) xs x
      ∙ (λ i. are.of i ++ (ap acceptors_of new.passes ∙ same_acceptors row) i ∷ [])
      ∙ sym (ap (λ n. take n group) (one_more at) ∙ take_more group at row there);
  each = λ i r z here e. elim (get_push xs x i z e) [
    | inl old ↦ are.each i r z here old
    | inr last ↦
        let place : i ≡ at = last.0 ∙ are.count in
        let same : row ≡ r = some_same (sym there ∙ ap (slice_get group) (sym place) ∙ here) in
        subst (λ (w : ℕ × List AcceptorName × InstanceState). IsNewInstance votes own (member_cap cap w.0) w.1 w.2)
        (λ j. (sym place j, same j, last.1 j)) new
  ];
}
  where
    some_same : {r s : List AcceptorName} → Some r ≡ Some s → r ≡ s
    some_same e = cc

-- ## The names of rows

pub names_long : {R : Type 0} (names : R → List AcceptorName) (rs : List R) → length (map names rs) ≡ length rs
names_long names [] = refl
names_long names (r ∷ rs) = ap suc (names_long names rs)

-- ## A member

module _ (group : List (List AcceptorName)) (votes : List ℕ) (own cap : ℕ) (known : own < length votes)
    (few : length votes ≤ 8) (some : 1 ≤ cap) (most : cap ≤ 1000000)
    (sizes : All (λ row. length row ≡ length votes) group) (m : MemberState) (votes_is : m.votes ≡ votes)
    (own_is : m.replica ≡ own) (are : AreNew group votes own cap (length group) m.instances) where
  capped : (b : Bool) → cond b cap 1 ≤ 1000000
  capped true = most
  capped false = omega arith

  cap_some : (b : Bool) → 1 ≤ cond b cap 1
  cap_some true = some
  cap_some false = omega arith

  row_at : (g : List (List AcceptorName)) (i : ℕ) → i < length g → All (λ row. length row ≡ length votes) g
      → (row : List AcceptorName) × (slice_get g i ≡ Some row) × (length row ≡ length votes)
  row_at [] i lt all = absurd (omega arith)
  row_at (r ∷ g) zero lt all = (r, refl, All-head (λ (row : List AcceptorName). length row ≡ length votes) r g all)
  row_at (r ∷ g) (suc i) lt all =
      row_at g i (omega arith) (All-tail (λ (row : List AcceptorName). length row ≡ length votes) r g all)

  new_in : (i : ℕ) (x : InstanceState) → slice_get m.instances i ≡ Some x
      → (row : List AcceptorName) × (length row ≡ length votes) × IsNewInstance votes own (member_cap cap i) row x
  new_in i x e =
      let there = row_at group i (subst (λ n. i < n) are.count (slice_get_within m.instances i x e)) sizes in
      (there.0, there.2, are.each i there.0 x there.1 e)

  each_in : (i : ℕ) (x : InstanceState) → slice_get m.instances i ≡ Some x → IsIn m x
  each_in i x e = let new = new_in i x e in (
    fresh_instance votes own (member_cap cap i) new.0 known few (capped (i == 0)) new.1 (cap_some (i == 0)) x new.2,
    ap (λ (p : ProposerState). p.votes) new.2.proposer ∙ sym votes_is,
    ap (λ (p : ProposerState). p.own) new.2.proposer ∙ sym own_is,
  )

  -- it has submitted nothing anywhere
  nothing_in : (i : ℕ) (o : Option InstanceState) → slice_get m.instances i ≡ o → submitted_of o ≡ []
  nothing_in i None e = refl
  nothing_in i (Some x) e =
      let new = new_in i x e in ap all_submitted new.2.proposer ∙ ap (λ h. h ++ []) (history-empty own)

  fresh_participant : (k : ℕ) → IsMemberParticipant m k
  fresh_participant k = record {
    first = inl (nothing_in (first_instance k) (slice_get m.instances (first_instance k)) refl);
    second = inl (nothing_in (second_instance k) (slice_get m.instances (second_instance k)) refl);
  }

  pub fresh_member : 1 ≤ length group → length group ≤ 33 → IsMember m
  fresh_member one all = record {
    some = subst (λ n. 1 ≤ n) (sym are.count) one;
    most = subst (λ n. n ≤ 33) (sym are.count) all;
    few = subst (λ n. n ≤ 255) (sym own_is) (omega arith);
    each = each_in;
    participant = fresh_participant;
  }

  pub new_member : IsNewMember (record { votes = votes; acceptors = group }) cap own m
  new_member = record { replica = own_is; of = record { votes = votes_is; acceptors = are.of ∙ take_whole group }; each = are.each }
    where
      take_whole : {A : Type 0} (xs : List A) → take (length xs) xs ≡ xs
      take_whole [] = refl
      take_whole (x ∷ xs) = ap (λ ys. x ∷ ys) (take_whole xs)

cons_first : {A : Type 0} {x y : A} {xs ys : List A} → x ∷ xs ≡ y ∷ ys → x ≡ y
cons_first e = cc

cons_rest : {A : Type 0} {x y : A} {xs ys : List A} → x ∷ xs ≡ y ∷ ys → xs ≡ ys
cons_rest e = cc

-- the item at a place
pub item_there : {A : Type 0} (xs : List A) (i : ℕ) (x : A) → i < length xs → x ≡ slice_index_or xs i x
    → slice_get xs i ≡ Some x
item_there xs i x lt e = slice_get-get_or xs i x lt ∙ ap Some (sym e)

pub popped : (o : Option MemberState) (xs ys : List MemberState) → xs ≡ ys ++ option_to_list o
    → reverse xs ≡ option_to_list o ++ reverse ys
popped None xs ys e = ap reverse e ∙ reverse-append ys []
popped (Some m) xs ys e = ap reverse e ∙ reverse-append ys (m ∷ [])

-- the member that is taken out, and those that are left
pub taken : (group : GroupState) (cap r : ℕ) (o : Option MemberState) (old new : List MemberState)
    → old ≡ option_to_list o ++ new → AreMembersFrom group cap r old
    → IfSome o (λ m. IsNewMember group cap r m × AreMembersFrom group cap (r + 1) new)
taken group cap r None old new e are = tt
taken group cap r (Some m) old new e are = subst (AreMembersFrom group cap r) e are

-- ## First passes, by the row that they are of

module _ {R F : Type 0} (names : R → List AcceptorName) (seats : F → List Known) where
  pub firsts_at : (fs : List F) (rs : List R) (i : ℕ) (f : F) (r : R)
      → map seats fs ≡ map (λ z. map newcomer (names z)) rs → slice_get fs i ≡ Some f → slice_get rs i ≡ Some r
      → seats f ≡ map newcomer (names r)
  firsts_at [] rs i f r all fe re = absurd (cc)
  firsts_at (g ∷ fs) [] i f r all fe re = absurd (cc)
  firsts_at (g ∷ fs) (s ∷ rs) zero f r all fe re =
      let one : g ≡ f = cc in
      let other : s ≡ r = cc in ap seats (sym one) ∙ cons_first all ∙ ap (λ z. map newcomer (names z)) other
  firsts_at (g ∷ fs) (s ∷ rs) (suc i) f r all fe re = firsts_at fs rs i f r (cons_rest all) fe re

  pub row_of : (rs : List R) (i : ℕ) (r : R) → slice_get rs i ≡ Some r → slice_get (map names rs) i ≡ Some (names r)
  row_of [] i r e = absurd (cc)
  row_of (s ∷ rs) zero r e = let same : s ≡ r = cc in ap (λ z. Some (names z)) same
  row_of (s ∷ rs) (suc i) r e = row_of rs i r e

  pub firsts_there : (fs : List F) (rs : List R) (i : ℕ) (f : F) → map seats fs ≡ map (λ z. map newcomer (names z)) rs
      → i < length rs → f ≡ slice_index_or fs i f → slice_get fs i ≡ Some f
  firsts_there [] [] i f all lt e = absurd (omega arith)
  firsts_there [] (s ∷ rs) i f all lt e = absurd (cc)
  firsts_there (g ∷ fs) [] i f all lt e = absurd (omega arith)
  firsts_there (g ∷ fs) (s ∷ rs) zero f all lt e = ap Some (sym e)
  firsts_there (g ∷ fs) (s ∷ rs) (suc i) f all lt e = firsts_there fs rs i f (cons_rest all) (omega arith) e
