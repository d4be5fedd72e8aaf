-- Replicas that run each by itself stay together.
use Rattle.std.proofs.Common.{◌≡◌, inl, inr, ℕ, zero, suc, ◌<◌, List, [], ◌∷◌, ◌++◌, map, filter, slice_get}
use Rattle.std.proofs.Common.{slice_set, Contains, Some, refl, sym, ap, subst, ◌∙◌, append_assoc, arith}
use Rattle.std.proofs.lemmas.List.{map-append}
use Rattle.std.proofs.lemmas.List.Elements.{Contains-append_left, Contains-append_right, Contains-append_cases}
use Rattle.std.proofs.lemmas.Option.{none-some}
use Rattle.la_set.specs.Counts.{zero_counts}
use Rattle.la_set.specs.Histories.{empty}
use Rattle.la_set.proofs.lemmas.Filters.{Contains-none}
use Rattle.la_object.specs.Shelves.{ShelfState}
use Rattle.la_replica.specs.declared.message.Message as code
use Rattle.la_replica.specs.declared.parcel.Content.{Content}
use Rattle.la_replica.specs.declared.parcel.Content.TheVariants as content
use Rattle.la_replica.specs.declared.parcel.Parcel.{Parcel}
use Rattle.la_replica.specs.Parcels.{AreAlikeContents, AreAlikeParcels, wrapped, unwrapped_in}
use Rattle.la_replica.specs.ReplicaState.{ReplicaState}
use Rattle.la_node.specs.declared.config.Config.{Config}
use Rattle.la_node.specs.declared.link.Letter.{Letter}
use Rattle.la_node.specs.declared.link.Links.{Links}
use Rattle.la_node.specs.Calls.{NodeCall, Submitted, Proposed, Received}
use Rattle.la_node.specs.Links.{letters_of, no_links}
use Rattle.la_node.specs.Nodes.{NodeState}
use Rattle.la_node.specs.Steps.{Given, node_step, after_call}
use Rattle.la_node.proofs.lemmas.Items.{get_put}
use Rattle.la_node.proofs.lemmas.Stepping.{some_of}
use Rattle.la_world.specs.Calls.{replica_states_at_start}
use Rattle.la_world.specs.LiveGroups.{LiveGroup, LearntSet, IsHeard, Reaches, learnt_by_call, IsReached}
use Rattle.la_world.specs.LiveGroups.{replicas_of}
use Rattle.la_world.specs.LiveParcels.{IsParcelAmong, AreParcelsAmong, parcels_of, mail_on}
use Rattle.la_world.specs.Rebased.{IsRetold, AreRetold}
use Rattle.la_world.specs.Together.{AreTogether, AreSomeInOrder, IsBrought, newest_first}
use Rattle.la_world.specs.Together.{NewReplicasAreTogether, CallsKeepTogether, FewerLettersKeepTogether}
use Rattle.la_world.specs.Together.{LostCallsKeepTogether, RepeatsKeepTogether}
use Rattle.la_world.proofs.lemmas.Letters.{mapped_from, mapped_has, among}
use Rattle.la_world.proofs.Lists.{IsIn_contains, contains_IsIn, IsIn_filter, get_mapped}
use Rattle.la_world.proofs.LiveGroups.{retold_of, put_put}
use Rattle.la_world.proofs.LiveParcels.{parcel_is}
use Rattle.la_world.proofs.ToldFurther.{sent_retold, again_retold}
use Rattle.la_world.proofs.Worlds.{set_same}

-- ## Some of a list, in its order

pub some_same : {A : Type 0} (zs : List A) → AreSomeInOrder zs zs
some_same [] = tt
some_same (z ∷ zs) = inl (refl, some_same zs)

some_behind : {A : Type 0} (ys zs : List A) → AreSomeInOrder zs (ys ++ zs)
some_behind [] zs = some_same zs
some_behind (y ∷ ys) [] = tt
some_behind (y ∷ ys) (z ∷ zs) = inr (some_behind ys (z ∷ zs))

some_more : {A : Type 0} (xs ys zs : List A) → AreSomeInOrder xs ys → AreSomeInOrder xs (ys ++ zs)
some_more [] ys zs h = tt
some_more (x ∷ xs) [] zs h = absurd h
some_more (x ∷ xs) (y ∷ ys) zs (inl h) = inl (h.0, some_more xs ys zs h.1)
some_more (x ∷ xs) (y ∷ ys) zs (inr h) = inr (some_more (x ∷ xs) ys zs h)

some_both : {A : Type 0} (xs ys zs : List A) → AreSomeInOrder xs ys → AreSomeInOrder (xs ++ zs) (ys ++ zs)
some_both [] ys zs h = some_behind ys zs
some_both (x ∷ xs) [] zs h = absurd h
some_both (x ∷ xs) (y ∷ ys) zs (inl h) = inl (h.0, some_both xs ys zs h.1)
some_both (x ∷ xs) (y ∷ ys) zs (inr h) = inr (some_both (x ∷ xs) ys zs h)

pub some_at : {A : Type 0} (xs ys : List A) (k : ℕ) (x : A) → AreSomeInOrder xs ys → slice_get xs k ≡ Some x
    → (b : ℕ) × (slice_get ys b ≡ Some x)
some_at [] ys k x h at = absurd (none-some x at)
some_at (z ∷ xs) [] k x h at = absurd h
some_at (z ∷ xs) (y ∷ ys) zero x (inl h) at = (0, ap Some (sym h.0) ∙ at)
some_at (z ∷ xs) (y ∷ ys) (suc k) x (inl h) at = let b = some_at xs ys k x h.1 at in (suc b.0, b.1)
some_at (z ∷ xs) (y ∷ ys) k x (inr h) at = let b = some_at (z ∷ xs) ys k x h at in (suc b.0, b.1)

-- where two stand in it, the first before the second
pub some_places : {A : Type 0} (xs ys : List A) (j k : ℕ) (x y : A) → AreSomeInOrder xs ys → slice_get xs j ≡ Some x
    → slice_get xs k ≡ Some y → j < k
    → (a : ℕ) × ((b : ℕ) × (a < b) × (slice_get ys a ≡ Some x) × (slice_get ys b ≡ Some y))
some_places [] ys j k x y h p q lt = absurd (none-some x p)
some_places (z ∷ xs) [] j k x y h p q lt = absurd h
some_places (z ∷ xs) (u ∷ ys) zero zero x y (inl h) p q lt = absurd (omega arith)
some_places (z ∷ xs) (u ∷ ys) zero (suc k) x y (inl h) p q lt =
    let b = some_at xs ys k y h.1 q in (0, (suc b.0, omega arith, ap Some (sym h.0) ∙ p, b.1))
some_places (z ∷ xs) (u ∷ ys) (suc j) zero x y (inl h) p q lt = absurd (omega arith)
some_places (z ∷ xs) (u ∷ ys) (suc j) (suc k) x y (inl h) p q lt =
    let w = some_places xs ys j k x y h.1 p q (omega arith) in
    (suc w.0, (suc w.1.0, omega (arith, w.1.1), w.1.2, w.1.3))
some_places (z ∷ xs) (u ∷ ys) j k x y (inr h) p q lt =
    let w = some_places (z ∷ xs) ys j k x y h p q lt in
    (suc w.0, (suc w.1.0, omega (arith, w.1.1), w.1.2, w.1.3))

-- ## Parcels that say the same

contents_trans : (a b c : Content) → AreAlikeContents a b → AreAlikeContents b c → AreAlikeContents a c
contents_trans (content.Offer d) (content.Offer e) (content.Offer f) p q = (p.0 ∙ q.0, p.1 ∙ q.1)
contents_trans content.Yes content.Yes content.Yes p q = tt
contents_trans (content.No d) (content.No e) (content.No f) p q = (p.0 ∙ q.0, p.1 ∙ q.1)
contents_trans (content.Tell d) (content.Tell e) (content.Tell f) p q = (p.0 ∙ q.0, p.1 ∙ q.1)
contents_trans (content.Offer d) (content.Offer e) _ p q = absurd q
contents_trans content.Yes content.Yes _ p q = absurd q
contents_trans (content.No d) (content.No e) _ p q = absurd q
contents_trans (content.Tell d) (content.Tell e) _ p q = absurd q
contents_trans _ _ _ p q = absurd p

parcels_trans : (a b c : Parcel) → AreAlikeParcels a b → AreAlikeParcels b c → AreAlikeParcels a c
parcels_trans a b c p q = record {
  instance = p.instance ∙ q.instance;
  from = p.from ∙ q.from;
  to = p.to ∙ q.to;
  ballot = p.ballot ∙ q.ballot;
  content = contents_trans a.content b.content c.content p.content q.content;
}

-- ## More letters, and fewer

letters_more : (letters : List Letter) (messages : List code.Message) (links : Links) (q : ReplicaState)
    (mail : List code.Message) → AreParcelsAmong (parcels_of letters) messages
    → AreParcelsAmong (parcels_of (letters ++ letters_of links q mail)) (messages ++ mail_on links mail)
letters_more letters messages links q mail of_these p has =
    let new = letters_of links q mail in
    let both : Contains (parcels_of letters ++ parcels_of new) p = subst (λ ps. Contains ps p)
    (map-append (λ (letter : Letter). letter.parcel) letters new) has in
    elim (Contains-append_cases (parcels_of letters) (parcels_of new) p both) [
      | inl was ↦ let a = of_these p was in (a.0, Contains-append_left messages (mail_on links mail) a.0 a.1, a.2)
      | inr is ↦
          let a = among links q mail p is in
          (a.0, Contains-append_right messages (mail_on links mail) a.0 a.1, a.2)
    ]

fewer : (c : Config) (calls : List (ℕ × NodeCall)) (states : List ReplicaState) (letters left : List Letter)
    (learnt : List LearntSet) → ((x : Letter) → Contains left x → Contains letters x)
    → AreTogether c calls states letters learnt → AreTogether c calls states left learnt
fewer c calls states letters left learnt within is = record {
  group = is.group;
  reached = is.reached;
  are = is.are;
  messages = is.messages;
  sent = is.sent;
  of_these =
      λ p has.
      let x = mapped_from (λ (letter : Letter). letter.parcel) left p has in
      subst (λ k. IsParcelAmong k is.messages) x.2
      (is.of_these x.0.parcel (mapped_has (λ (letter : Letter). letter.parcel) letters x.0 (within x.0 x.1)));
  said = is.said;
}

retold_more : (messages sent more : List code.Message) → AreRetold messages sent → AreRetold messages (sent ++ more)
retold_more messages sent more retold m has =
    let a = retold m has in (a.0, Contains-append_left sent more a.0 a.1, a.2)

both_retold : (messages more sent : List code.Message) → AreRetold messages sent → AreRetold more sent
    → AreRetold (messages ++ more) sent
both_retold messages more sent p q m has = elim (Contains-append_cases messages more m has) [
  | inl was ↦ p m was
  | inr is ↦ q m is
]

-- ## At the start

pub new_together : NewReplicasAreTogether
unfolding Reaches
new_together c config = record {
  group = record { replicas = replica_states_at_start c; sent = []; learnt = [] };
  reached = record { config = config; replicas = refl; sent = refl; learnt = refl };
  are = refl;
  messages = [];
  sent = λ m has. absurd (Contains-none m has);
  of_these = λ p has. absurd (Contains-none p has);
  said = tt;
}

-- ## A call

-- without shelves
unused : ShelfState
unused = record { view = empty; objects = [] }

abbrev as_node : ReplicaState → NodeState
as_node q = record { replica = q; shelf = unused }

same_replicas : (states : List ReplicaState) → replicas_of (map as_node states) ≡ states
same_replicas [] = refl
same_replicas (q ∷ states) = ap (λ qs. q ∷ qs) (same_replicas states)

module _ (c : Config) (calls : List (ℕ × NodeCall)) (states : List ReplicaState) (letters : List Letter)
    (learnt : List LearntSet) (is : AreTogether c calls states letters learnt) (r : ℕ) (q : ReplicaState)
    (at : slice_get states r ≡ Some q) where
  is_reached : IsReached (map as_node states) is.messages
  is_reached = record {
    config = c;
    calls = calls;
    group = is.group;
    reached = is.reached;
    replicas = is.are ∙ sym (same_replicas states);
    sent = is.sent;
  }

  -- a call that is brought is one that the group hears
  heard : (call : NodeCall) → IsBrought letters r q call → IsHeard (λ m. IsRetold m is.group.sent) r call
  heard (Submitted d) brought = tt
  heard (Proposed k value) brought = tt
  heard (Received m) (p, same, unwraps, to, (letter, has, alike)) =
      let (k, one, (believed, parcel)) =
      is.of_these letter.parcel (mapped_has (λ (l : Letter). l.parcel) letters letter has) in
      let says = parcels_trans p letter.parcel (wrapped believed k) alike parcel in
      let near =
      parcel_is (map as_node states) is.messages is_reached r (as_node q) (get_mapped as_node states r q at) k one
      (sym says.to ∙ to) p believed says unwraps in
      subst (λ m. IsHeard (λ m. IsRetold m is.group.sent) r (Received m)) (sym same)
      (retold_of is.group.sent is.messages is.sent (unwrapped_in q p) (k, one, near), to)

  -- with some of the sets that were learnt, this one's or not
  called : (made : ReplicaState) (call : NodeCall) (given : Given) (links : Links) (sets : List LearntSet)
      → IsBrought letters r q call → node_step q call ≡ Some (given, made)
      → AreSomeInOrder sets (is.group.learnt ++ learnt_by_call r call given.said)
      → AreTogether c ((r, call) ∷ calls) (slice_set states r made) (letters ++ letters_of links made given.mail) sets
  unfolding Reaches
  called made call given links sets brought does some =
      let before = is.group in
      let after : LiveGroup = record {
        replicas = slice_set before.replicas r made;
        sent = before.sent ++ given.mail;
        learnt = before.learnt ++ learnt_by_call r call given.said;
      } in
      let reached : Reaches c ((r, call) ∷ calls) after = (
        before,
        is.reached,
        record {
          replica = q;
          is_at = ap (λ rs. slice_get rs r) is.are ∙ at;
          heard = heard call brought;
          given = given;
          made = made;
          does = does;
          replicas = refl;
          sent = refl;
          learnt = refl;
        },
      ) in
      record {
        group = after;
        reached = reached;
        are = ap (λ rs. slice_set rs r made) is.are;
        messages = is.messages ++ mail_on links given.mail;
        sent =
            both_retold is.messages (mail_on links given.mail) after.sent
            (retold_more is.messages before.sent given.mail is.sent)
            (sent_retold c ((r, call) ∷ calls) after reached links given.mail
            (λ m has. Contains-append_right before.sent given.mail m has));
        of_these = letters_more letters is.messages links made given.mail is.of_these;
        said = some;
      }

pub calls_together : CallsKeepTogether
calls_together c calls states letters learnt r q made call given links is at brought does =
    let new = learnt_by_call r call given.said in
    called c calls states letters learnt is r q at made call given links (learnt ++ new) brought does
    (some_both learnt is.group.learnt new is.said)

pub fewer_together : FewerLettersKeepTogether
fewer_together c calls states letters left learnt together within =
    fewer c calls states letters left learnt within together

-- ## Calls of which nothing was given out

one_lost : (c : Config) (calls : List (ℕ × NodeCall)) (states : List ReplicaState) (letters : List Letter)
    (learnt : List LearntSet) (r : ℕ) (q next : ReplicaState) (call : NodeCall)
    → AreTogether c calls states letters learnt → slice_get states r ≡ Some q → IsBrought letters r q call
    → after_call q call ≡ Some next → AreTogether c ((r, call) ∷ calls) (slice_set states r next) letters learnt
one_lost c calls states letters learnt r q next call is at brought e =
    let x = some_of (λ (p : Given × ReplicaState). p.1) (node_step q call) next e in
    let given = x.0.0 in
    let new = letters_of no_links next given.mail in
    fewer c ((r, call) ∷ calls) (slice_set states r next) (letters ++ new) letters learnt
    (λ l has. Contains-append_left letters new l has)
    (called c calls states letters learnt is r q at next call given no_links learnt brought
    (x.1 ∙ ap (λ s. Some (given, s)) x.2)
    (some_more learnt is.group.learnt (learnt_by_call r call given.said) is.said))

pub lost_together : LostCallsKeepTogether
lost_together c calls states letters learnt r q made [] together at same =
    subst (λ qs. AreTogether c calls qs letters learnt)
    (sym (set_same states r q at) ∙ ap (slice_set states r) same) together
lost_together c calls states letters learnt r q made (call ∷ later) together at (brought, (next, e, rest)) =
    subst (λ cs. AreTogether c cs (slice_set states r made) letters learnt)
    (sym (append_assoc (newest_first r later) ((r, call) ∷ []) calls))
    (subst (λ qs. AreTogether c (newest_first r later ++ (r, call) ∷ calls) qs letters learnt)
    (put_put states r next made)
    (lost_together c ((r, call) ∷ calls) (slice_set states r next) letters learnt r next made later
    (one_lost c calls states letters learnt r q next call together at brought e) (get_put states r q next at) rest))

-- ## What is sent again

pub again_together : RepeatsKeepTogether
again_together c calls states letters learnt r q mail links chosen is at whole told =
    let some = filter chosen mail in
    record {
      group = is.group;
      reached = is.reached;
      are = is.are;
      messages = is.messages ++ mail_on links some;
      sent =
          both_retold is.messages (mail_on links some) is.group.sent is.sent
          (again_retold c calls is.group is.reached links r q (ap (λ rs. slice_get rs r) is.are ∙ at) mail
          whole (told zero_counts) some
          (λ m has. IsIn_contains mail m (IsIn_filter chosen mail m (contains_IsIn some m has))));
      of_these = letters_more letters is.messages links q some is.of_these;
      said = is.said;
    }
