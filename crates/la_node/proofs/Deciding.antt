-- The tests of `specs/Accepting` decide what `la_replica` accepts.
use Rattle.std.proofs.Common.{◌≡◌, ◌≢◌, ◌⊎◌, ℕ, zero, suc, ◌+◌, ◌<◌, ◌≤◌, Bool, true, false, leb, ltb, eqb, not, ◌&&◌}
use Rattle.std.proofs.Common.{◌||◌, List, [], ◌∷◌, length, get_or, All, Contains, slice_get, Option, Some, None}
use Rattle.std.proofs.Common.{IsSomeAnd, IfSome, IsSome, refl, sym, ap, subst, ◌∙◌, arith, inl, inr}
use Rattle.std.proofs.Common.{⊎_elim, unwrap_or, option_map}
use Rattle.std.specs.Bool.{Decides}
use Rattle.std.specs.List.{list_all}
use Rattle.std.specs.Option.{is_some}
use Rattle.std.proofs.lemmas.Bool.{false≢true, leb-true, le-leb, cases_Bool}
use Rattle.std.proofs.lemmas.Bool.Decides.{Decides-and, Decides-not, Decides-like, Decides-eqb, Decides-ltb}
use Rattle.std.proofs.lemmas.Option.{same_Some, none-some}
use Rattle.std.proofs.lemmas.List.Elements.{All-weaker, All-get_or, All-from_get_or, All-contains, All-contains_itself}
use Rattle.std.proofs.lemmas.List.Sums.{AllPass-from_list_all, list_all-from_AllPass}
use Rattle.la_set.specs.declared.counts.Counts.{Counts}
use Rattle.la_set.specs.declared.update.UpdateId.{UpdateId}
use Rattle.la_set.specs.declared.update.Update.{Update}
use Rattle.la_set.specs.Counts.{count_in, HasCounts, within}
use Rattle.la_set.specs.Histories.{Histories, count, get, push, updates, ContainsUpdate, IsNext}
use Rattle.la_set.specs.Histories.{object_op_number, history}
use Rattle.la_set.specs.ObjectOps.{ObjectOp, update_eq, update_of}
use Rattle.la_set.specs.Deltas.{AreNext, IsOver}
use Rattle.la_set.specs.Join.{IsCompatible, ClashesAt}
use Rattle.la_set.proofs.lemmas.Counting.{count_in-past}
use Rattle.la_set.proofs.lemmas.Decisions.{update_eq-Decides}
use Rattle.la_set.proofs.lemmas.Membership.{listed-contains, contains-listed}
use Rattle.la_set.proofs.lemmas.Agreements.{clash_compatible}
use Rattle.la_acceptor.specs.declared.reply.Reply.{Reply}
use Rattle.la_acceptor.specs.declared.reply.Reply.TheVariants as replied
use Rattle.la_proposer.specs.declared.proposer.TheConstants.{MAX_BALLOTS}
use Rattle.la_proposer.specs.declared.tally.Counted.{Counted}
use Rattle.la_proposer.specs.ProposerState.{ProposerState, submitted, counts, with_reply, verdict_of}
use Rattle.la_proposer.specs.Refusals.{opens_by, SubmissionSpends, ReplySpends}
use Rattle.la_proposer.specs.Clashes.{IsUnknownOwn, ClashesWith, ClashesInTally, Fits}
use Rattle.la_replica.specs.declared.instance.Instance.{Instance}
use Rattle.la_replica.specs.declared.message.Message as code
use Rattle.la_replica.specs.Whole.{Message, Body, Offer, Yes, No, Tell}
use Rattle.la_replica.specs.Received.{Told, told_at, rebuilt_at, received_at, message_with, received_in, StandsAt}
use Rattle.la_replica.specs.ReplicaState.{ReplicaState, submitted_in}
use Rattle.la_replica.specs.Refusals.{HasRoom, SubmittingSpares, FitsBody, SparesBody, FitsMessage, SparesMessage}
use Rattle.la_replica.specs.Refusals.{IsFor, TakesMessage}
use Rattle.la_node.specs.Calls.{NodeCall, Submitted, Proposed, Received}
use Rattle.la_commit.specs.Instances.{first_instance}
use Rattle.la_replica.specs.declared.parcel.Content.{Content}
use Rattle.la_replica.specs.declared.parcel.Content.TheVariants as content
use Rattle.la_replica.specs.Parcels.{Unwraps}
use Rattle.la_node.specs.Accepting.{submission_spends, takes_submission, is_first, has_counts, is_next, are_next}
use Rattle.la_node.specs.Accepting.{is_over_base, unwraps_over}
use Rattle.la_node.specs.Accepting.{is_none_but, is_compatible, fits_reply, fits_tally, is_own_known, fits_refusal}
use Rattle.la_node.specs.Accepting.{is_fitting_reply, spares, hears_reply, takes_body, takes_message, is_for, accepts}

-- ## Tests of all kinds

decides-le : (a b : ℕ) → Decides (leb a b) (a ≤ b)
decides-le a b = (leb-true a b, le-leb a b)

decides-is : (b : Bool) → Decides b (b ≡ true)
decides-is b = (λ e. e, λ e. e)

decides-is_not : (b : Bool) → Decides (not b) (b ≡ false)
decides-is_not true = (λ e. absurd (false≢true e), λ e. absurd (false≢true (sym e)))
decides-is_not false = (λ e. refl, λ e. refl)

decides-all : {A : Type 0} (p : A → Bool) (P : A → Type 0) → ((x : A) → Decides (p x) (P x)) → (xs : List A)
    → Decides (list_all p xs) (All P xs)
decides-all p P each xs = (
  λ e. All-weaker (λ x. p x ≡ true) P (λ x is. (each x).0 is) xs (AllPass-from_list_all p xs e),
  λ all. list_all-from_AllPass p xs (All-weaker P (λ x. p x ≡ true) (λ x is. (each x).1 is) xs all),
)

all-from_contained : {A : Type 0} (P : A → Type 0) (xs : List A) → ((x : A) → Contains xs x → P x) → All P xs
all-from_contained P xs each = All-weaker (Contains xs) P each xs (All-contains_itself xs)

-- ## A submission, and a proposal

decides-spends : (p : ProposerState) → Decides (submission_spends p) (SubmissionSpends p)
decides-spends p =
    Decides-and (not p.is_asking) (leb MAX_BALLOTS p.number) (decides-is_not p.is_asking)
    (decides-le MAX_BALLOTS p.number)

decides-submission : (o : Option Instance) → Decides (takes_submission o)
    (IsSomeAnd o (λ x. submitted x.proposer < x.proposer.cap) × IsSomeAnd o (λ x. ¬ SubmissionSpends x.proposer))
decides-submission None = (λ e. absurd (false≢true e), λ h. absurd h.0)
decides-submission (Some x) =
    Decides-and (ltb (submitted x.proposer) x.proposer.cap) (not (submission_spends x.proposer))
    (Decides-ltb (submitted x.proposer) x.proposer.cap)
    (Decides-not (submission_spends x.proposer) (decides-spends x.proposer))

decides-first : (o : Option ℕ) → Decides (is_first o) (o ≡ Some 0)
decides-first None = (λ e. absurd (false≢true e), λ e. absurd (none-some 0 e))
decides-first (Some n) = Decides-like (eqb n 0) (λ e. ap Some e) (λ e. same_Some n 0 e) (Decides-eqb n 0)

-- ## A delta

eight : List ℕ
eight = 0 ∷ 1 ∷ 2 ∷ 3 ∷ 4 ∷ 5 ∷ 6 ∷ 7 ∷ []

of_eight : (P : ℕ → Type 0) → ((k : ℕ) → k < 8 → P (get_or eight k 0)) → (r : ℕ) → (8 ≤ r → P r) → P r
unfolding eight
of_eight P each zero past = each 0 (omega arith)
of_eight P each (suc zero) past = each 1 (omega arith)
of_eight P each (suc (suc zero)) past = each 2 (omega arith)
of_eight P each (suc (suc (suc zero))) past = each 3 (omega arith)
of_eight P each (suc (suc (suc (suc zero)))) past = each 4 (omega arith)
of_eight P each (suc (suc (suc (suc (suc zero))))) past = each 5 (omega arith)
of_eight P each (suc (suc (suc (suc (suc (suc zero)))))) past = each 6 (omega arith)
of_eight P each (suc (suc (suc (suc (suc (suc (suc zero))))))) past = each 7 (omega arith)
of_eight P each (suc (suc (suc (suc (suc (suc (suc (suc r)))))))) past = past (omega arith)

pub decides-has_counts : (s : Histories) (c : Counts) → Decides (has_counts s c) (HasCounts s c)
unfolding eight
decides-has_counts s c =
    let P = λ (r : ℕ). count_in c r ≤ count s r in
    Decides-like (has_counts s c)
    (λ all r.
    of_eight P (λ k lt. All-get_or P eight k 0 lt all) r
    (λ past. subst (λ n. n ≤ count s r) (sym (count_in-past c r past)) (omega arith)))
    (λ has. All-from_get_or P eight 0 (λ i lt. has (get_or eight i 0)))
    (decides-all (λ r. leb (count_in c r) (count s r)) P (λ r. decides-le (count_in c r) (count s r)) eight)

decides-next : (s : Histories) (id : UpdateId) → Decides (is_next s id) (IsNext s id)
decides-next s id =
    Decides-like (is_next s id) (λ p. record { known = p.0; next = p.1.0; within = p.1.1 }) (λ is. (is.known, (is.next, is.within)))
    (Decides-and (ltb id.replica 8) (eqb id.number (count s id.replica + 1) && leb id.number 1000000) (Decides-ltb id.replica 8)
    (Decides-and (eqb id.number (count s id.replica + 1)) (leb id.number 1000000) (Decides-eqb id.number (count s id.replica + 1)) (decides-le id.number 1000000)))

decides-are_next : (s : Histories) (us : List Update) → Decides (are_next s us) (AreNext s us)
decides-are_next s [] = (λ e. tt, λ h. refl)
decides-are_next s (u ∷ us) =
    Decides-and (is_next s u.id) (are_next (push s u) us) (decides-next s u.id) (decides-are_next (push s u) us)

decides-over : (o : Option Told) → Decides (is_over_base o) (IfSome o (λ t. IsOver t.over t.delta))
decides-over None = (λ e. tt, λ h. refl)
decides-over (Some t) =
    Decides-like (is_over_base (Some t)) (λ p. record { base = p.0; next = p.1 }) (λ is. (is.base, is.next))
    (Decides-and (has_counts t.over t.delta.base) (are_next (within t.over t.delta.base) t.delta.more)
    (decides-has_counts t.over t.delta.base) (decides-are_next (within t.over t.delta.base) t.delta.more))

pub decides-unwraps : (over : Histories) (c : Content) → Decides (unwraps_over over c) (Unwraps over c)
decides-unwraps over (content.Offer d) = (λ e. tt, λ h. refl)
decides-unwraps over content.Yes = (λ e. tt, λ h. refl)
decides-unwraps over (content.No d) = (λ e. tt, λ h. refl)
decides-unwraps over (content.Tell d) =
    Decides-like (unwraps_over over (content.Tell d)) (λ p. record { base = p.0; next = p.1 }) (λ is. (is.base, is.next))
    (Decides-and (has_counts over d.base) (are_next (within over d.base) d.more) (decides-has_counts over d.base)
    (decides-are_next (within over d.base) d.more))

-- ## What fits

decides-none_but : (o : Option Update) (u : Update) → Decides (is_none_but o u) ((v : Update) → o ≡ Some v → v ≡ u)
decides-none_but None u = (λ e v is. absurd (none-some v is), λ h. refl)
decides-none_but (Some v) u =
    (λ e w is. sym (same_Some v w is) ∙ (update_eq-Decides v u).0 e, λ h. (update_eq-Decides v u).1 (h v refl))

got_id : (id : UpdateId) (o : Option ObjectOp) (u : Update) → option_map (update_of id.replica id.number) o ≡ Some u
    → u.id ≡ id
got_id id None u e = absurd (none-some u e)
got_id id (Some d) u e = sym (ap (λ v. v.id) (same_Some (update_of id.replica id.number d) u e))

get_id : (s : Histories) (id : UpdateId) (u : Update) → get s id ≡ Some u → u.id ≡ id
get_id s id u e = got_id id (object_op_number (history s id.replica) id.number) u e

pub decides-compatible : (a b : Histories) → Decides (is_compatible a b) (IsCompatible a b)
decides-compatible a b =
    let P = λ (u : Update). (v : Update) → get a u.id ≡ Some v → v ≡ u in
    Decides-like (is_compatible a b)
    (λ all u v in_a in_b same.
    All-contains P (updates b) v all (contains-listed b v in_b) u (subst (λ id. get a id ≡ Some u) same in_a))
    (λ compatible. all-from_contained P (updates b) (λ u listed v found. let id = get_id a u.id v found in
    compatible v u (subst (λ i. get a i ≡ Some v) (sym id) found) (listed-contains b u listed) id))
    (decides-all (λ u. is_none_but (get a u.id) u) P (λ u. decides-none_but (get a u.id) u) (updates b))

clashes_by : (a b : Histories) (id : UpdateId) (u v : Update) → get a id ≡ Some u → get b id ≡ Some v → u ≢ v
    → ClashesAt a b id
clashes_by a b id u v in_a in_b differ =
    subst (λ o. IsSomeAnd o (λ x. IsSomeAnd (get b id) (λ y. x ≢ y))) (sym in_a)
    (subst (λ o. IsSomeAnd o (λ y. u ≢ y)) (sym in_b) differ)

no_clash : (a b : Histories) → ((id : UpdateId) → ¬ ClashesAt a b id) → IsCompatible a b
no_clash a b none u v in_a in_b same = go (cases_Bool (update_eq u v))
  where
    go : (update_eq u v ≡ true) ⊎ (update_eq u v ≡ false) → u ≡ v
    go (inl e) = (update_eq-Decides u v).0 e
    go (inr e) =
        absurd
        (none v.id
        (clashes_by a b v.id u v (subst (λ id. get a id ≡ Some u) same in_a) in_b
        (λ is. false≢true (sym e ∙ (update_eq-Decides u v).1 is))))

decides-no_clash : (a b : Histories) → Decides (is_compatible a b) ((id : UpdateId) → ¬ ClashesAt a b id)
decides-no_clash a b =
    Decides-like (is_compatible a b) (λ compatible id clash. clash_compatible a b id clash compatible) (no_clash a b)
    (decides-compatible a b)

decides-fits_reply : (reply : Reply) (refused : Histories)
    → Decides (fits_reply reply refused) ((id : UpdateId) → ¬ ClashesWith reply refused id)
decides-fits_reply replied.Yes refused = (λ e id clash. clash, λ h. refl)
decides-fits_reply (replied.No other) refused = decides-no_clash other refused

decides-fits_tally : (cs : List Counted) (refused : Histories)
    → Decides (fits_tally cs refused) ((id : UpdateId) → ¬ ClashesInTally cs refused id)
decides-fits_tally [] refused = (λ e id clash. clash, λ h. refl)
decides-fits_tally (c ∷ cs) refused =
    Decides-like (fits_tally (c ∷ cs) refused) (λ p id clash. ⊎_elim (p.0 id) (p.1 id) clash)
    (λ none. (λ id clash. none id (inl clash), λ id clash. none id (inr clash)))
    (Decides-and (fits_reply c.reply refused) (fits_tally cs refused) (decides-fits_reply c.reply refused)
    (decides-fits_tally cs refused))

known_where : (b : Bool) (Own : Type 0) → Decides b Own → (o : Option Update)
    → Decides (not b || is_some o) (¬ (Own × (o ≡ None)))
known_where true Own d None = (λ e. absurd (false≢true e), λ none. absurd (none (d.0 refl, refl)))
known_where true Own d (Some v) = (λ e h. none-some v (sym h.1), λ none. refl)
known_where false Own d o = (λ e h. false≢true (d.1 h.0), λ none. refl)

is_some_at : (s : Histories) (u : Update) → ContainsUpdate s u → IsSome (get s u.id)
is_some_at s u is = subst IsSome (sym is) refl

some_cases : {A : Type 0} (o : Option A) → IsSome o → (x : A) × (o ≡ Some x)
some_cases None some = absurd (false≢true some)
some_cases (Some x) some = (x, refl)

decides-known : (p : ProposerState) (refused : Histories)
    → Decides (list_all (is_own_known p) (updates refused)) ((id : UpdateId) → ¬ IsUnknownOwn p refused id)
decides-known p refused =
    let P = λ (u : Update). ¬ ((u.id.replica ≡ p.own) × (get p.updates u.id ≡ None)) in
    Decides-like (list_all (is_own_known p) (updates refused))
    (λ all id unknown.
    let found = some_cases (get refused id) unknown.1 in
    let same = get_id refused id found.0 found.1 in
    All-contains P (updates refused) found.0 all
    (contains-listed refused found.0 (subst (λ i. get refused i ≡ Some found.0) (sym same) found.1))
    (ap (λ (i : UpdateId). i.replica) same ∙ unknown.0, ap (get p.updates) same ∙ unknown.2))
    (λ none.
    all-from_contained P (updates refused)
    (λ u listed h. none u.id (h.0, is_some_at refused u (listed-contains refused u listed), h.1)))
    (decides-all (is_own_known p) P
    (λ u.
    known_where (eqb u.id.replica p.own) (u.id.replica ≡ p.own) (Decides-eqb u.id.replica p.own)
    (get p.updates u.id)) (updates refused))

decides-fits : (p : ProposerState) (reply : Reply) → Decides (is_fitting_reply p reply) (Fits p reply)
decides-fits p replied.Yes = (λ e id clash. clash, λ h. refl)
decides-fits p (replied.No refused) =
    Decides-like (fits_refusal p refused)
    (λ q id clash. ⊎_elim (λ first. ⊎_elim (q.0 id) (q.1.0 id) first) (q.1.1 id) clash)
    (λ none.
    (λ id clash. none id (inl (inl clash)), (λ id clash. none id (inl (inr clash)), λ id clash. none id (inr clash))))
    (Decides-and (is_compatible p.updates refused) (list_all (is_own_known p) (updates refused) && fits_tally p.tally refused) (decides-no_clash p.updates refused)
    (Decides-and (list_all (is_own_known p) (updates refused)) (fits_tally p.tally refused) (decides-known p refused) (decides-fits_tally p.tally refused)))

decides-spares : (p : ProposerState) → Decides (spares p) (¬ ReplySpends p)
decides-spares p =
    let opens = opens_by p (verdict_of p) in
    Decides-not (opens && leb MAX_BALLOTS p.number)
    (Decides-and opens (leb MAX_BALLOTS p.number) (decides-is opens) (decides-le MAX_BALLOTS p.number))

where_it_counts : (b x : Bool) (P Q : Type 0) → Decides x (P × Q)
    → Decides (not b || x) ((b ≡ true → P) × (b ≡ true → Q))
where_it_counts true x P Q d = Decides-like x (λ h. (λ is. h.0, λ is. h.1)) (λ h. (h.0 refl, h.1 refl)) d
where_it_counts false x P Q d = (λ e. (λ is. absurd (false≢true is), λ is. absurd (false≢true is)), λ h. refl)

decides-hears : (p : ProposerState) (from ballot : ℕ) (reply : Reply) → Decides (hears_reply p from ballot reply)
    ((counts p from ballot ≡ true → Fits p reply)
    × (counts p from ballot ≡ true → ¬ ReplySpends (with_reply p from reply)))
decides-hears p from ballot reply =
    where_it_counts (counts p from ballot) (is_fitting_reply p reply && spares (with_reply p from reply)) (Fits p reply)
    (¬ ReplySpends (with_reply p from reply))
    (Decides-and (is_fitting_reply p reply) (spares (with_reply p from reply)) (decides-fits p reply)
    (decides-spares (with_reply p from reply)))

decides-body : (x : Instance) (m : Message) (b : Body) → Decides (takes_body x m b) (FitsBody x m b × SparesBody x m b)
decides-body x m (Offer offered) =
    Decides-like (is_compatible x.acceptor offered) (λ h. (h, tt)) (λ h. h.0) (decides-compatible x.acceptor offered)
decides-body x m Yes =
    Decides-like (hears_reply x.proposer m.from m.ballot replied.Yes) (λ h. (tt, h.1)) (λ h. (λ is id clash. clash, h.1))
    (decides-hears x.proposer m.from m.ballot replied.Yes)
decides-body x m (No accepted) = decides-hears x.proposer m.from m.ballot (replied.No accepted)
decides-body x m (Tell told) = (λ e. (tt, tt), λ h. refl)

-- ## A message

-- as it is received, where this is its instance
abbrev received_where : Option Instance → code.Message → Message
received_where o m = message_with (unwrap_or (option_map (λ x. rebuilt_at x m) o) None) m

decides-message : (o : Option Instance) (m : code.Message) → Decides (takes_message o m)
    (IsSomeAnd o (λ x. StandsAt x m)
    × (IsSomeAnd o (λ x. FitsMessage x (received_where o m))
    × IsSomeAnd o (λ x. SparesMessage x (received_where o m))))
decides-message None m = (λ e. absurd (false≢true e), λ h. absurd h.0)
decides-message (Some x) m =
    Decides-and (is_over_base (told_at x m)) (takes_body x (received_at x m) (received_at x m).body)
    (decides-over (told_at x m)) (decides-body x (received_at x m) (received_at x m).body)

pub decides-for : (r : ReplicaState) (m : code.Message) → Decides (is_for r m) (IsFor r (received_in r m))
decides-for r m =
    Decides-and (ltb m.from (length r.votes)) (eqb m.to r.own) (Decides-ltb m.from (length r.votes))
    (Decides-eqb m.to r.own)

-- ## A call

abbrev pub Accepts : ReplicaState → NodeCall → Type 0
Accepts r (Submitted d) = HasRoom r 0 × SubmittingSpares r 0
Accepts r (Proposed k value) = submitted_in r (first_instance k) ≡ Some 0
Accepts r (Received m) = TakesMessage r m

pub decides-accepts : (r : ReplicaState) (call : NodeCall) → Decides (accepts r call) (Accepts r call)
unfolding accepts
decides-accepts r (Submitted d) = decides-submission (slice_get r.instances 0)
decides-accepts r (Proposed k value) = decides-first (submitted_in r (first_instance k))
decides-accepts r (Received m) =
    Decides-like (is_for r m && takes_message (slice_get r.instances m.instance) m)
    (λ p. record { stands = p.1.0; receivable = (p.0, p.1.1.0); spares = p.1.1.1 })
    (λ h. (h.receivable.0, (h.stands, (h.receivable.1, h.spares))))
    (Decides-and (is_for r m) (takes_message (slice_get r.instances m.instance) m) (decides-for r m)
    (decides-message (slice_get r.instances m.instance) m))
