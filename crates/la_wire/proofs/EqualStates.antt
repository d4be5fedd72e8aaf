-- The test of two states tells whether they are one.
use Rattle.std.proofs.Common.{◌≡◌, ◌<◌, Bool, true, false, List, [], ◌∷◌, ◌++◌, drop, Some, None, Option, All}
use Rattle.std.proofs.Common.{refl, ap, sym, subst, ◌∙◌, arith, eqb}
use Rattle.std.specs.Bool.{Decides}
use Rattle.std.specs.Cmp.Lexicographic.{pointwise, pointwise_decides, bytes_decides}
use Rattle.std.proofs.lemmas.Bool.{false≢true, and_parts, and_from}
use Rattle.std.proofs.lemmas.Bool.Decides.{Decides-and, Decides-like, Decides-eqb}
use Rattle.std.proofs.lemmas.Option.{same_Some}
use Rattle.std.proofs.lemmas.List.Elements.{All-weaker, All-head, All-tail}
use Rattle.std.proofs.Math.Seq.{drop-append-add}
use Rattle.la_set.specs.declared.counts.Counts.{Counts}
use Rattle.la_set.specs.Histories.{Histories, history, count, empty}
use Rattle.la_set.specs.Inclusion.{IsSubset, is_subset}
use Rattle.la_set.specs.ObjectOps.{bool_eq}
use Rattle.la_set.proofs.lemmas.Decisions.{is_subset-Decides}
use Rattle.la_set.proofs.lemmas.Inclusions.{subset-refl, subset-antisym}
use Rattle.la_set.proofs.lemmas.SetHistories.{history-with_same}
use Rattle.la_acceptor.specs.declared.reply.Reply.{Reply}
use Rattle.la_acceptor.specs.declared.reply.Reply.TheVariants.{Yes, No}
use Rattle.la_proposer.specs.declared.ballot.Ballot.{Ballot}
use Rattle.la_proposer.specs.declared.tally.Counted.{Counted}
use Rattle.la_proposer.specs.Changes.{last_of}
use Rattle.la_proposer.specs.Inputs.{all_submitted}
use Rattle.la_proposer.specs.ProposerState.{ProposerState}
use Rattle.la_proposer.specs.Resuming.{submissions_of}
use Rattle.la_replica.specs.declared.instance.Instance.{Instance}
use Rattle.la_replica.specs.Invariant.{IsReplicaState, IsOf}
use Rattle.la_replica.specs.ReplicaState.{ReplicaState}
use Rattle.la_wire.specs.SameStates.{is_same_set, is_same_ballot, is_same_learnt, is_same_reply, is_same_counted}
use Rattle.la_wire.specs.SameStates.{are_same_counts, is_same_proposer, is_same_instance, is_same_state}

-- ## Parts

decides-set : (a b : Histories) → Decides (is_same_set a b) (a ≡ b)
decides-set a b =
    Decides-like (is_same_set a b) (λ p. subset-antisym a b p.1 p.0)
    (λ e. (subst (λ s. IsSubset s a) e (subset-refl a), subst (λ s. IsSubset a s) e (subset-refl a)))
    (Decides-and (is_subset b a) (is_subset a b) (is_subset-Decides b a) (is_subset-Decides a b))

decides-ballot : (a b : Ballot) → Decides (is_same_ballot a b) (a ≡ b)
decides-ballot a b =
    Decides-like (is_same_ballot a b) (λ p i. record { number = p.0 i; updates = p.1 i })
    (λ e. (ap (λ (c : Ballot). c.number) e, ap (λ (c : Ballot). c.updates) e))
    (Decides-and (eqb a.number b.number) (is_same_set a.updates b.updates) (Decides-eqb a.number b.number)
    (decides-set a.updates b.updates))

decides-learnt : (a b : Option Ballot) → Decides (is_same_learnt a b) (a ≡ b)
decides-learnt None None = (λ e. refl, λ e. refl)
decides-learnt (Some a) (Some b) =
    Decides-like (is_same_ballot a b) (λ e. ap Some e) (λ e. same_Some a b e) (decides-ballot a b)
decides-learnt None (Some b) = (λ e. absurd (false≢true e), λ e. absurd cc)
decides-learnt (Some a) None = (λ e. absurd (false≢true e), λ e. absurd cc)

decides-reply : (a b : Reply) → Decides (is_same_reply a b) (a ≡ b)
decides-reply Yes Yes = (λ e. refl, λ e. refl)
decides-reply (No a) (No b) = Decides-like (is_same_set a b) (λ e. ap No e) (λ e. cc) (decides-set a b)
decides-reply Yes (No b) = (λ e. absurd (false≢true e), λ e. absurd cc)
decides-reply (No a) Yes = (λ e. absurd (false≢true e), λ e. absurd cc)

decides-counted : (c d : Counted) → Decides (is_same_counted c d) (c ≡ d)
decides-counted c d =
    Decides-like (is_same_counted c d) (λ p i. record { from = p.0 i; reply = p.1 i })
    (λ e. (ap (λ (x : Counted). x.from) e, ap (λ (x : Counted). x.reply) e))
    (Decides-and (eqb c.from d.from) (is_same_reply c.reply d.reply) (Decides-eqb c.from d.from)
    (decides-reply c.reply d.reply))

decides-all_counts : (c d : Counts) → Decides (are_same_counts c d) (c ≡ d)
decides-all_counts c d =
    Decides-like (are_same_counts c d) (λ e i. record { of = e i }) (λ e. ap (λ (x : Counts). x.of) e)
    (bytes_decides c.of d.of)

decides-bool : (a b : Bool) → Decides (bool_eq a b) (a ≡ b)
decides-bool true true = (λ e. refl, λ e. refl)
decides-bool false false = (λ e. refl, λ e. refl)
decides-bool true false = (λ e. absurd (false≢true e), λ e. absurd (false≢true (sym e)))
decides-bool false true = (λ e. absurd (false≢true e), λ e. absurd (false≢true e))

-- ## A proposer

-- what waits is what the submissions have behind the ballot's set
waits : (p : ProposerState) → p.own < 8 → p.waiting ≡ drop (count p.updates p.own) (history (submissions_of p) p.own)
waits p few =
    sym (drop-append-add (history p.updates p.own) p.waiting 0)
    ∙ ap (λ n. drop n (history p.updates p.own ++ p.waiting)) (omega arith)
    ∙ ap (drop (count p.updates p.own)) (sym (history-with_same empty p.own (all_submitted p) p.own few refl))

same_waiting : (p q : ProposerState) → p.own < 8 → p.own ≡ q.own → p.updates ≡ q.updates
    → submissions_of p ≡ submissions_of q → p.waiting ≡ q.waiting
same_waiting p q few own updates submissions =
    waits p few
    ∙ (λ i. drop (count (updates i) (own i)) (history (submissions i) (own i)))
    ∙ sym (waits q (subst (λ r. r < 8) own few))

same_proposer : (p q : ProposerState) → p.own < 8 → is_same_proposer p q ≡ true → p ≡ q
same_proposer p q few t =
    let votes = and_parts _ _ t in
    let own = and_parts _ _ votes.1 in
    let cap = and_parts _ _ own.1 in
    let last = and_parts _ _ cap.1 in
    let asking = and_parts _ _ last.1 in
    let tally = and_parts _ _ asking.1 in
    let rest = and_parts _ _ tally.1 in
    let one_own : p.own ≡ q.own = (Decides-eqb p.own q.own).0 own.0 in
    let ballot : last_of p ≡ last_of q = (decides-ballot (last_of p) (last_of q)).0 last.0 in
    let one_set : submissions_of p ≡ submissions_of q = (decides-set (submissions_of p) (submissions_of q)).0 rest.0 in
    let one_votes : p.votes ≡ q.votes = (bytes_decides p.votes q.votes).0 votes.0 in
    let one_cap : p.cap ≡ q.cap = (Decides-eqb p.cap q.cap).0 cap.0 in
    let one_asking : p.is_asking ≡ q.is_asking = (decides-bool p.is_asking q.is_asking).0 asking.0 in
    let one_tally : p.tally ≡ q.tally = (pointwise_decides decides-counted p.tally q.tally).0 tally.0 in
    let one_reported : p.reported ≡ q.reported =
    (pointwise_decides decides-all_counts p.reported q.reported).0 rest.1 in
    let one_updates : p.updates ≡ q.updates = ap (λ (b : Ballot). b.updates) ballot in
    let one_number : p.number ≡ q.number = ap (λ (b : Ballot). b.number) ballot in
    let one_waiting : p.waiting ≡ q.waiting = same_waiting p q few one_own one_updates one_set in
    λ i. record {
      votes = one_votes i;
      own = one_own i;
      cap = one_cap i;
      number = one_number i;
      updates = one_updates i;
      is_asking = one_asking i;
      tally = one_tally i;
      waiting = one_waiting i;
      reported = one_reported i;
    }

proposer_itself : (p : ProposerState) → is_same_proposer p p ≡ true
proposer_itself p =
    and_from _ _ ((bytes_decides p.votes p.votes).1 refl)
    (and_from _ _ ((Decides-eqb p.own p.own).1 refl)
    (and_from _ _ ((Decides-eqb p.cap p.cap).1 refl)
    (and_from _ _ ((decides-ballot (last_of p) (last_of p)).1 refl)
    (and_from _ _ ((decides-bool p.is_asking p.is_asking).1 refl)
    (and_from _ _ ((pointwise_decides decides-counted p.tally p.tally).1 refl)
    (and_from _ _ ((decides-set (submissions_of p) (submissions_of p)).1 refl)
    ((pointwise_decides decides-all_counts p.reported p.reported).1 refl)))))))

-- ## Instances

same_instance : (x y : Instance) → x.proposer.own < 8 → is_same_instance x y ≡ true → x ≡ y
unfolding is_same_instance
same_instance x y few t =
    let accepted = and_parts _ _ t in
    let rest = and_parts _ _ accepted.1 in
    let one_set : x.acceptor ≡ y.acceptor = (decides-set x.acceptor y.acceptor).0 accepted.0 in
    let one_proposer : x.proposer ≡ y.proposer = same_proposer x.proposer y.proposer few rest.0 in
    let one_learnt : x.learnt ≡ y.learnt = (decides-learnt x.learnt y.learnt).0 rest.1 in
    λ i. record { acceptor = one_set i; proposer = one_proposer i; learnt = one_learnt i }

instance_itself : (x : Instance) → is_same_instance x x ≡ true
unfolding is_same_instance
instance_itself x =
    and_from _ _ ((decides-set x.acceptor x.acceptor).1 refl)
    (and_from _ _ (proposer_itself x.proposer) ((decides-learnt x.learnt x.learnt).1 refl))

same_instances : (xs ys : List Instance) → All (λ x. x.proposer.own < 8) xs → pointwise is_same_instance xs ys ≡ true
    → xs ≡ ys
same_instances [] [] few t = refl
same_instances [] (y ∷ ys) few t = absurd (false≢true t)
same_instances (x ∷ xs) [] few t = absurd (false≢true t)
same_instances (x ∷ xs) (y ∷ ys) few t =
    let parts = and_parts _ _ t in
    let one : x ≡ y = same_instance x y (All-head (λ z. z.proposer.own < 8) x xs few) parts.0 in
    let others : xs ≡ ys = same_instances xs ys (All-tail (λ z. z.proposer.own < 8) x xs few) parts.1 in
    λ i. one i ∷ others i

instances_itself : (xs : List Instance) → pointwise is_same_instance xs xs ≡ true
instances_itself [] = refl
instances_itself (x ∷ xs) = and_from _ _ (instance_itself x) (instances_itself xs)

-- ## A state

same_states : (r s : ReplicaState) → IsReplicaState r → is_same_state r s ≡ true → r ≡ s
unfolding is_same_state
same_states r s is t =
    let votes = and_parts _ _ t in
    let own = and_parts _ _ votes.1 in
    let rest = and_parts _ _ own.1 in
    let few : r.own < 8 = omega (arith, is.known, is.few) in
    let all : All (λ x. x.proposer.own < 8) r.instances = All-weaker (IsOf r.votes r.own)
    (λ x. x.proposer.own < 8) (λ x of. subst (λ n. n < 8) (sym of.1) few) r.instances is.alike in
    let one_votes : r.votes ≡ s.votes = (bytes_decides r.votes s.votes).0 votes.0 in
    let one_own : r.own ≡ s.own = (Decides-eqb r.own s.own).0 own.0 in
    let one_view : r.view ≡ s.view = (decides-set r.view s.view).0 rest.0 in
    let one_list : r.instances ≡ s.instances = same_instances r.instances s.instances all rest.1 in
    λ i. record { votes = one_votes i; own = one_own i; instances = one_list i; view = one_view i }

state_itself : (r : ReplicaState) → is_same_state r r ≡ true
unfolding is_same_state
state_itself r =
    and_from _ _ ((bytes_decides r.votes r.votes).1 refl)
    (and_from _ _ ((Decides-eqb r.own r.own).1 refl)
    (and_from _ _ ((decides-set r.view r.view).1 refl) (instances_itself r.instances)))

pub decides-state : (r s : ReplicaState) → IsReplicaState r → Decides (is_same_state r s) (r ≡ s)
decides-state r s is = (same_states r s is, λ e. subst (λ t. is_same_state r t ≡ true) e (state_itself r))
