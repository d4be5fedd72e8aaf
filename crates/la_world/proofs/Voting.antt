-- A learning that votes: in one step the replica ends its ballot in the first instance of an object, and
-- opens one in the second instance that takes its vote.
use Rattle.std.proofs.Common.{◌≡◌, ◌≢◌, ℕ, ◌<◌, ◌==◌, ◌&&◌, true, false, [], ◌∷◌, ◌++◌, append-nil, slice_get, slice_set, Some, None, refl, ap, ap₂, sym, ◌∙◌, subst}
use Rattle.std.specs.Prelude.{option_map, option_and_then}
use Rattle.std.proofs.lemmas.Bool.{cond-true, cond-false}
use Rattle.std.proofs.lemmas.Option.{same_Some}
use Rattle.la_set.specs.ObjectOps.{ObjectOp}
use Rattle.la_proposer.specs.declared.heard.Heard.TheVariants as heard
use Rattle.la_proposer.specs.ProposerState as proposer
use Rattle.la_proposer.specs.ProposerState.{ProposerState, is_nothing, heard_by, after_verdict, heard_of, after_reply, after_submission}
use Rattle.la_replica.specs.Whole.{Message, Out}
use Rattle.la_replica.specs.declared.instance.Instance.{Instance}
use Rattle.la_replica.specs.declared.out.Said.TheVariants as said
use Rattle.la_replica.specs.declared.sender.Sender.{Sender}
use Rattle.la_replica.specs.Messages.{body_of}
use Rattle.la_replica.specs.Steps as steps
use Rattle.la_replica.specs.ReplicaState as acting
use Rattle.la_replica.specs.ReplicaState.{ReplicaState}
use Rattle.la_world.specs.declared.step.Opening.{Opening}
use Rattle.la_world.specs.Groups.{Group, replicas, instances}
use Rattle.la_world.specs.Events.{Deliver}
use Rattle.la_world.specs.Trace as did
use Rattle.la_world.specs.Trace.{Entry, Trace}
use Rattle.la_world.specs.Sent.{ballot_of, sent, offers_for, tells_for}
use Rattle.la_world.specs.Acceptors.{offered, accepted_there}
use Rattle.la_world.specs.Ballots.{is_of, only, round}
use Rattle.la_world.specs.Counting.{counted_replies}
use Rattle.la_world.specs.Learnings.{last_learnt_ballot}
use Rattle.la_node.specs.SecondVotes.{Submission, second_vote_in}
use Rattle.la_world.specs.Submissions.{object_op_in, submitted_ops}
use Rattle.la_world.specs.Views.{trace_view}
use Rattle.la_world.specs.Playing.{after_vote, opened_after_learning, does_receive}
use Rattle.la_world.specs.ReplicaStates.{reports, proposer_state, instance_of, replica_state}
use Rattle.la_node.specs.Taking.{with_vote, vote_due, then_votes, takes}
use Rattle.la_world.specs.Following.{opened_there, voted_with, receipt_taken, StepsAs}
use Rattle.la_world.proofs.Lists.{IsIn}
use Rattle.la_world.proofs.Openings.{IsOf, not_both, IsAway, round_is, round-same, is_open-learnt, only_of}
use Rattle.la_world.proofs.Reports.{reports-away}
use Rattle.la_world.proofs.Unaffected.{Leaves, keeping, proposer_state_is, submitted-none, accepted-none, last_learnt_ballot-none, last_learnt_ballot-some}
use Rattle.la_world.proofs.EventCases.{entry_of, submitted_with}
use Rattle.la_world.proofs.Traces.{Holds}
use Rattle.la_world.proofs.OneReplicaSteps.{get_instance, between, get_second, after_both, replica_state-left}
use Rattle.la_world.proofs.Submitting.{opened_at, opens_ballot, opened_after, opened_said, opened_mail}
use Rattle.la_world.proofs.Replying.{with_new, told_after, heard_is, kept_is, last_only, last_seen, tells_are, learnt_number}
use Rattle.la_world.proofs.Delivering.{no_offer, reply_offers, hearing_step}
use Rattle.la_world.proofs.SecondVotes.{LeadsTo, does_learn, IsDue}

-- the vote of a replica in the second instance j
abbrev pub vote_at : (j r : ℕ) → ObjectOp → Submission
vote_at j r object_op = record { instance = j; replica = r; object_op = object_op }

module _ (g : Group) (t : Trace) (k : ℕ) (m : Message) (there : m.instance < instances g) (h : Holds g t)
    (was_sent : IsIn m (sent (replicas g) t)) (lt : m.to < 8) (j : ℕ) (object_op : ObjectOp)
    (l : LeadsTo g t m (vote_at j m.to object_op)) (d : IsDue g t m.instance j m.to) where
  abbrev i : ℕ
  i = m.instance

  abbrev r : ℕ
  r = m.to

  abbrev last : Opening
  last = round t i r

  last_is : IsOf i r last
  last_is = round_is t i r

  -- the ballot that takes the vote
  abbrev next : Opening
  next = opened_at t j r object_op

  abbrev x : Entry
  x = entry_of (Deliver k) (Some m) (did.Learnt last (Some next))

  -- this is what the delivery does
  pub did_is : does_receive g t (Some m) ≡ did.Learnt last (Some next)
  unfolding opened_after_learning
  did_is =
      does_learn g t m (vote_at j r object_op) l
      ∙ ap (did.Learnt last) (ap (after_vote t last) l.vote ∙ opens_ballot g t j r object_op h d.rests lt)

  -- ## What it leaves

  leaves_else : (p q : ℕ) → IsAway i r p q → IsAway j r p q → Leaves p q x
  leaves_else p q first second = record {
    opened = λ b e. subst (λ (z : Opening). IsAway z.instance z.replica p q) (same_Some next b e) second;
    learnt =
        λ b e.
        subst (λ (z : Opening). IsAway z.instance z.replica p q) (same_Some last b e)
        (λ ei er. first (sym last_is.instance ∙ ei) (sym last_is.replica ∙ er));
    submission =
        λ s e.
        subst (λ (z : Submission). IsAway z.instance z.replica p q)
        (same_Some (vote_at j r object_op) s (sym l.vote ∙ e)) second;
    message = λ n e. subst (λ (z : Message). IsAway z.instance z.to p q) (same_Some m n e) first;
  }

  left : (p : ℕ) → p ≢ i → p ≢ j → Leaves p r x
  left p ni nj = leaves_else p r (λ e f. ni (sym e)) (λ e f. nj (sym e))

  -- ## The first instance: the ballot ends

  -- what the proposer keeps once the reply counts
  abbrev heeding : ProposerState
  heeding = with_new g t k m l.reply l.body h was_sent l.heeded

  nothing : is_nothing heeding.waiting ≡ true
  nothing = ap is_nothing d.nothing_waits

  none_here : only i r (Some next) ≡ None
  none_here = cond-false (is_of i r next) (Some next) None (not_both j r i r (λ e f. d.apart e))

  submitted_here : submitted_ops (x ∷ t) i r ≡ submitted_ops t i r
  submitted_here = submitted-none x t i r
      (ap (object_op_in i r) l.vote
      ∙ cond-false ((j == i) && (r == r)) (object_op ∷ []) [] (not_both j r i r (λ e f. d.apart e)))

  last_here : only i r (Some last) ≡ Some last
  last_here = last_only g t k m l.reply l.body h was_sent l.heeded

  first_after : proposer_state g (x ∷ t) i r ≡ proposer.closed heeding
  first_after =
      proposer_state_is g (x ∷ t) i r last false (counted_replies (x ∷ t) i r last.ballot) (submitted_ops t i r)
      (reports (x ∷ t) i r)
      (round-same x t i r none_here) (is_open-learnt x t i r last none_here last_here) refl submitted_here refl
      ∙ ap (keeping g i r last false [] heeding.waiting)
      (told_after g t k m l.reply l.body h was_sent l.heeded (did.Learnt last (Some next)))

  heard_so : heard_of (proposer_state g t i r) m.from m.ballot l.reply ≡ heard.Learnt last.updates None
  heard_so =
      heard_is g t k m l.reply l.body h was_sent l.heeded ∙ ap (heard_by heeding) l.learns
      ∙ ap (heard.Learnt last.updates)
      (cond-true (is_nothing heeding.waiting) None (Some (proposer.next_ballot heeding)) nothing)

  kept_so : after_reply (proposer_state g t i r) m.from m.ballot l.reply ≡ proposer_state g (x ∷ t) i r
  kept_so =
      kept_is g t k m l.reply l.body h was_sent l.heeded ∙ ap (after_verdict heeding) l.learns
      ∙ cond-true (is_nothing heeding.waiting) (proposer.closed heeding) (proposer.after_opening heeding) nothing
      ∙ sym first_after

  first_is : record { acceptor = accepted_there t i r; proposer = proposer_state g (x ∷ t) i r; learnt = Some (record { number = m.ballot; updates = last.updates }) } ≡ instance_of g (x ∷ t) r i
  unfolding instance_of
  first_is = λ q. record {
    acceptor =
        sym (accepted-none x t i r (no_offer g t k m there (ap offered l.body ∙ reply_offers g t k m there l.reply))) q;
    proposer = proposer_state g (x ∷ t) i r;
    learnt =
        sym (last_learnt_ballot-some x t i r last last_here ∙ learnt_number g t k m l.reply l.body h was_sent l.heeded) q;
  }

  abbrev sender : Sender
  sender = record { replicas = replicas g; from = r; instance = i }

  -- what is said and sent by that
  abbrev learning : Out
  learning = record { said = said.Learnt last.updates None; mail = tells_for (replicas g) last ++ [] }

  hears_so : steps.receives_body sender (instance_of g t r i) (trace_view t r) m (body_of l.reply)
      ≡ steps.step_of learning (instance_of g (x ∷ t) r i) (trace_view (x ∷ t) r)
  unfolding instance_of
  hears_so =
      let mail = ap (λ z. z ++ []) (tells_are g t k m l.reply l.body h was_sent l.heeded) in
      let seen = last_seen g t k m l.reply l.body h was_sent l.heeded (Some next) in
      hearing_step g t k m there l.reply
      ∙ ap₂ (steps.hears_as sender (instance_of g t r i) (trace_view t r) m.ballot) heard_so kept_so
      ∙ (λ q. record { said = said.Learnt last.updates None; mail = mail q; at = first_is q; view = seen q })

  -- the replica between the two
  abbrev middle : ReplicaState
  middle = record { votes = g.votes; own = r; instances = between g x t i r; view = trace_view (x ∷ t) r }

  receives_so : acting.receives (replica_state g t r) m ≡ Some (learning, middle)
  unfolding replica_state
  receives_so =
      ap
      (λ b.
      option_map (λ y. acting.after_step (replica_state g t r) i (steps.receives_body sender y (trace_view t r) m b))
      (slice_get (replica_state g t r).instances i)) l.body
      ∙ ap
      (option_map
      (λ y.
      acting.after_step (replica_state g t r) i (steps.receives_body sender y (trace_view t r) m (body_of l.reply))))
      (get_instance g t r i there)
      ∙ ap (λ s. Some (acting.after_step (replica_state g t r) i s)) hears_so

  -- ## The second instance: a ballot opens

  of_next : IsOf j r next
  of_next = record { instance = refl; replica = refl }

  sent_before : (n : Message) → x.delivered ≡ Some n → IsIn n (sent (replicas g) t)
  sent_before n e = subst (λ z. IsIn z (sent (replicas g) t)) (same_Some m n e) was_sent

  second_after : proposer_state g (x ∷ t) j r ≡ after_submission (proposer_state g t j r) object_op
  second_after =
      opened_after g t j r object_op h d.rests lt x sent_before (only_of j r next of_next)
      (submitted_with x t j r (vote_at j r object_op) l.vote refl refl)
      (reports-away x t j r (λ n e ei er. d.apart (sym ei ∙ ap (λ (z : Message). z.instance) (sym (same_Some m n e)))))

  abbrev voted : Instance
  voted = record { acceptor = accepted_there t j r; proposer = after_submission (proposer_state g t j r) object_op; learnt = last_learnt_ballot t j r }

  second_is : voted ≡ instance_of g (x ∷ t) r j
  unfolding instance_of
  second_is = λ q. record {
    acceptor =
        sym
        (accepted-none x t j r
        (cond-false ((i == j) && (r == r)) (offered m.body) [] (not_both i r j r (λ e f. d.apart (sym e))))) q;
    proposer = sym second_after q;
    learnt =
        sym
        (last_learnt_ballot-none x t j r
        (cond-false (is_of j r last) (Some last) None
        (not_both last.instance last.replica j r (λ e f. d.apart (sym e ∙ last_is.instance))))) q;
  }

  abbrev casting : Out
  casting = record { said = said.Opened (ballot_of next); mail = offers_for (replicas g) next }

  submits_so : acting.submits middle j object_op ≡ Some (casting, replica_state g (x ∷ t) r)
  unfolding replica_state instance_of
  submits_so =
      ap
      (option_map
      (λ y. acting.after_step middle j (steps.submits (acting.sender_of middle j) y (trace_view (x ∷ t) r) object_op)))
      (get_second g x t i j r d.apart there (d.there there) left)
      ∙ ap₂ (λ w z. Some (record { said = w; mail = z }, record middle { instances = slice_set middle.instances j voted })) (opened_said g t j r object_op h d.rests lt) (opened_mail g t j r object_op h d.rests lt)
      ∙ ap (λ ys. Some (casting, record middle { instances = ys }))
      (ap (slice_set middle.instances j) second_is ∙ after_both g x t i j r d.apart there (d.there there) left)

  -- ## Both

  vote_is : second_vote_in i r last.updates ≡ Some (vote_at j r object_op)
  vote_is = ap₂ (λ a q. second_vote_in a q last.updates) (sym last_is.instance) (sym last_is.replica) ∙ l.vote

  takes_so : takes (replica_state g t r) m ≡ Some (receipt_taken (replicas g) x, replica_state g (x ∷ t) r)
  unfolding replica_state
  takes_so =
      ap (option_and_then (λ (made : Out × ReplicaState). then_votes made (vote_due i r made.0.said))) receives_so
      ∙ ap (then_votes (learning, middle)) vote_is
      ∙ ap (option_map (λ (cast : Out × ReplicaState). (with_vote learning j cast.0, cast.1))) submits_so
      ∙ ap (λ z. Some (with_vote (record { said = said.Learnt last.updates None; mail = z }) j casting, replica_state g (x ∷ t) r)) (append-nil (tells_for (replicas g) last))
      ∙ ap (λ v. Some (record { said = said.Learnt last.updates (opened_there (Some next) v); voted = voted_with (Some next) v; mail = tells_for (replicas g) last ++ offers_for (replicas g) next }, replica_state g (x ∷ t) r)) (sym l.vote)

  -- the step is what the trace says
  pub votes_as : let y = entry_of (Deliver k) (Some m) (does_receive g t (Some m)) in StepsAs g t y r (receipt_taken (replicas g) y) (takes (replica_state g t r) m)
  votes_as =
      subst
      (λ d.
      let y = entry_of (Deliver k) (Some m) d in
      StepsAs g t y r (receipt_taken (replicas g) y) (takes (replica_state g t r) m)) (sym did_is) record {
        step = takes_so;
        others = λ q ne. replica_state-left g x t q (λ p. leaves_else p q (λ e f. ne (sym f)) (λ e f. ne (sym f)));
      }
