-- What was sent, as it is told, stands at its receiver for what was sent.
use Rattle.std.proofs.Common.{◌≡◌, ℕ, ◌≤◌, Bool, true, false, length, slice_get, Some, option_map, IfSome, refl, ap, sym, ◌∙◌, subst, arith}
use Rattle.la_set.specs.Histories.{Histories, count, IsWithinLimit}
use Rattle.la_set.specs.Inclusion.{IsSubset}
use Rattle.la_set.specs.Counts.{count_in}
use Rattle.la_set.proofs.lemmas.Counting.{count_in-counts_of}
use Rattle.la_set.proofs.lemmas.Inclusions.{subset-count, compatible-within}
use Rattle.la_acceptor.specs.declared.reply.Reply.TheVariants as replied
use Rattle.la_proposer.specs.ProposerState as proposer
use Rattle.la_replica.specs.declared.instance.Instance.{Instance}
use Rattle.la_replica.specs.declared.message.Message as code
use Rattle.la_replica.specs.declared.message.Body as code_body
use Rattle.la_replica.specs.declared.message.Body.TheVariants as body
use Rattle.la_replica.specs.Whole.{set_of, whole_body, whole_of}
use Rattle.la_replica.specs.Received.{told_in_body, refusal_over}
use Rattle.la_world.specs.Groups.{Group, replicas}
use Rattle.la_world.specs.Events.{Past}
use Rattle.la_world.specs.Trace.{Trace}
use Rattle.la_world.specs.Sent.{sent}
use Rattle.la_world.specs.Acceptors.{accepted_there}
use Rattle.la_world.specs.Ballots.{round}
use Rattle.la_world.specs.Playing.{trace}
use Rattle.la_world.specs.ReplicaStates.{proposer_state, instance_of}
use Rattle.la_world.specs.StandsFor.{IsLegalTrace}
use Rattle.la_world.specs.Told.{told_messages, StandsBody}
use Rattle.la_world.proofs.Lists.{IsIn, IsIn_get}
use Rattle.la_world.proofs.Within.{set_in}
use Rattle.la_world.proofs.OwnBound.{own_bound, history-own_bound}
use Rattle.la_world.proofs.Once.{submitted_most}
use Rattle.la_world.proofs.Replying.{counts_is as same_counts}
use Rattle.la_world.proofs.RefusedForMemory.{cap_small}
use Rattle.la_world.proofs.StoredMessages.{message_at}
use Rattle.la_world.proofs.Tellings.{told_carries, told_messages_stand}
use Rattle.la_world.proofs.Traces.{holds, message_known, round_known, own_count}
use Rattle.la_world.proofs.Deliverable.{IsDeliverable, IsDeliverableAt}

module _ (g : Group) (events : Past) (legal : IsLegalTrace g events) (small : g.cap ≤ 1000000) (k : ℕ) (m : code.Message)
    (stored : slice_get (told_messages (replicas g) (trace g events)) k ≡ Some m) where
  abbrev t : Trace
  t = trace g events

  -- it carries the one that was sent
  pub told_sent : slice_get (sent (replicas g) t) k ≡ Some (whole_of m)
  told_sent =
      sym (message_at (told_messages (replicas g) t) (sent (replicas g) t) k (told_carries (replicas g) t))
      ∙ ap (option_map whole_of) stored

  abbrev at : Instance
  at = instance_of g t m.to m.instance

  was_sent : IsIn (whole_of m) (sent (replicas g) t)
  was_sent = IsIn_get (sent (replicas g) t) k (whole_of m) told_sent

  pub known : (b : code_body.Body) → m.body ≡ b → IsSubset (set_in (whole_body b)) (own_bound t m.instance)
  known b is =
      subst (λ c. IsSubset (set_in (whole_body c)) (own_bound t m.instance)) is
      (message_known g t (holds g events) (whole_of m) was_sent)

  pub within_limit : (s : Histories) → IsSubset s (own_bound t m.instance) → IsWithinLimit s
  within_limit s sub q =
      let counted : count (own_bound t m.instance) q ≤ count (round t m.instance q).updates q =
      omega (arith, ap length (history-own_bound t m.instance q)) in
      omega (
        arith,
        subset-count s (own_bound t m.instance) sub q,
        counted,
        own_count g t (holds g events) m.instance q,
        submitted_most g events legal m.instance q,
        cap_small g m.instance small,
      )

  body_deliverable : (b : code_body.Body) → m.body ≡ b → StandsBody t m b
      → IfSome (told_in_body at m.from m.ballot b) IsDeliverable
  unfolding instance_of proposer_state
  body_deliverable (body.Offer d) is st =
      let sub = known (body.Offer d) is in
      record {
        mine = st.1;
        theirs = st.0;
        few = within_limit (set_of d) sub;
        fits =
            compatible-within (accepted_there t m.instance m.to) (set_of d) (own_bound t m.instance)
            ((holds g events).within.acceptor m.instance m.to) sub;
      }
  body_deliverable body.Yes is st = tt
  body_deliverable (body.No d) is st = go (proposer.counts (proposer_state g t m.instance m.to) m.from m.ballot) refl
    where
      go : (v : Bool) → proposer.counts (proposer_state g t m.instance m.to) m.from m.ballot ≡ v
          → IfSome (refusal_over v (round t m.instance m.to).updates d) IsDeliverable
      go true e = record {
        mine =
            λ q.
            omega (
              arith,
              ap (λ c. count_in c q)
                  (st.1
                  (sym
                  (same_counts g t k (whole_of m) (replied.No (set_of d)) (ap whole_body is) (holds g events)
                  was_sent) ∙ e)),
              count_in-counts_of (round t m.instance m.to).updates q,
            );
        theirs = st.0;
        few = within_limit (set_of d) (known (body.No d) is);
        fits =
            compatible-within (round t m.instance m.to).updates (set_of d) (own_bound t m.instance)
            (round_known g t (holds g events) m.instance m.to) (known (body.No d) is);
      }
      go false e = tt
  body_deliverable (body.Tell set) is st = tt

  pub told_deliverable : IsDeliverableAt at m
  told_deliverable = body_deliverable m.body refl (told_messages_stand g events k m stored)
