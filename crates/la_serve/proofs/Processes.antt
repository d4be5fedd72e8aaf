-- Nodes as processes of their own stay together.
use Rattle.std.proofs.Common.{◌≡◌, inl, inr, ℕ, zero, suc, ◌+◌, nat_lt, ◌==◌, Bool, true, false, ◌&&◌, cond, eqb, List}
use Rattle.std.proofs.Common.{[], ◌∷◌, ◌++◌, length, map, slice_get, slice_set, Contains, Option, Some, None, refl, sym}
use Rattle.std.proofs.Common.{option_and_then, ap, subst, ◌∙◌, append-nil, arith}
use Rattle.std.specs.List.{range_with_len}
use Rattle.std.proofs.lemmas.Bool.{eqb-true, false≢true}
use Rattle.std.proofs.lemmas.List.Elements.{Contains-append_left, Contains-append_right, Contains-append_cases}
use Rattle.std.proofs.lemmas.Option.{none-some, same_Some}
use Rattle.la_set.specs.declared.update.Op.{Op}
use Rattle.la_set.specs.declared.update.Op.TheVariants as op
use Rattle.la_set.specs.ObjectOps.{ObjectOp}
use Rattle.la_proposer.specs.Majority.{votes_of}
use Rattle.la_proposer.specs.ProposerState.{op_on}
use Rattle.la_commit.specs.Instances.{first_instance}
use Rattle.la_commit.specs.Votes.{first_vote}
use Rattle.la_replica.specs.declared.message.Message as code
use Rattle.la_replica.specs.declared.parcel.Content.{Content}
use Rattle.la_replica.specs.declared.parcel.Content.TheVariants as content
use Rattle.la_replica.specs.Messages.{group}
use Rattle.la_replica.specs.Parcels.{AreAlikeParcels, AreAlikeContents, unwrapped_in, view_of}
use Rattle.la_replica.specs.Received.{received_in}
use Rattle.la_replica.specs.ReplicaState.{ReplicaState, start, sender_of, after_step, submits, receives}
use Rattle.la_replica.specs.Steps.{learnt_in}
use Rattle.la_replica.specs.Steps as steps
use Rattle.la_replica.specs.Whole.{Message, Out}
use Rattle.la_node.specs.declared.config.Config.{Config}
use Rattle.la_node.specs.declared.link.Letter.{Letter}
use Rattle.la_node.specs.declared.link.Sending.TheVariants as sending
use Rattle.la_node.specs.Links.{letters_of, letters_sent, is_chosen}
use Rattle.la_node.specs.Accepting.{accepts, is_for, takes_message, unwraps, parcel_call}
use Rattle.la_node.specs.Calls.{NodeCall, Submitted, Proposed, Received}
use Rattle.la_node.specs.SecondVotes.{Submission}
use Rattle.la_node.specs.Steps.{Given, node_step, step_given, of_submission, of_receipt}
use Rattle.la_node.specs.Taking.{Taken, takes, then_votes, vote_due, with_vote, without_vote}
use Rattle.la_node.proofs.lemmas.Tests.{decides-unwraps}
use Rattle.la_node.proofs.lemmas.Stepping.{some_of}
use Rattle.la_wire.specs.Messages.{WireMessage, letter_message, said_content}
use Rattle.la_wire.specs.MessageLines.{message_text}
use Rattle.la_wire.specs.Calls.{WireCall, Submit, Decide, Ask, Tick, Receive, Known}
use Rattle.la_wire.specs.CallLines.{named_call, call_line_text}
use Rattle.la_wire.specs.Requests.{IsSubmission}
use Rattle.la_wire.specs.Writable.{IsTypedMessage}
use Rattle.la_durable.specs.CallLines.{CallLine}
use Rattle.la_durable.specs.Nodes.{acts, node_call, parcel_of, content_of}
use Rattle.la_durable.specs.Restarts.{LeadBetween, RestartsTakeCalls}
use Rattle.la_world.proofs.lemmas.Letters.{some_letters}
use Rattle.la_world.specs.LiveGroups.{LearntSet, learnt_set, learnt_by_call}
use Rattle.la_world.specs.Together.{AreTogether, IsOfLetters, IsBrought, LeadBrought, NewReplicasAreTogether}
use Rattle.la_world.specs.Together.{CallsKeepTogether, FewerLettersKeepTogether, LostCallsKeepTogether}
use Rattle.la_world.specs.Together.{RepeatsKeepTogether, newest_first}
use Rattle.la_world.specs.Moments.{TogetherKeepAll, TogetherKeepAllOfEvents}
use Rattle.la_serve.specs.Heard.{HeardLine}
use Rattle.la_serve.specs.Turns.{ServerState, Turn, noted_by}
use Rattle.la_serve.specs.Starting.{newly_started}
use Rattle.la_serve.specs.Processes.{kept_of_all, AreProcesses, IsLineOf, IsHandedCall, IsHandedLine}
use Rattle.la_serve.specs.Processes.{AreCallsOfTurn, NewProcessesAreTogether, TurnsKeepTogether, RestartsKeepTogether}
use Rattle.la_serve.specs.Processes.{ProcessesKeepAll, ProcessesKeepAllOfEvents}
use Rattle.la_serve.proofs.TurnKinds.{IsQuiet, IsHeardSo, Repeats, Takes, IsWhat, what}

-- ## What a node reads of a letter

alike_read : (c : Content) → AreAlikeContents (content_of (said_content c)) c
alike_read (content.Offer d) = (refl, refl)
alike_read content.Yes = tt
alike_read (content.No d) = (refl, refl)
alike_read (content.Tell d) = (refl, refl)

parcel_read : (letter : Letter) → AreAlikeParcels (parcel_of (letter_message letter)) letter.parcel
parcel_read letter =
    record { instance = refl; from = refl; to = refl; ballot = refl; content = alike_read letter.parcel.content }

-- a line that was written of a letter is never read as another one
abbrev LettersAreReadBack : Type 0
LettersAreReadBack =
    (m n : WireMessage) → IsTypedMessage m → named_call (message_text m) ≡ Some (Receive n) → n ≡ m

of_letters : LettersAreReadBack → (letters : List Letter) (line : List ℕ) (m : WireMessage)
    → named_call line ≡ Some (Receive m) → ((letter : Letter) × Contains letters letter × IsLineOf letter line)
    → IsOfLetters (parcel_of m) letters
of_letters back letters line m says (letter, has, is) =
    let same : m ≡ letter_message letter =
    back (letter_message letter) m is.typed (ap named_call (sym is.text) ∙ says) in
    (letter, has, subst (λ x. AreAlikeParcels (parcel_of x) letter.parcel) (sym same) (parcel_read letter))

-- ## A call of a line

pub where_some : {A : Type 0} (b : Bool) (k call : A) → cond b (Some k) None ≡ Some call → (b ≡ true) × (k ≡ call)
where_some true k call e = (refl, same_Some k call e)
where_some false k call e = absurd (none-some call e)

pub where_then : {A : Type 0} (b : Bool) (o : Option A) (call : A) → cond b o None ≡ Some call → (b ≡ true) × (o ≡ Some
    call)
where_then true o call e = (refl, e)
where_then false o call e = absurd (none-some call e)

and_left : (a b : Bool) → (a && b) ≡ true → a ≡ true
and_left true b e = refl
and_left false b e = e

and_right : (a b : Bool) → (a && b) ≡ true → b ≡ true
and_right true b e = e
and_right false b e = absurd (false≢true e)

some_then : {A B : Type 0} (f : A → Option B) (o : Option A) (y : B) → option_and_then f o ≡ Some y
    → (x : A) × (o ≡ Some x) × (f x ≡ Some y)
some_then f None y e = absurd (none-some y e)
some_then f (Some x) y e = (x, refl, e)

-- what is done for a call of a line
pub call_of_line : (n : ReplicaState) (call : WireCall) (made : Given × ReplicaState) → acts n call ≡ Some made
    → (action : NodeCall) × (node_call n call ≡ Some action) × (node_step n action ≡ Some made)
unfolding acts
call_of_line n call made e = some_then (node_step n) (node_call n call) made e

-- a step was accepted
accepted : (q : ReplicaState) (call : NodeCall) (made : Given × ReplicaState) → node_step q call ≡ Some made
    → (accepts q call ≡ true) × (step_given q call ≡ Some made)
accepted q call made e = where_then (accepts q call) (step_given q call) made e

-- a message that is accepted is for its receiver
to_own : (q : ReplicaState) (m : code.Message) → accepts q (Received m) ≡ true → m.to ≡ q.own
unfolding accepts
to_own q m e =
    eqb-true m.to q.own
    (and_right (nat_lt m.from (length q.votes)) (m.to == q.own)
    (and_left (is_for q m) (takes_message (slice_get q.instances m.instance) m) e))

-- ## A step keeps its replica's number

own_submitting : (q : ReplicaState) (i : ℕ) (d : ObjectOp) (x : Out × ReplicaState) → submits q i d ≡ Some x
    → x.1.own ≡ q.own
own_submitting q i d x e =
    let s = some_of (λ y. after_step q i (steps.submits (sender_of q i) y q.view d)) (slice_get q.instances i) x e in
    ap (λ (p : Out × ReplicaState). p.1.own) (sym s.2)

own_receiving : (q : ReplicaState) (m : Message) (x : Out × ReplicaState) → receives q m ≡ Some x → x.1.own ≡ q.own
own_receiving q m x e =
    let s = some_of (λ y. after_step q m.instance (steps.receives (sender_of q m.instance) y q.view m))
    (slice_get q.instances m.instance) x e in
    ap (λ (p : Out × ReplicaState). p.1.own) (sym s.2)

own_voting : (made : Out × ReplicaState) (o : Option Submission) (y : Taken × ReplicaState) → then_votes made o ≡ Some y
    → y.1.own ≡ made.1.own
own_voting made None y e = ap (λ (p : Taken × ReplicaState). p.1.own) (sym (same_Some (without_vote made.0, made.1)
    y e))
own_voting made (Some vote) y e =
    let s = some_of (λ (cast : Out × ReplicaState). (with_vote made.0 vote.instance cast.0, cast.1))
    (submits made.1 vote.instance vote.object_op) y e in
    ap (λ (p : Taken × ReplicaState). p.1.own) (sym s.2)
    ∙ own_submitting made.1 vote.instance vote.object_op s.0 s.1

own_taking : (q : ReplicaState) (m : Message) (y : Taken × ReplicaState) → takes q m ≡ Some y → y.1.own ≡ q.own
own_taking q m y e =
    let s = some_then
    (λ (made : Out × ReplicaState). then_votes made (vote_due m.instance q.own made.0.said)) (receives q m) y e in
    own_voting s.0 (vote_due m.instance q.own s.0.0.said) y s.2 ∙ own_receiving q m s.0 s.1

own_given : (q : ReplicaState) (call : NodeCall) (made : Given × ReplicaState) → step_given q call ≡ Some made
    → made.1.own ≡ q.own
unfolding step_given
own_given q (Submitted d) made e =
    let s = some_of of_submission (submits q 0 d) made e in
    ap (λ (p : Given × ReplicaState). p.1.own) (sym s.2) ∙ own_submitting q 0 d s.0 s.1
own_given q (Proposed k value) made e =
    let s = some_of of_submission (submits q (first_instance k) (first_vote k value)) made e in
    ap (λ (p : Given × ReplicaState). p.1.own) (sym s.2)
    ∙ own_submitting q (first_instance k) (first_vote k value) s.0 s.1
own_given q (Received m) made e =
    let s = some_of (of_receipt q m) (takes q (received_in q m)) made e in
    ap (λ (p : Given × ReplicaState). p.1.own) (sym s.2) ∙ own_taking q (received_in q m) s.0 s.1

own_step : (q : ReplicaState) (call : NodeCall) (made : Given × ReplicaState) → node_step q call ≡ Some made
    → made.1.own ≡ q.own
own_step q call made e = own_given q call made (accepted q call made e).1

-- ## What is brought

module _ (letters : List Letter) (r : ℕ) (q : ReplicaState) (own : q.own ≡ r) (action : NodeCall)
    (accepts_it : accepts q action ≡ true) where
  -- the call that this line asks, and what it may note as learnt
  abbrev IsSo : WireCall → Type 0
  IsSo says = IsBrought letters r q action
      × ((given : Given) → noted_by q.own says given ≡ learnt_by_call r action given.said)

  received_so : (m : WireMessage) → IsOfLetters (parcel_of m) letters → unwraps q (parcel_of m) ≡ true
      → Received (unwrapped_in q (parcel_of m)) ≡ action → IsSo (Receive m)
  received_so m among unwraps is =
      let p = parcel_of m in
      let u = unwrapped_in q p in
      let to : m.to ≡ r = to_own q u (subst (λ a. accepts q a ≡ true) (sym is) accepts_it) ∙ own in
      subst (λ (a : NodeCall). IsBrought letters r q a
      × ((given : Given) → noted_by q.own (Receive m) given ≡ learnt_by_call r a given.said)) is (
        (p, refl, (decides-unwraps (view_of q p.instance) p.content).0 unwraps, to, among),
        λ given. ap (λ o. learnt_set m.instance o (learnt_in given.said)) own,
      )

  submitted_so : (b : Bool) (k : NodeCall) (says : WireCall) → cond b (Some k) None ≡ Some action
      → IsBrought letters r q k × ((given : Given) → noted_by q.own says given ≡ learnt_by_call r k given.said)
      → IsSo says
  submitted_so b k says e so =
      subst (λ (a : NodeCall). IsBrought letters r q a
      × ((given : Given) → noted_by q.own says given ≡ learnt_by_call r a given.said)) (where_some b k action e).1 so

  brought : (says : WireCall) → node_call q says ≡ Some action
      → ((m : WireMessage) → says ≡ Receive m → m.to ≡ r → IsOfLetters (parcel_of m) letters) → IsSo says
  brought (Submit replica object op) is may =
      submitted_so (eqb replica q.own) (Submitted (op_on object op)) (Submit replica object op) is (tt, λ given. refl)
  brought (Decide replica commit value) is may =
      submitted_so (eqb replica q.own) (Proposed commit value) (Decide replica commit value) is (tt, λ given. refl)
  brought (Ask replica object query) is may = absurd (none-some action is)
  brought Tick is may = absurd (none-some action is)
  brought (Known standing) is may = absurd (none-some action is)
  brought (Receive m) is may =
      let p = parcel_of m in
      let inner = (where_then (eqb m.replicas (length q.votes)) (parcel_call q p) action is).1 in
      let stands = where_some (unwraps q p) (Received (unwrapped_in q p)) action inner in
      let to : m.to ≡ r =
      to_own q (unwrapped_in q p) (subst (λ a. accepts q a ≡ true) (sym stands.1) accepts_it) ∙ own in
      received_so m (may m refl to) stands.0 stands.1

-- ## Places of a list

get_kept : (nodes : List ServerState) (r : ℕ) (n : ServerState) → slice_get nodes r ≡ Some n
    → slice_get (kept_of_all nodes) r ≡ Some n.kept
get_kept [] r n e = absurd (none-some n e)
get_kept (x ∷ xs) zero n e = ap (λ (m : ServerState). Some m.kept) (same_Some x n e)
get_kept (x ∷ xs) (suc r) n e = get_kept xs r n e

set_kept : (nodes : List ServerState) (r : ℕ) (n : ServerState)
    → kept_of_all (slice_set nodes r n) ≡ slice_set (kept_of_all nodes) r n.kept
set_kept [] r n = refl
set_kept (x ∷ xs) zero n = refl
set_kept (x ∷ xs) (suc r) n = ap (λ ss. x.kept ∷ ss) (set_kept xs r n)

set_same : (states : List ReplicaState) (r : ℕ) (q : ReplicaState) → slice_get states r ≡ Some q
    → slice_set states r q ≡ states
set_same [] r q e = refl
set_same (x ∷ xs) zero q e = ap (λ y. y ∷ xs) (sym (same_Some x q e))
set_same (x ∷ xs) (suc r) q e = ap (λ ss. x ∷ ss) (set_same xs r q e)

set_each : (P : ℕ → ServerState → Type 0) (xs : List ServerState) (r : ℕ) (m : ServerState)
    → ((s : ℕ) (k : ServerState) → slice_get xs s ≡ Some k → P s k) → P r m
    → (s : ℕ) (k : ServerState) → slice_get (slice_set xs r m) s ≡ Some k → P s k
set_each P [] r m all here s k e = all s k e
set_each P (x ∷ xs) zero m all here zero k e = subst (P zero) (same_Some m k e) here
set_each P (x ∷ xs) zero m all here (suc s) k e = all (suc s) k e
set_each P (x ∷ xs) (suc r) m all here zero k e = all zero k e
set_each P (x ∷ xs) (suc r) m all here (suc s) k e =
    set_each (λ j. P (suc j)) xs r m (λ j. all (suc j)) here s k e

-- the same by equal parts
moved : (c : Config) (calls : List (ℕ × NodeCall)) (states states2 : List ReplicaState) (letters letters2 : List Letter)
    (learnt learnt2 : List LearntSet) → states ≡ states2 → letters ≡ letters2 → learnt ≡ learnt2
    → AreTogether c calls states letters learnt → AreTogether c calls states2 letters2 learnt2
moved c calls states states2 letters letters2 learnt learnt2 p q s are =
    subst (λ x. AreTogether c calls states2 letters2 x) s
    (subst (λ x. AreTogether c calls states2 x learnt) q (subst (λ x. AreTogether c calls x letters learnt) p are))

-- ## They stay together

-- what is written of a submission says no message
abbrev pub SubmissionsAreReadSo : Type 0
SubmissionsAreReadSo =
    (replica object : ℕ) (does : Op) (c : WireCall) → named_call (call_line_text (Submit replica object does)) ≡ Some c
    → IsSubmission c

handed_so : SubmissionsAreReadSo → (letters : List Letter) (r : ℕ) (h : HeardLine) → IsHeardSo h
    → IsHandedLine letters r h.line → IsHandedCall letters r h.call
handed_so say letters r h (inl is) handed =
    subst (IsHandedCall letters r) (sym (ap (λ (x : HeardLine). x.call) is)) handed
handed_so say letters r h (inr (take, tags, is)) handed =
    λ m says to.
    absurd (say take.replica take.object (op.Remove tags) (Receive m)
    (sym (ap (λ (x : HeardLine). named_call x.call) is) ∙ says))

module _ (c : Config) (calls : List (ℕ × NodeCall)) (nodes : List ServerState) (letters : List Letter)
    (learnt : List LearntSet) (r : ℕ) (n : ServerState) (are : AreProcesses c calls nodes letters learnt)
    (at : slice_get nodes r ≡ Some n) where
  at_kept : slice_get (kept_of_all nodes) r ≡ Some n.kept
  at_kept = get_kept nodes r n at

  own : n.kept.own ≡ r
  own = are.own r n at

  owns_on : (m : ServerState) → m.kept.own ≡ r → (s : ℕ) (k : ServerState)
      → slice_get (slice_set nodes r m) s ≡ Some k → k.kept.own ≡ s
  owns_on m here = set_each (λ s k. k.kept.own ≡ s) nodes r m are.own here

  -- where nothing changes of what is kept
  same_states : (m : ServerState) → m.kept ≡ n.kept → kept_of_all nodes ≡ kept_of_all (slice_set nodes r m)
  same_states m same =
      sym (set_kept nodes r m ∙ ap (slice_set (kept_of_all nodes) r) same
      ∙ set_same (kept_of_all nodes) r n.kept at_kept)

  -- after a turn, with the calls that it took
  abbrev AreStill : Turn → Type 0
  AreStill t = (more : List (ℕ × NodeCall)) × AreCallsOfTurn r n t more
      × AreProcesses c (more ++ calls) (slice_set nodes r t.after) (letters ++ t.sent) (learnt ++ t.learnt)

  quiet_on : (t : Turn) → IsQuiet n t → AreStill t
  quiet_on t q = (
    [],
    inl refl,
    record {
      together =
          moved c calls (kept_of_all nodes) (kept_of_all (slice_set nodes r t.after)) letters (letters ++ t.sent) learnt
          (learnt ++ t.learnt) (same_states t.after q.1)
          (sym (ap (λ ls. letters ++ ls) q.2 ∙ append-nil letters))
          (sym (ap (λ ls. learnt ++ ls) q.3 ∙ append-nil learnt)) are.together;
      own = owns_on t.after (ap (λ (s : ReplicaState). s.own) q.1 ∙ own);
    },
  )

  again_on : RepeatsKeepTogether → (t : Turn) → Repeats n t → AreStill t
  again_on again t (known, over, why, it) =
      let kept : t.after.kept ≡ n.kept = ap (λ (u : Turn). u.after.kept) it.turn in (
        [],
        inl refl,
        record {
          together =
              moved c calls (kept_of_all nodes) (kept_of_all (slice_set nodes r t.after)) _ (letters ++ t.sent) learnt
              (learnt ++ t.learnt) (same_states t.after kept)
              (sym (ap (λ (u : Turn). letters ++ u.sent) it.turn))
              (sym (ap (λ (u : Turn). learnt ++ u.learnt) it.turn ∙ append-nil learnt))
              (again c calls (kept_of_all nodes) letters learnt r n.kept it.mail over (is_chosen over why) are.together
              at_kept it.whole it.over);
          own = owns_on t.after (ap (λ (s : ReplicaState). s.own) kept ∙ own);
        },
      )

  took_on : SubmissionsAreReadSo → CallsKeepTogether → FewerLettersKeepTogether → LettersAreReadBack → (t : Turn)
      → Takes n t → IsHandedLine letters r t.heard.line → AreStill t
  took_on say keep fewer back t it handed =
      let given = it.taken.given in
      let does = call_of_line n.kept it.call (given, t.after.kept) it.taken.acted in
      let so = brought letters r n.kept own does.0 (accepted n.kept does.0 (given, t.after.kept) does.2).0 it.call
      does.1
      (λ m same to.
      let says : named_call t.heard.call ≡ Some (Receive m) = it.says ∙ ap Some same in
      of_letters back letters t.heard.call m says (handed_so say letters r t.heard it.heard handed m says to)) in
      let all = letters_of it.known t.after.kept given.mail in
      let some = letters_sent it.known t.after.kept sending.Call given.mail in (
        (r, does.0) ∷ [],
        inr (does.0, refl, record { says = it.call; named = it.says; is = does.1 }),
        record {
          together =
              moved c ((r, does.0) ∷ calls) (slice_set (kept_of_all nodes) r t.after.kept)
              (kept_of_all (slice_set nodes r t.after)) _ (letters ++ t.sent) _ (learnt ++ t.learnt)
              (sym (set_kept nodes r t.after)) (ap (λ ls. letters ++ ls) (sym it.taken.sent))
              (ap (λ ls. learnt ++ ls) (sym (it.taken.learnt ∙ so.1 given)))
              (fewer c ((r, does.0) ∷ calls) (slice_set (kept_of_all nodes) r t.after.kept) (letters ++ all)
              (letters ++ some) _
              (keep c calls (kept_of_all nodes) letters learnt r n.kept t.after.kept does.0 given it.known are.together
              at_kept so.0 does.2)
              (λ letter has. elim (Contains-append_cases letters some letter has) [
                | inl old ↦ Contains-append_left letters all letter old
                | inr new ↦
                    Contains-append_right letters all letter
                    (some_letters it.known t.after.kept (is_chosen it.known sending.Call) given.mail letter new)
              ]));
          own = owns_on t.after (own_step n.kept does.0 (given, t.after.kept) does.2 ∙ own);
        },
      )

  turn_on : SubmissionsAreReadSo → CallsKeepTogether → FewerLettersKeepTogether → RepeatsKeepTogether
      → LettersAreReadBack → (t : Turn) → IsWhat n t → IsHandedLine letters r t.heard.line → AreStill t
  turn_on say keep fewer again back t (inl quiet) handed = quiet_on t quiet
  turn_on say keep fewer again back t (inr (inl repeats)) handed = again_on again t repeats
  turn_on say keep fewer again back t (inr (inr takes)) handed = took_on say keep fewer back t takes handed

pub turns : SubmissionsAreReadSo → CallsKeepTogether → FewerLettersKeepTogether → RepeatsKeepTogether
    → LettersAreReadBack → TurnsKeepTogether
turns say keep fewer again back c calls nodes letters learnt objects r k n t are at is handed =
    turn_on c calls nodes letters learnt r n are at say keep fewer again back t (what objects n k t is) handed

-- ## Restarts

lead_brought : LettersAreReadBack → (letters : List Letter) (r : ℕ) (handed : List CallLine)
    → ((c : CallLine) → Contains handed c → IsHandedCall letters r c.line) → (calls : List NodeCall)
    → (q after : ReplicaState) → q.own ≡ r → LeadBetween handed calls q after
    → LeadBrought letters r calls q after × (after.own ≡ r)
lead_brought back letters r handed may [] q after own is = (is, ap (λ (s : ReplicaState). s.own) (sym is) ∙ own)
lead_brought back letters r handed may (call ∷ calls) q after own is =
    let made = some_of (λ (x : Given × ReplicaState). x.1) (node_step q call) is.1.0 is.1.1 in
    let so = brought letters r q own call (accepted q call made.0 made.1).0 is.0.says is.0.is
    (λ m same to.
    let says : named_call is.0.line.line ≡ Some (Receive m) = is.0.named ∙ ap Some same in
    of_letters back letters is.0.line.line m says (may is.0.line is.0.among m says to)) in
    let next_own = ap (λ (s : ReplicaState). s.own) (sym made.2) ∙ own_step q call made.0 made.1 ∙ own in
    let rest = lead_brought back letters r handed may calls is.1.0 after next_own is.1.2 in
    ((so.0, (is.1.0, is.1.1, rest.0)), rest.1)

pub restarts : LostCallsKeepTogether → LettersAreReadBack → RestartsTakeCalls → RestartsKeepTogether
restarts lost back takes c calls nodes letters learnt r n start after handed file are at may leads to =
    let by = takes start n.kept after handed file leads to in
    let lead =
    lead_brought back letters r handed may by.0 n.kept after (own c calls nodes letters learnt r n are at) by.1 in (
      by.0,
      by.1,
      record {
        together =
            subst (λ ss. AreTogether c (newest_first r by.0 ++ calls) ss letters learnt)
            (sym (set_kept nodes r (newly_started after)))
            (lost c calls (kept_of_all nodes) letters learnt r n.kept after by.0 are.together
            (at_kept c calls nodes letters learnt r n are at) lead.0);
        own = owns_on c calls nodes letters learnt r n are at (newly_started after) lead.1;
      },
    )

-- ## Started for the first time

-- what comes at a place of a range
in_range : (first many i x : ℕ) → slice_get (range_with_len first many) i ≡ Some x → x ≡ first + i
in_range first zero i x e = absurd (none-some x e)
in_range first (suc many) zero x e =
    let here : first ≡ first + 0 = omega arith in sym (same_Some first x e) ∙ here
in_range first (suc many) (suc i) x e =
    let there : first + 1 + i ≡ first + suc i = omega arith in in_range (first + 1) many i x e ∙ there

get_state : (f : ℕ → ReplicaState) (rs : List ℕ) (i : ℕ) (q : ReplicaState) → slice_get (map f rs) i ≡ Some q
    → (x : ℕ) × (slice_get rs i ≡ Some x) × (f x ≡ q)
get_state f [] i q e = absurd (none-some q e)
get_state f (x ∷ rs) zero q e = (x, refl, same_Some (f x) q e)
get_state f (x ∷ rs) (suc i) q e = get_state f rs i q e

pub new_ones : NewReplicasAreTogether → NewProcessesAreTogether
new_ones new c nodes config are = record {
  together = subst (λ ss. AreTogether c [] ss [] []) (sym are) (new c config);
  own = λ r n at.
      let f : ℕ → ReplicaState = λ own. start (votes_of c.votes) own c.cap c.commits in
      let rs : List ℕ = group (length (votes_of c.votes)) in
      let s = get_state f rs r n.kept (ap (λ ss. slice_get ss r) (sym are) ∙ get_kept nodes r n at) in
      let plain : 0 + r ≡ r = omega arith in
      ap (λ (q : ReplicaState). q.own) (sym s.2) ∙ in_range 0 (length (votes_of c.votes)) r s.0 s.1 ∙ plain;
}

-- ## What they keep

pub all_kept : TogetherKeepAll → ProcessesKeepAll
all_kept keep c more calls before after letters others noted now was is =
    keep c more calls (kept_of_all before) (kept_of_all after) letters others noted now was.together is.together

pub events_kept : TogetherKeepAllOfEvents → ProcessesKeepAllOfEvents
events_kept keep c calls nodes letters learnt are = keep c calls (kept_of_all nodes) letters learnt are.together
