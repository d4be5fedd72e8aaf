-- What a member has submitted at an adopt-commit object, and which votes it cast by that.
use Rattle.std.proofs.Common.{◌≡◌, inl, inr, ℕ, zero, suc, Bool, true, false, List, [], ◌∷◌, Option, Some, None, option_map, refl, ap, sym, ◌∙◌, subst}
use Rattle.std.specs.Prelude.{option_and_then, if◌then◌else◌}
use Rattle.la_set.specs.declared.update.UpdateId.{UpdateId}
use Rattle.la_set.specs.declared.update.Update.{Update}
use Rattle.la_set.specs.Histories.{Histories, history, object_op_number, get}
use Rattle.la_set.specs.ObjectOps.{ObjectOp, object_op_of, update_of}
use Rattle.la_acceptor.specs.declared.reply.Reply.TheVariants.{Yes}
use Rattle.la_commit.specs.declared.vote.Vote.{Vote}
use Rattle.la_commit.specs.Instances.{first_instance, second_instance}
use Rattle.la_commit.specs.Votes.{vote_of, own_vote, proposal, HoldsVote, casts, first_vote_for, second_vote_for}
use Rattle.la_commit.proofs.lemmas.Casting.{own_vote-cast}
use Rattle.la_proposer.proofs.lemmas.Theorems.{majorities_meet}
use Rattle.la_runner.specs.Invariant.{IsMember}
use Rattle.la_runner.specs.Members.{MemberState, member_submitted, IsOwnCertified}
use Rattle.la_runner.specs.Participants.{HasProposed, HasVoted}
use Rattle.la_runner.specs.Sound.{IsMemberSubmission}
use Rattle.la_runner.proofs.Proposing.{some_same, none_some}
use Rattle.la_runner.proofs.Standing.{own_submitted, learnt_is}

-- what stands under an id has it
pub id_of : (id : UpdateId) (o : Option ObjectOp) (u : Update) → option_map (update_of id.replica id.number) o ≡ Some u
    → u.id ≡ id
id_of id None u e = absurd (none_some e)
id_of id (Some d) u e = ap (λ (v : Update). v.id) (sym (some_same e))

none_numbered : (ds : List ObjectOp) (d : ObjectOp) (n : ℕ) → ds ≡ [] → object_op_number ds n ≡ Some d → ⊥
none_numbered ds d zero e is = none_some is
none_numbered ds d (suc n) e is = none_some (sym (ap (λ l. object_op_number l (suc n)) e) ∙ is)

-- the one update that was submitted casts the one vote
one_numbered : (ds : List ObjectOp) (k : ℕ) (v w : Vote) (u : Update) (n : ℕ) → ds ≡ casts k v ∷ []
    → object_op_number ds n ≡ Some (object_op_of u) → vote_of u.op ≡ Some w → w ≡ v
one_numbered ds k v w u zero e is cast = absurd (none_some is)
one_numbered ds k v w u (suc zero) e is cast =
    let same : casts k v ≡ object_op_of u = some_same (sym (ap (λ l. object_op_number l 1) e) ∙ is) in
    some_same (sym cast ∙ sym (ap (λ (d : ObjectOp). vote_of d.op) same))
one_numbered ds k v w u (suc (suc n)) e is cast =
    absurd (none_some (sym (ap (λ l. object_op_number l (suc (suc n))) e) ∙ is))

-- the value of a member's own vote in a first set of its own is the one that it proposed
pub proposed_there : (m : MemberState) → IsMember m → (k value : ℕ) (s : Histories)
    → IsOwnCertified m (first_instance k) s → HoldsVote s m.replica (first_vote_for value) → HasProposed m k value
proposed_there m is k value s own holds =
    let there = majorities_meet m.votes own.0 own.0 own.1 own.1 in
    let mine : UpdateId = record { replica = m.replica; number = 1 } in
    let at = own_vote-cast s m.replica (first_vote_for value) holds in
    let named : at.0.id ≡ mine = id_of mine (object_op_number (history s m.replica) 1) at.0 at.1 in
    let given =
    own_submitted m is (first_instance k) there.0 s Yes (own.2 there.0 there.3) at.0 (ap (get s) named ∙ at.1)
    (ap (λ (i : UpdateId). i.replica) named) in
    elim (is.participant k).first [
      | inl none ↦ absurd (none_numbered (member_submitted m (first_instance k)) (object_op_of at.0) at.0.id.number none given.1)
      | inr p ↦
          let same =
          one_numbered (member_submitted m (first_instance k)) k (first_vote_for p.0) (first_vote_for value) at.0
          at.0.id.number p.1 given.1 at.2 in
          subst (HasProposed m k) (sym (ap (λ (v : Vote). v.value) same)) p.1
    ]

-- a vote that a first set led to, in which its member's own vote is that of its proposal
pub record IsLedTo (m : MemberState) (k : ℕ) (v : Vote) : Type 0 where
  pub first : Histories
  pub value : ℕ
  pub own : IsOwnCertified m (first_instance k) first
  pub holds : HoldsVote first m.replica (first_vote_for value)
  pub leads : v ≡ second_vote_for first value

leads_from : (first : Histories) (o : Option Vote) (v : Vote)
    → option_map (second_vote_for first) (option_and_then proposal o) ≡ Some v
    → (value : ℕ) × (o ≡ Some (first_vote_for value)) × (v ≡ second_vote_for first value)
leads_from first None v e = absurd (none_some e)
leads_from first (Some w) v e = go w.sole refl
  where
    by_sole : Bool → Option Vote
    by_sole b = option_map (second_vote_for first) (if b then None else Some w.value)

    go : (b : Bool) → w.sole ≡ b
        → (value : ℕ) × (Some w ≡ Some (first_vote_for value)) × (v ≡ second_vote_for first value)
    go true s = absurd (none_some (sym (ap by_sole s) ∙ e))
    go false s = (w.value, (λ i. Some (record { value = w.value; sole = s i })), some_same (sym e ∙ ap by_sole s))

led_by : (m : MemberState) → IsMember m → (k : ℕ) (v : Vote) → (h : HasVoted m k) → v ≡ h.vote → IsLedTo m k v
led_by m is k v h same =
    let from = leads_from h.first (own_vote h.first m.replica) h.vote h.leads in
    record { first = h.first; value = from.0; own = learnt_is m is (first_instance k) h.first h.learnt; holds = from.1; leads = same ∙ from.2 }

-- a vote that a member submitted in a second instance is one that a first set led to
pub led_to : (m : MemberState) → IsMember m → (k : ℕ) (u : Update) (v : Vote)
    → IsMemberSubmission m.replica (member_submitted m (second_instance k)) u → vote_of u.op ≡ Some v → IsLedTo m k v
led_to m is k u v given cast = elim (is.participant k).second [
  | inl none ↦ absurd (none_numbered (member_submitted m (second_instance k)) (object_op_of u) u.id.number none given.1)
  | inr h ↦ led_by m is k v h (one_numbered (member_submitted m (second_instance k)) k h.vote v u u.id.number h.cast given.1 cast)
]
