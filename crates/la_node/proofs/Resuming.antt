-- What the tests decide by which a node is made of a replica that is taken up again.
use Rattle.std.proofs.Common.{◌≡◌, ℕ, zero, suc, ◌<◌, ◌≤◌, ◌%◌, ◌==◌, ◌&&◌, ◌||◌, Bool, true, false, not, List, [], ◌∷◌, length, slice_get, Option, Some, None, IsSome, is_some, All, refl, ap, sym, ◌∙◌, subst, arith, inl, inr, leb}
use Rattle.std.specs.Bool.{Decides}
use Rattle.std.specs.List.{list_all}
use Rattle.std.proofs.lemmas.Bool.{leb-true, le-leb, cases_lt, false≢true, true≢false, false_from_ne_true, both_ways}
use Rattle.std.proofs.lemmas.Bool.Decides.{Decides-and, Decides-or, Decides-like, Decides-by_and, Decides-below_and, Decides-ltb, Decides-eqb}
use Rattle.std.proofs.lemmas.Option.{none-some, same_Some, slice_get_within, slice_get-get_or, get_or_from_slice_get}
use Rattle.la_set.proofs.lemmas.Decisions.{is_subset-Decides}
use Rattle.la_proposer.specs.declared.ballot.Ballot.{Ballot}
use Rattle.la_proposer.specs.ProposerState.{ProposerState, submitted}
use Rattle.la_commit.specs.Instances.{first_instance, second_instance}
use Rattle.la_replica.specs.declared.instance.Instance.{Instance}
use Rattle.la_replica.specs.ReplicaState.{ReplicaState}
use Rattle.la_node.specs.Nodes.{NodeState, IsNode, IsParticipant, SubmitsOnce}
use Rattle.la_node.specs.Resuming.{submits_once, instance_submits_once, follows_in, second_follows, seconds_follow, are_participants, may_resume_node}

Decides-leb : (a b : ℕ) → Decides (leb a b) (a ≤ b)
Decides-leb a b = (leb-true a b, le-leb a b)

pub none_of : {X : Type 0} (xs : List X) → length xs ≡ 0 → xs ≡ []
none_of [] e = refl
none_of (x ∷ xs) e = absurd (omega (arith, e))

none-Decides : {X : Type 0} (xs : List X) → Decides (length xs == 0) (xs ≡ [])
none-Decides xs = Decides-like (length xs == 0) (none_of xs) (λ e. ap length e) (Decides-eqb (length xs) 0)

-- what holds only where a test does
implied : (b c : Bool) (P : Type 0) → Decides c P → Decides (not b || c) (b ≡ true → P)
implied true c P d = ((λ e _. d.0 e), λ f. d.1 (f refl))
implied false c P d = ((λ _ e. absurd (false≢true e)), λ _. refl)

idle-Decides : (b : Bool) → Decides (not b) (b ≡ false)
idle-Decides true = ((λ e. absurd (false≢true e)), λ e. absurd (true≢false e))
idle-Decides false = ((λ _. refl), λ _. refl)

unused-Decides : (n m : ℕ) → Decides (leb 1 n || (m == 0)) (n ≡ 0 → m ≡ 0)
unused-Decides n m =
    Decides-like (leb 1 n || (m == 0))
    (λ either e. elim either [ inl some ↦ absurd (omega (arith, some, e)) | inr none ↦ none ])
    (λ f. elim (cases_lt 0 n) [ inl lt ↦ inl (omega (arith, lt)) | inr le ↦ inr (f (omega (arith, le))) ])
    (Decides-or (leb 1 n) (m == 0) (Decides-leb 1 n) (Decides-eqb m 0))

once-Decides : (p : ProposerState) (learnt : Option Ballot) → Decides (submits_once p learnt) (SubmitsOnce p learnt)
once-Decides p learnt =
    Decides-like (submits_once p learnt)
    (λ q. record {
      known = q.0;
      cap = q.1.0;
      waits = q.1.1.0;
      asks = q.1.1.1.0;
      learnt_idles = q.1.1.1.1.0;
      unused = q.1.1.1.1.1;
    })
    (λ is. (is.known, (is.cap, (is.waits, (is.asks, (is.learnt_idles, is.unused))))))
    (Decides-and _ _ (Decides-ltb p.own 8)
    (Decides-and _ _ (Decides-eqb p.cap 1)
    (Decides-and _ _ (none-Decides p.waiting)
    (Decides-and _ _ (implied p.is_asking (leb 1 (submitted p)) (1 ≤ submitted p) (Decides-leb 1 (submitted p)))
    (Decides-and _ _ (implied (is_some learnt) (not p.is_asking && leb 1 (submitted p)) ((p.is_asking ≡ false) × (1 ≤ submitted p)) (Decides-and _ _ (idle-Decides p.is_asking) (Decides-leb 1 (submitted p))))
    (unused-Decides (submitted p) p.number))))))

-- ## Second instances

abbrev Follows : Option Instance → Option Instance → Type 0
Follows first second =
    (x y : Instance) → first ≡ Some x → second ≡ Some y → 1 ≤ submitted y.proposer → IsSome x.learnt

follows-Decides : (first second : Option Instance) → Decides (follows_in first second) (Follows first second)
follows-Decides None second = ((λ _ x y e. absurd (none-some x e)), λ _. refl)
follows-Decides (Some x) None = ((λ _ u v e f. absurd (none-some v f)), λ _. refl)
follows-Decides (Some x) (Some y) =
    Decides-like (is_some x.learnt || (submitted y.proposer == 0))
    (λ either u v e f many. elim either [
      | inl learnt ↦ ap (λ (z : Instance). is_some z.learnt) (sym (same_Some x u e)) ∙ learnt
      | inr none ↦ absurd (omega (arith, many, none, ap (λ (z : Instance). submitted z.proposer) (same_Some y v f)))
    ])
    (λ all. elim (cases_lt 0 (submitted y.proposer)) [
      | inl lt ↦ inl (all x y refl refl (omega (arith, lt)))
      | inr le ↦ inr (omega (arith, le))
    ])
    (Decides-or (is_some x.learnt) (submitted y.proposer == 0) ((λ e. e), λ e. e) (Decides-eqb (submitted y.proposer) 0))

module _ (xs : List Instance) where
  abbrev SecondFollows : ℕ → Type 0
  SecondFollows k = Follows (slice_get xs (first_instance k)) (slice_get xs (second_instance k))

  pub second-Decides : (k : ℕ) → Decides (second_follows xs k) (SecondFollows k)
  second-Decides k = follows-Decides (slice_get xs (first_instance k)) (slice_get xs (second_instance k))

  pub seconds-Decides : (n : ℕ) → Decides (seconds_follow xs n) ((k : ℕ) → k < n → SecondFollows k)
  unfolding seconds_follow
  seconds-Decides n = Decides-below_and (second_follows xs) SecondFollows (seconds_follow xs) second-Decides refl (λ _. refl) n

-- ## A participant

-- the facts of a participant, of its instances
record HasInstances (xs : List Instance) : Type 0 where
  odd : length xs % 2 ≡ 1
  few : length xs ≤ 33
  once : (i : ℕ) (x : Instance) → 0 < i → slice_get xs i ≡ Some x → SubmitsOnce x.proposer x.learnt
  second : (k : ℕ) → SecondFollows xs k

abbrev Once : Instance → Type 0
Once x = SubmitsOnce x.proposer x.learnt

all_once : (xs : List Instance) → All Once xs → (i : ℕ) (x : Instance) → slice_get xs i ≡ Some x → Once x
all_once xs all i x e = subst Once (get_or_from_slice_get xs i x x e) (all i x (slice_get_within xs i x e))

once_all : (xs : List Instance) → ((i : ℕ) (x : Instance) → slice_get xs i ≡ Some x → Once x) → All Once xs
once_all xs each k d lt = each k _ (slice_get-get_or xs k d lt)

others_once : (x : Instance) (xs : List Instance) → All Once xs → (i : ℕ) (y : Instance) → 0 < i
    → slice_get (x ∷ xs) i ≡ Some y → Once y
others_once x xs all zero y lt e = absurd (omega (arith, lt))
others_once x xs all (suc j) y lt e = all_once xs all j y e

past : (xs : List Instance) (k : ℕ) → length xs ≤ 33 → 16 ≤ k → SecondFollows xs k
past xs k few le x y e f many =
    absurd (omega (arith, few, le, slice_get_within xs (second_instance k) y f))

instances-Decides : (xs : List Instance) → Decides (are_participants xs) (HasInstances xs)
unfolding are_participants
instances-Decides [] = ((λ e. absurd (false≢true e)), λ is. absurd (omega (arith, is.odd)))
instances-Decides (x ∷ xs) =
    Decides-like (are_participants (x ∷ xs))
    (λ q. record {
      odd = omega (arith, q.0);
      few = omega (arith, q.1.0);
      once = others_once x xs q.1.1.0;
      second = λ k. elim (cases_lt k 16) [
        | inl lt ↦ q.1.1.1 k lt
        | inr le ↦ past (x ∷ xs) k (omega (arith, q.1.0)) le
      ];
    })
    (λ is. (
      omega (arith, is.odd),
      (omega (arith, is.few), (once_all xs (λ j y e. is.once (suc j) y (omega arith) e), λ k lt. is.second k)),
    ))
    (Decides-and _ _ (Decides-eqb (length xs % 2) 0)
    (Decides-and _ _ (Decides-leb (length xs) 32)
    (Decides-and _ _ (Decides-by_and instance_submits_once Once (list_all instance_submits_once) (λ z. once-Decides z.proposer z.learnt) refl (λ _ _. refl) xs)
    (seconds-Decides (x ∷ xs) 16))))

pub participants-Decides : (r : ReplicaState) → Decides (are_participants r.instances) (IsParticipant r)
participants-Decides r =
    Decides-like (are_participants r.instances)
    (λ h. record { odd = h.odd; few = h.few; once = h.once; second = h.second })
    (λ is. record { odd = is.odd; few = is.few; once = is.once; second = is.second })
    (instances-Decides r.instances)

pub may_resume_node-Decides : (n : NodeState) → Decides (may_resume_node n) (IsNode n)
may_resume_node-Decides n =
    Decides-like (may_resume_node n) (λ q. record { within = q.0; participates = q.1 })
    (λ is. (is.within, is.participates))
    (Decides-and _ _ (is_subset-Decides n.shelf.view n.replica.view) (participants-Decides n.replica))

-- ## The code of the tests

pub each-Decides : (xs : List Instance) (n : ℕ)
    → Decides (seconds_follow xs n) ((k : ℕ) → k < n → second_follows xs k ≡ true)
unfolding seconds_follow
each-Decides xs n =
    Decides-below_and (second_follows xs) (λ k. second_follows xs k ≡ true) (seconds_follow xs)
    (λ k. ((λ e. e), λ e. e)) refl (λ _. refl) n

pub fails_at : (xs : List Instance) (n k : ℕ) → k < n → second_follows xs k ≡ false → false ≡ seconds_follow xs n
fails_at xs n k lt fails =
    sym (false_from_ne_true (seconds_follow xs n) (λ e. both_ways (second_follows xs k) fails ((each-Decides xs n).0 e k lt)))

pub instances_participate : (x : Instance) (xs zs : List Instance) → zs ≡ x ∷ xs
    → are_participants zs
    ≡ ((length xs % 2 == 0) && (leb (length xs) 32 && (list_all instance_submits_once xs && seconds_follow zs 16)))
unfolding are_participants
instances_participate x xs zs is =
    ap are_participants is
    ∙ ap (λ ys. (length xs % 2 == 0) && (leb (length xs) 32 && (list_all instance_submits_once xs && seconds_follow ys 16))) (sym is)

pub none_participate : (zs : List Instance) → zs ≡ [] → false ≡ are_participants zs
unfolding are_participants
none_participate zs is = ap are_participants (sym is)

-- what is made of a replica that passes is a node
pub node_from : (n : NodeState) → may_resume_node n ≡ true → IsNode n
node_from n e = (may_resume_node-Decides n).0 e
