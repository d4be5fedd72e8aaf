-- One job and its entry.
use Rattle.std.proofs.Common.{◌≡◌, ℕ, suc, ◌+◌, ◌<◌, arith, List, [], ◌∷◌, ◌++◌, length, Option, Some, None, refl, ap, sym, ◌∙◌, subst}
use Rattle.std.specs.Prelude.{is_some, IsSome, option_map}
use Rattle.std.specs.List.{slice_get}
use Rattle.std.proofs.lemmas.Option.{slice_get_within}
use Rattle.la_set.specs.declared.update.Op.{Op}
use Rattle.la_set.specs.ObjectOps.{ObjectOp, update_of}
use Rattle.la_set.specs.Histories.{Histories, history, get, ContainsUpdate}
use Rattle.la_commit.specs.declared.instance.TheConstants.{MAX_COMMITS}
use Rattle.la_commit.specs.declared.outcome.Outcome.{Outcome}
use Rattle.la_commit.specs.Instances.{first_instance, second_instance}
use Rattle.la_object.specs.declared.query.Query.{Query}
use Rattle.la_object.specs.declared.query.Answer.{Answer}
use Rattle.la_object.specs.Shelves.{ShelfState, answer_at}
use Rattle.la_proposer.specs.ProposerState.{op_on}
use Rattle.la_shared.proofs.lemmas.Theorems.{prefix_self}
use Rattle.la_runner.specs.declared.learned.Learned.{Learned}
use Rattle.la_runner.specs.declared.jobs.Entry.TheVariants as entry
use Rattle.la_runner.specs.Certificates.{passes_seen_at, mine_at}
use Rattle.la_runner.specs.Entries.{AnswersUpdate, IsDecided, IsKnownTo}
use Rattle.la_runner.specs.Instances.{InstanceState}
use Rattle.la_runner.specs.Invariant.{IsMember}
use Rattle.la_runner.specs.Members.{MemberState, MemberGoesOn, passes_in, submitted_of, member_submitted, instance_learnt, member_learnt, member_view, IsUpdateOf}
use Rattle.la_runner.specs.Participants.{IsDecision, IsOnlyAt}
use Rattle.la_runner.proofs.Standing.{view_is}
use Rattle.la_runner.proofs.Proposing.{some_same, none_some}

last_there : (xs : List ObjectOp) (d : ObjectOp) → slice_get (xs ++ d ∷ []) (length xs) ≡ Some d
last_there [] d = refl
last_there (x ∷ xs) d = last_there xs d

one_more : (n : ℕ) → n + 1 ≡ suc n
one_more n = omega arith

-- the last update of a replica, where it is this one
holds_last : (s : Histories) (r : ℕ) (before : List ObjectOp) (d : ObjectOp) → history s r ≡ before ++ d ∷ []
    → ContainsUpdate s (update_of r (length before + 1) d)
holds_last s r before d e =
    ap (λ n. get s (record { replica = r; number = n })) (one_more (length before))
    ∙ ap (λ (ds : List ObjectOp). option_map (update_of r (suc (length before))) (slice_get ds (length before))) e
    ∙ ap (option_map (update_of r (suc (length before)))) (last_there before d)
    ∙ ap (λ n. Some (update_of r n d)) (sym (one_more (length before)))

-- an update that was learnt answers its job
pub update_answers : (old new : MemberState) (object : ℕ) (op : Op) (l : Learned)
    → IsUpdateOf (op_on object op) old new l.updates
    → AnswersUpdate new (length (member_submitted old 0) + 1) object op (entry.Learned l)
update_answers old new object op l up = (
  up.learnt.own,
  holds_last l.updates new.replica (member_submitted old 0) (op_on object op) (up.learnt.holds ∙ up.submitted),
)

long_snoc : {A : Type 0} (zs : List A) (d : A) → length (zs ++ d ∷ []) ≡ length zs + 1
long_snoc [] d = refl
long_snoc (z ∷ zs) d = omega (arith, long_snoc zs d)

pub one_longer : {A : Type 0} (xs ys : List A) (d : A) → ys ≡ xs ++ d ∷ [] → length ys ≡ length xs + 1
one_longer xs ys d e = ap length e ∙ long_snoc xs d

-- a learnt set is there
pub learnt_there : (o : Option Histories) (s : Histories) → o ≡ Some s → IsSome o
learnt_there o s e = ap is_some e

instance_within : (m : MemberState) (i : ℕ) (s : Histories) → member_learnt m i ≡ Some s → i < length m.instances
instance_within m i s e = go (slice_get m.instances i) refl e
  where
    go : (o : Option InstanceState) → slice_get m.instances i ≡ o → instance_learnt o ≡ Some s → i < length m.instances
    go None same l = absurd (none_some l)
    go (Some x) same l = slice_get_within m.instances i x same

-- an object with a decision is one of the group's
pub commit_within : (m : MemberState) (k value : ℕ) (reached : Outcome) → IsMember m → IsDecision k value m reached
    → k < MAX_COMMITS
commit_within m k value reached is d =
    let within = instance_within m (second_instance k) d.second d.is_second.learnt in
    let most = is.most in
    omega (arith, within, most)

-- a decision by the sets that were learnt last
pub decision_is : (m : MemberState) (k value : ℕ) (reached : Outcome) (s t : Histories) → IsDecision k value m reached
    → member_learnt m (first_instance k) ≡ Some s → member_learnt m (second_instance k) ≡ Some t
    → IsDecided m k value s t reached
decision_is m k value reached s t d one two =
    subst (λ (z : Histories × Histories). IsDecided m k value z.0 z.1 reached) (λ i. (some_same (sym d.is_first.learnt ∙ one) i, some_same (sym d.is_second.learnt ∙ two) i)) (record {
      first_own = d.is_first.own;
      first_vote = d.is_first.holds;
      second_own = d.is_second.own;
      second_vote = d.is_second.holds;
      outcome_is = d.outcome_is;
    })

-- what happens at an adopt-commit object submits no update for the others
pub none_submitted : (k : ℕ) (old new : MemberState) → IsOnlyAt k old new → member_submitted new 0 ≡ member_submitted old 0
none_submitted k old new only = ap submitted_of (only 0 (λ e. omega (arith, e)) (λ e. omega (arith, e)))

pub goes_on_self : (m : MemberState) → MemberGoesOn m m
goes_on_self m = record {
  votes = refl;
  replica = refl;
  acceptors = refl;
  seen = λ i a. prefix_self (passes_seen_at (passes_in m i) a);
  mine = λ i a. prefix_self (mine_at (passes_in m i) a);
  submitted = λ i. prefix_self (member_submitted m i);
  grows = λ u has. has;
}

-- the view is known
pub known_view : (m : MemberState) → IsMember m → (s : Histories) → s ≡ member_view m → IsKnownTo m s
known_view m is s e = subst (IsKnownTo m) (sym e) (view_is m is)

-- a shelf that has absorbed a set answers by it
pub asked_at : (shelf next : ShelfState) (set seen : Histories) (object : ℕ) (query : Query) (answer : Answer) → seen ≡ set → next ≡ record shelf { view = set } → answer_at next object query ≡ Some answer → answer_at (record { view = seen; objects = shelf.objects }) object query ≡ Some answer
asked_at shelf next set seen object query answer same is e = ap (λ v. answer_at (record { view = v; objects = shelf.objects }) object query) same ∙ ap (λ (s : ShelfState). answer_at s object query) (sym is) ∙ e
