-- The loop over the jobs, in plain variables.
use Rattle.std.proofs.Common.{◌≡◌, ℕ, zero, suc, ◌+◌, ◌<◌, List, [], ◌∷◌, ◌++◌, length, take, drop, cond, Bool, true, false, Option, Some, ◌⊎◌, inl, inr, refl, sym, ap, subst, ◌∙◌, arith}
use Rattle.std.specs.Prelude.{IfSome}
use Rattle.std.specs.List.{slice_get}
use Rattle.std.proofs.lemmas.Option.{slice_get_within, get_or_from_slice_get}
use Rattle.std.proofs.lemmas.List.Sums.{count_by_more_no, count_by_more_yes}
use Rattle.la_set.specs.Histories.{Histories, ContainsUpdate}
use Rattle.la_set.specs.Inclusion.{IsSubset}
use Rattle.la_set.specs.ObjectOps.{update_of}
use Rattle.la_commit.specs.Instances.{first_instance, second_instance}
use Rattle.la_commit.specs.Votes.{HoldsVote, first_vote_for, second_vote_for}
use Rattle.la_object.specs.declared.kind.Kind.{Kind}
use Rattle.la_object.specs.Shelves.{ShelfState}
use Rattle.la_proposer.specs.ProposerState.{op_on}
use Rattle.la_runner.specs.declared.jobs.Job.{Job}
use Rattle.la_runner.specs.declared.jobs.Job.TheVariants.{Update, Decide, Ask}
use Rattle.la_runner.specs.declared.jobs.Entry.{Entry}
use Rattle.la_runner.specs.declared.jobs.Entry.TheVariants.{Learned, Decided, Answer}
use Rattle.la_runner.specs.declared.jobs.Stopped.{Stopped}
use Rattle.la_runner.specs.declared.jobs.Stopped.TheVariants.{Memory}
use Rattle.la_runner.specs.Entries.{is_update_job, update_jobs, next_number, entry_set, IsKnownTo, AnswersJob, HasDone, StopsAt}
use Rattle.la_runner.specs.Members.{MemberState, GroupState, IsOfGroup, MemberGoesOn, member_submitted, member_view}
use Rattle.la_runner.specs.Stops.{StopFits}
use Rattle.la_runner.proofs.Answering.{goes_on_self}
use Rattle.la_runner.proofs.Keeping.{goes_on_then}
use Rattle.la_runner.proofs.Proposing.{none_some}
use Rattle.la_runner.proofs.Standing.{stay}

pub record UnderWay (first : MemberState) (objects : List (ℕ × Kind)) (all : List Job) (entries : List Entry)
    (now : MemberState) (shelf : ShelfState) (rest : List Job) : Type 0 where
  pub done : HasDone first objects all entries now
  pub goes : MemberGoesOn first now
  pub submitted : length (member_submitted now 0) ≡ length (member_submitted first 0) + update_jobs (take (length entries) all)
  pub same : shelf.objects ≡ objects
  pub within : IsSubset shelf.view (member_view now)
  pub left : rest ≡ drop (length entries) all

-- an item of a longer list is one of the list, or the last
snoc_cases : {X : Type 0} (xs : List X) (y : X) (k : ℕ) (x : X) → slice_get (xs ++ y ∷ []) k ≡ Some x
    → (slice_get xs k ≡ Some x) ⊎ ((k ≡ length xs) × (x ≡ y))
snoc_cases [] y zero x e = inr (refl, cc)
snoc_cases [] y (suc k) x e = absurd (none_some e)
snoc_cases (z ∷ xs) y zero x e = inl e
snoc_cases (z ∷ xs) y (suc k) x e = elim (snoc_cases xs y k x e) [ inl h ↦ inl h | inr h ↦ inr (ap suc h.0, h.1) ]

-- the first of what is left stands where that begins
first_left : {X : Type 0} (xs : List X) (n : ℕ) (x : X) (rest : List X) → x ∷ rest ≡ drop n xs → slice_get xs n ≡ Some x
first_left [] zero x rest e = absurd (cc e)
first_left [] (suc n) x rest e = absurd (cc e)
first_left (y ∷ xs) zero x rest e = ap Some (cc e)
first_left (y ∷ xs) (suc n) x rest e = first_left xs n x rest e

next_left : {X : Type 0} (xs : List X) (n : ℕ) (x : X) (rest : List X) → x ∷ rest ≡ drop n xs → rest ≡ drop (suc n) xs
next_left [] zero x rest e = absurd (cc e)
next_left [] (suc n) x rest e = absurd (cc e)
next_left (y ∷ xs) zero x rest e = cc e
next_left (y ∷ xs) (suc n) x rest e = next_left xs n x rest e

one_more : (xs : List Job) (n : ℕ) (j : Job) → slice_get xs n ≡ Some j → (b : Bool) → is_update_job j ≡ b
    → update_jobs (take (n + 1) xs) ≡ update_jobs (take n xs) + cond b 1 0
one_more xs n j e true is =
    count_by_more_yes is_update_job xs n j (slice_get_within xs n j e) (ap is_update_job (get_or_from_slice_get xs n j j e) ∙ is)
one_more xs n j e false is =
    count_by_more_no is_update_job xs n j (slice_get_within xs n j e) (ap is_update_job (get_or_from_slice_get xs n j j e) ∙ is)
    ∙ omega arith

length_snoc : {X : Type 0} (xs : List X) (y : X) → length (xs ++ y ∷ []) ≡ length xs + 1
length_snoc [] y = refl
length_snoc (x ∷ xs) y = omega (arith, length_snoc xs y)

-- what is known stays known as the member goes on
pub known_stays : (old new : MemberState) → MemberGoesOn old new → (s : Histories) → IsKnownTo old s → IsKnownTo new s
known_stays old new g s (inl e) = inl e
known_stays old new g s (inr c) = inr ((stay old new g 0 s).0 c)

-- an answer stays one
pub answer_stays : (old new : MemberState) → MemberGoesOn old new → (n : ℕ) (objects : List (ℕ × Kind)) (j : Job) (e : Entry)
    → AnswersJob old n objects j e → AnswersJob new n objects j e
answer_stays old new g n objects (Update object op) (Learned l) h = (
  (stay old new g 0 l.updates).1 h.0,
  subst (λ r. ContainsUpdate l.updates (update_of r n (op_on object op)))
      (sym g.replica) h.1,
)
answer_stays old new g n objects (Update object op) (Decided s t o) h = h
answer_stays old new g n objects (Update object op) (Answer seen answer) h = h
answer_stays old new g n objects (Decide k value) (Learned l) h = h
answer_stays old new g n objects (Decide k value) (Decided s t o) h = record {
  first_own = (stay old new g (first_instance k) s).1 h.first_own;
  first_vote = subst (λ r. HoldsVote s r (first_vote_for value)) (sym g.replica) h.first_vote;
  second_own = (stay old new g (second_instance k) t).1 h.second_own;
  second_vote = subst (λ r. HoldsVote t r (second_vote_for s value)) (sym g.replica) h.second_vote;
  outcome_is = h.outcome_is;
}
answer_stays old new g n objects (Decide k value) (Answer seen answer) h = h
answer_stays old new g n objects (Ask object query) (Learned l) h = h
answer_stays old new g n objects (Ask object query) (Decided s t o) h = h
answer_stays old new g n objects (Ask object query) (Answer seen answer) h = (known_stays old new g seen h.0, h.1)

pub of_goes : (group : GroupState) (old new : MemberState) → MemberGoesOn old new → IsOfGroup group old → IsOfGroup group new
of_goes group old new g of = record { votes = g.votes ∙ of.votes; acceptors = g.acceptors ∙ of.acceptors }

-- what was done stays done while the member goes on
pub keeps_done : (first : MemberState) (objects : List (ℕ × Kind)) (all : List Job) (es : List Entry)
    (now next : MemberState) → HasDone first objects all es now → MemberGoesOn now next → HasDone first objects all es next
keeps_done first objects all es now next h g = record {
  answers =
      λ k e at.
      let a = h.answers k e at in
      (a.0, a.1, answer_stays now next g (next_number first (take k all)) objects a.0 e a.2);
  growing = h.growing;
  within = λ k e s at is u has. g.grows u (h.within k e s at is u has);
}

-- the set that the new entry names, if any, is the view
abbrev pub Names : Entry → MemberState → Type 0
Names e new = IfSome (entry_set e) (λ s. s ≡ member_view new)

named : (e : Entry) (new : MemberState) (t : Histories) → Names e new → entry_set e ≡ Some t → t ≡ member_view new
named e new t names is = subst (λ (o : Option Histories). IfSome o (λ s. s ≡ member_view new)) is names

module _ (first : MemberState) (objects : List (ℕ × Kind)) (all : List Job) (es : List Entry) (now : MemberState)
    (shelf : ShelfState) (j : Job) (rest : List Job) (h : UnderWay first objects all es now shelf (j ∷ rest)) where
  at_job : slice_get all (length es) ≡ Some j
  at_job = first_left all (length es) j rest h.left

  module _ (e : Entry) (next : MemberState) (later : ShelfState)
      (answers : AnswersJob next (length (member_submitted now 0) + 1) objects j e) (names : Names e next)
      (goes : MemberGoesOn now next) where
    kept : HasDone first objects all es next
    kept = keeps_done first objects all es now next h.done goes

    answers_more : (k : ℕ) (f : Entry) → slice_get (es ++ e ∷ []) k ≡ Some f
        → (i : Job) × (slice_get all k ≡ Some i) × AnswersJob next (next_number first (take k all)) objects i f
    answers_more k f got = elim (snoc_cases es e k f got) [
      | inl old ↦ kept.answers k f old
      | inr last ↦ (
        j,
        ap (slice_get all) last.0 ∙ at_job,
        subst (λ (m : ℕ). AnswersJob next (next_number first (take m all)) objects j f) (sym last.0)
            (subst (λ (g : Entry). AnswersJob next (next_number first (take (length es) all)) objects j g) (sym last.1)
            (subst (λ (m : ℕ). AnswersJob next (m + 1) objects j e) h.submitted answers)),
      )
    ]

    within_more : (k : ℕ) (f : Entry) (s : Histories) → slice_get (es ++ e ∷ []) k ≡ Some f → entry_set f ≡ Some s
        → IsSubset s (member_view next)
    within_more k f s got is = elim (snoc_cases es e k f got) [
      | inl old ↦ kept.within k f s old is
      | inr last ↦ subst (λ z. IsSubset s z) (named e next s names (ap entry_set (sym last.1) ∙ is)) (λ u has. has)
    ]

    growing_more : (k m : ℕ) (f g : Entry) (s t : Histories) → k < m → slice_get (es ++ e ∷ []) k ≡ Some f
        → slice_get (es ++ e ∷ []) m ≡ Some g → entry_set f ≡ Some s → entry_set g ≡ Some t → IsSubset s t
    growing_more k m f g s t less got_f got_g is_f is_g = elim (snoc_cases es e m g got_g) [
      | inl old_g ↦ (elim (snoc_cases es e k f got_f) [
        | inl old_f ↦ h.done.growing k m f g s t less old_f old_g is_f is_g
        | inr last_f ↦ absurd (let w = slice_get_within es m g old_g in let at = last_f.0 in omega (arith, w, at, less))
      ])
      | inr last_g ↦ subst (λ z. IsSubset s z) (sym (named e next t names (ap entry_set (sym last_g.1) ∙ is_g))) (within_more k f s got_f is_f)
    ]

    pub goes_on_more : length (member_submitted next 0) ≡ length (member_submitted now 0) + cond (is_update_job j) 1 0
        → later.objects ≡ objects → IsSubset later.view (member_view next)
        → UnderWay first objects all (es ++ e ∷ []) next later rest
    goes_on_more submitted same within = record {
      done = record { answers = answers_more; growing = growing_more; within = within_more };
      goes = goes_on_then first now next h.goes goes;
      submitted =
          let o = one_more all (length es) j at_job (is_update_job j) refl in
          let t : update_jobs (take (length (es ++ e ∷ [])) all) ≡ update_jobs (take (length es + 1) all) =
          ap (λ (m : ℕ). update_jobs (take m all)) (length_snoc es e) in
          let s = h.submitted in
          omega (arith, submitted, o, t, s);
      same = same;
      within = within;
      left =
          (let q : suc (length es) ≡ length (es ++ e ∷ []) = (let n = length_snoc es e in omega (arith, n)) in
          next_left all (length es) j rest h.left ∙ ap (λ (m : ℕ). drop m all) q);
    }

  pub stops_here : (n : ℕ) (next : MemberState) (why : Stopped) → n ≡ length es → StopFits objects next j why
      → StopsAt objects next all n why
  stops_here n next why is fits = subst (λ (m : ℕ). StopsAt objects next all m why) (sym is) (j, at_job, fits)

starts : (first : MemberState) (all : List Job) (shelf : ShelfState) → IsSubset shelf.view (member_view first)
    → UnderWay first shelf.objects all [] first shelf all
starts first all shelf within = record {
  done = record {
    answers = λ k e at. absurd (none_some at);
    growing = λ k m e f s t less at. absurd (none_some at);
    within = λ k e s at. absurd (none_some at);
  };
  goes = goes_on_self first;
  submitted = omega arith;
  same = refl;
  within = within;
  left = refl;
}

pub begins : (first : MemberState) (all : List Job) (shelf : ShelfState) (es : List Entry) (rest : List Job) → es ≡ []
    → rest ≡ all → IsSubset shelf.view (member_view first) → UnderWay first shelf.objects all es first shelf rest
begins first all shelf es rest none is within =
    subst (λ (xs : List Entry). UnderWay first shelf.objects all xs first shelf rest) (sym none)
    (subst (λ (xs : List Job). UnderWay first shelf.objects all [] first shelf xs) (sym is)
    (starts first all shelf within))

pub turn : (first : MemberState) (objects : List (ℕ × Kind)) (all : List Job) (es es1 : List Entry) (now : MemberState)
    (shelf : ShelfState) (j : Job) (rest0 rest : List Job) → UnderWay first objects all es now shelf rest0
    → rest0 ≡ j ∷ rest → es1 ≡ es → UnderWay first objects all es1 now shelf (j ∷ rest)
turn first objects all es es1 now shelf j rest0 rest h is same =
    subst (λ (xs : List Entry). UnderWay first objects all xs now shelf (j ∷ rest)) (sym same)
    (subst (λ (xs : List Job). UnderWay first objects all es now shelf xs) is h)

pub memory_fits : (objects : List (ℕ × Kind)) (m : MemberState) (j : Job) → StopFits objects m j Memory
memory_fits objects m (Update object op) = tt
memory_fits objects m (Decide commit value) = tt
memory_fits objects m (Ask object query) = tt
