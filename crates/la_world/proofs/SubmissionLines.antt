-- What the lines of a list of events say that its replicas submit is what the trace says.
use Rattle.std.proofs.Common.{◌≡◌, ℕ, zero, suc, ◌+◌, ◌≤◌, Bool, true, false, cond, ◌==◌, ◌&&◌, List, [], ◌∷◌, ◌++◌, append-nil, length, take, reverse, slice_get, Option, Some, None, refl, ap, ap₂, sym, ◌∙◌, arith, inl, inr, eq-eqb, eqb-true}
use Rattle.std.proofs.lemmas.Bool.{cases_lt, and_parts, and_from, cond-true}
use Rattle.std.proofs.lemmas.List.{append_assoc, length-append, reverse-append, reverse-reverse, length-reverse, take_all, take-append-le}
use Rattle.std.proofs.lemmas.Option.{same_Some, none-some}
use Rattle.la_set.specs.declared.update.UpdateId.{UpdateId}
use Rattle.la_set.specs.declared.update.Update.{Update}
use Rattle.la_set.specs.ObjectOps.{ObjectOp, object_op_of, update_of}
use Rattle.la_world.specs.declared.error.Refusal.{Refusal}
use Rattle.la_world.specs.declared.report.Line.{Line}
use Rattle.la_world.specs.declared.report.Line.TheVariants.{Done, Refused}
use Rattle.la_world.specs.Groups.{Group, replicas}
use Rattle.la_world.specs.Events.{Event, Submit, Deliver, Decide, Ask}
use Rattle.la_world.specs.Trace as did
use Rattle.la_world.specs.Trace.{Did, Trace}
use Rattle.la_world.specs.Ballots.{opening_learnt}
use Rattle.la_node.specs.SecondVotes.{Submission}
use Rattle.la_world.specs.Submissions.{submission_by, second_vote_after, object_op_in, submitted_ops}
use Rattle.la_world.specs.Playing.{event_entry, trace}
use Rattle.la_world.specs.Report.{refused, shown_as, line_of, Run, runs, runs_on, report_lines, trace_of}
use Rattle.la_world.specs.Reading.{learnt_by_did, vote_after, submission_at, ops_at, Submits}
use Rattle.la_world.proofs.Safe.{line_each}
use Rattle.la_world.proofs.Places.{was_done, IsSubmittedAt}

-- ## One line

vote_shown : (n place : ℕ) (d : Did) → vote_after (learnt_by_did (shown_as n place d)) ≡ second_vote_after (opening_learnt d)
vote_shown n place (did.Learnt b next) = refl
vote_shown n place (did.Opened b) = refl
vote_shown n place (did.Held id) = refl
vote_shown n place (did.Answered reply) = refl
vote_shown n place did.Counted = refl
vote_shown n place did.Ignored = refl
vote_shown n place (did.Refined b) = refl
vote_shown n place (did.Took s) = refl
vote_shown n place did.Kept = refl
vote_shown n place (did.Replied answer) = refl

-- the line of an accepted event says what it submits
pub submission_shown : (g : Group) (t : Trace) (e : Event)
    → submission_at e (line_of g t e) ≡ submission_by e (event_entry g t e).did
submission_shown g t (Submit r object_op) = refl
submission_shown g t (Decide r k value) = refl
submission_shown g t (Deliver k) = vote_shown (replicas g) (length t) (event_entry g t (Deliver k)).did
submission_shown g t (Ask r object query) = refl

-- ## All lines

ops-push : (es : List Event) (ls : List Line) (e : Event) (l : Line) (i r : ℕ) → length es ≡ length ls
    → ops_at (es ++ e ∷ []) (ls ++ l ∷ []) i r ≡ ops_at es ls i r ++ object_op_in i r (submission_at e l)
unfolding ops_at
ops-push [] [] e l i r same = append-nil (object_op_in i r (submission_at e l))
ops-push [] (k ∷ ls) e l i r same = absurd (omega (arith, same))
ops-push (d ∷ es) [] e l i r same = absurd (omega (arith, same))
ops-push (d ∷ es) (k ∷ ls) e l i r same =
    let first = object_op_in i r (submission_at d k) in
    ap (λ ds. first ++ ds) (ops-push es ls e l i r (omega (arith, same)))
    ∙ sym (append_assoc first (ops_at es ls i r) (object_op_in i r (submission_at e l)))

ops_are : (g : Group) (es : List Event) (i r : ℕ)
    → ops_at (reverse es) (reverse (runs g es).lines) i r ≡ submitted_ops (trace g (runs g es).accepted) i r
unfolding runs trace submitted_ops ops_at
ops_are g [] i r = refl
ops_are g (e ∷ es) i r = go (refused g t e) (ops_are g es i r)
  where
    t : Trace
    t = trace g (runs g es).accepted

    ran : Run
    ran = runs g es

    same : length (reverse es) ≡ length (reverse ran.lines)
    same = length-reverse es ∙ sym (line_each g es) ∙ sym (length-reverse ran.lines)

    pushed : (l : Line) → ops_at (reverse es) (reverse ran.lines) i r ≡ submitted_ops t i r
        → ops_at (reverse (e ∷ es)) (reverse (l ∷ ran.lines)) i r
        ≡ submitted_ops t i r ++ object_op_in i r (submission_at e l)
    pushed l before =
        ap₂ (λ xs ls. ops_at xs ls i r) (reverse-append (e ∷ []) es) (reverse-append (l ∷ []) ran.lines)
        ∙ ops-push (reverse es) (reverse ran.lines) e l i r same
        ∙ ap (λ ds. ds ++ object_op_in i r (submission_at e l)) before

    go : (o : Option Refusal) → ops_at (reverse es) (reverse ran.lines) i r ≡ submitted_ops t i r
        → ops_at (reverse (e ∷ es)) (reverse (runs_on g ran e t o).lines) i r
        ≡ submitted_ops (trace g (runs_on g ran e t o).accepted) i r
    go None before =
        pushed (line_of g t e) before ∙ ap (λ s. submitted_ops t i r ++ object_op_in i r s) (submission_shown g t e)
    go (Some name) before = pushed (Refused name) before ∙ append-nil (submitted_ops t i r)

all_ops : (g : Group) (events : List Event) (i r : ℕ)
    → ops_at events (report_lines g events) i r ≡ submitted_ops (trace_of g events) i r
all_ops g events i r =
    ap (λ xs. ops_at xs (report_lines g events) i r) (sym (reverse-reverse events)) ∙ ops_are g (reverse events) i r

-- the lines of a front are the front of the lines
lines_earlier : (g : Group) (es : List Event) (k : ℕ)
    → report_lines g (take k (reverse es)) ≡ take k (reverse (runs g es).lines)
unfolding runs
lines_earlier g [] k = ap (report_lines g) (take_all k [] (omega arith)) ∙ sym (take_all k [] (omega arith))
lines_earlier g (e ∷ es) k = elim (cases_lt (length es) k) [
  | inl all ↦
      let ls = (runs g (e ∷ es)).lines in
      ap (report_lines g) (take_all k (reverse (e ∷ es)) (omega (arith, length-reverse (e ∷ es), all)))
      ∙ ap (λ xs. reverse (runs g xs).lines) (reverse-reverse (e ∷ es))
      ∙ sym (take_all k (reverse ls) (omega (arith, length-reverse ls, line_each g (e ∷ es), all)))
  | inr le ↦
      ap (report_lines g)
      (ap (take k) (reverse-append (e ∷ []) es)
      ∙ take-append-le k (reverse es) (e ∷ []) (omega (arith, length-reverse es, le)))
      ∙ lines_earlier g es k
      ∙ go le (refused g (trace g (runs g es).accepted) e)
]
  where
    one_more : k ≤ length es → (l : Line)
        → take k (reverse (runs g es).lines) ≡ take k (reverse (l ∷ (runs g es).lines))
    one_more le l =
        let ls = (runs g es).lines in
        sym
        (ap (take k) (reverse-append (l ∷ []) ls)
        ∙ take-append-le k (reverse ls) (l ∷ []) (omega (arith, length-reverse ls, line_each g es, le)))

    go : k ≤ length es → (o : Option Refusal)
        → take k (reverse (runs g es).lines)
        ≡ take k (reverse (runs_on g (runs g es) e (trace g (runs g es).accepted) o).lines)
    go le None = one_more le (line_of g (trace g (runs g es).accepted) e)
    go le (Some name) = one_more le (Refused name)

pub lines_before : (g : Group) (events : List Event) (k : ℕ) → report_lines g (take k events) ≡ take k (report_lines g events)
lines_before g events k =
    ap (λ xs. report_lines g (take k xs)) (sym (reverse-reverse events)) ∙ lines_earlier g (reverse events) k

-- what is submitted before a place
pub ops_before : (g : Group) (events : List Event) (k i r : ℕ)
    → ops_at (take k events) (take k (report_lines g events)) i r ≡ submitted_ops (trace_of g (take k events)) i r
ops_before g events k i r =
    ap (λ ls. ops_at (take k events) ls i r) (sym (lines_before g events k)) ∙ all_ops g (take k events) i r

-- ## An operation, and the place at which it is submitted

abbrev pub submission_of_op : (i r : ℕ) → ObjectOp → Submission
submission_of_op i r d = record { instance = i; replica = r; object_op = d }

the_submission : (s : Submission) (i r : ℕ) (d : ObjectOp) → s.instance ≡ i → s.replica ≡ r → s.object_op ≡ d
    → s ≡ submission_of_op i r d
the_submission s i r d p q e = ap (λ j. submission_of_op j s.replica s.object_op) p ∙ ap₂ (submission_of_op i) q e

-- the operation with this number, from 0, is submitted at a place
pub record IsFound (es : List Event) (ls : List Line) (i r number : ℕ) (d : ObjectOp) : Type 0 where
  pub place : ℕ
  pub event : Event
  pub handed_in : slice_get es place ≡ Some event
  pub line : Line
  pub became : slice_get ls place ≡ Some line
  pub submits : submission_at event line ≡ Some (submission_of_op i r d)
  pub before : number ≡ length (ops_at (take place es) (take place ls) i r)

none_more : (n : ℕ) → n ≡ 0 + n
none_more n = omega arith

one_more : (n : ℕ) → suc n ≡ 1 + n
one_more n = omega arith

pub found : (es : List Event) (ls : List Line) (i r number : ℕ) (d : ObjectOp)
    → slice_get (ops_at es ls i r) number ≡ Some d → IsFound es ls i r number d
unfolding ops_at
found [] ls i r number d e = absurd (none-some d e)
found (x ∷ es) [] i r number d e = absurd (none-some d e)
found (x ∷ es) (l ∷ ls) i r number d e = go (λ n k. found es ls i r n d k) (submission_at x l) refl e
  where
    later : (n : ℕ) → IsFound es ls i r n d → number ≡ length (object_op_in i r (submission_at x l)) + n
        → IsFound (x ∷ es) (l ∷ ls) i r number d
    later n p many = record {
      place = suc p.place;
      event = p.event;
      handed_in = p.handed_in;
      line = p.line;
      became = p.became;
      submits = p.submits;
      before =
          many ∙ ap (λ m. length (object_op_in i r (submission_at x l)) + m) p.before
          ∙ sym (length-append (object_op_in i r (submission_at x l)) (ops_at (take p.place es) (take p.place ls) i r));
    }

    go : ((n : ℕ) → slice_get (ops_at es ls i r) n ≡ Some d → IsFound es ls i r n d) → (o : Option Submission)
        → submission_at x l ≡ o → slice_get (object_op_in i r o ++ ops_at es ls i r) number ≡ Some d
        → IsFound (x ∷ es) (l ∷ ls) i r number d
    go rest None is k =
        later number (rest number k) (none_more number ∙ ap (λ o. length (object_op_in i r o) + number) (sym is))
    go rest (Some s) is k = here ((s.instance == i) && (s.replica == r)) refl number refl k
      where
        here : (v : Bool) → ((s.instance == i) && (s.replica == r)) ≡ v → (n : ℕ) → number ≡ n
            → slice_get (cond v (s.object_op ∷ []) [] ++ ops_at es ls i r) n ≡ Some d
            → IsFound (x ∷ es) (l ∷ ls) i r number d
        here false w n m j =
            later n (rest n j)
            (m ∙ none_more n ∙ ap (λ v. length (cond v (s.object_op ∷ []) []) + n) (sym w)
            ∙ ap (λ o. length (object_op_in i r o) + n) (sym is))
        here true w (suc n) m j =
            later n (rest n j)
            (m ∙ one_more n ∙ ap (λ v. length (cond v (s.object_op ∷ []) []) + n) (sym w)
            ∙ ap (λ o. length (object_op_in i r o) + n) (sym is))
        here true w zero m j =
            let p = and_parts (s.instance == i) (s.replica == r) w in
            record {
              place = 0;
              event = x;
              handed_in = refl;
              line = l;
              became = refl;
              submits =
                  is
                  ∙ ap Some
                  (the_submission s i r d (eqb-true s.instance i p.0) (eqb-true s.replica r p.1)
                  (same_Some s.object_op d j));
              before = m;
            }

-- and what is submitted at a place has its number
skip : {A : Type 0} (xs ys zs : List A) → slice_get (xs ++ ys) (length (xs ++ zs)) ≡ slice_get ys (length zs)
skip [] ys zs = refl
skip (x ∷ xs) ys zs = skip xs ys zs

pub listed : (es : List Event) (ls : List Line) (i r k : ℕ) (d : ObjectOp) (e : Event) (l : Line)
    → slice_get es k ≡ Some e → slice_get ls k ≡ Some l → submission_at e l ≡ Some (submission_of_op i r d)
    → slice_get (ops_at es ls i r) (length (ops_at (take k es) (take k ls) i r)) ≡ Some d
unfolding ops_at
listed [] ls i r k d e l p q s = absurd (none-some e p)
listed (x ∷ es) [] i r k d e l p q s = absurd (none-some l q)
listed (x ∷ es) (y ∷ ls) i r (suc k) d e l p q s =
    skip (object_op_in i r (submission_at x y)) (ops_at es ls i r) (ops_at (take k es) (take k ls) i r)
    ∙ listed es ls i r k d e l p q s
listed (x ∷ es) (y ∷ ls) i r zero d e l p q s =
    let same : submission_at x y ≡ Some (submission_of_op i r d) =
    ap₂ submission_at (same_Some x e p) (same_Some y l q) ∙ s in
    ap (λ ds. slice_get (ds ++ ops_at es ls i r) 0)
    (ap (object_op_in i r) same
    ∙ cond-true ((i == i) && (r == r)) (d ∷ []) [] (and_from _ _ (eq-eqb i i refl) (eq-eqb r r refl)))

-- ## A submission, by lines and by the trace

module _ (g : Group) (events : List Event) (k i : ℕ) where
  -- they agree
  pub submits_by_trace : (u : Update) → Submits events (report_lines g events) k i u
      → IsSubmittedAt g events (report_lines g events) k i u.id
  submits_by_trace u h = go h.line h.became h.submits
    where
      t : Trace
      t = trace_of g (take k events)

      go : (l : Line) → slice_get (report_lines g events) k ≡ Some l
          → submission_at h.event l ≡ Some (submission_of_op i u.id.replica (object_op_of u))
          → IsSubmittedAt g events (report_lines g events) k i u.id
      go (Refused name) at s = absurd (none-some _ s)
      go (Done step) at s = record {
        event = h.event;
        handed_in = h.handed_in;
        step = step;
        done = at;
        submission = submission_of_op i u.id.replica (object_op_of u);
        submits =
            sym (submission_shown g t h.event)
            ∙ ap (submission_at h.event) (was_done g events k h.event step h.handed_in at).line ∙ s;
        instance = refl;
        replica = refl;
        number = h.number ∙ ap (λ ds. length ds + 1) (ops_before g events k i u.id.replica);
      }

  pub submits_by_lines : (id : UpdateId) → IsSubmittedAt g events (report_lines g events) k i id
      → (d : ObjectOp) × Submits events (report_lines g events) k i (update_of id.replica id.number d)
  submits_by_lines id h =
      let t = trace_of g (take k events) in
      let s = h.submission in (
        s.object_op,
        record {
          event = h.event;
          handed_in = h.handed_in;
          line = Done h.step;
          became = h.done;
          submits =
              ap (submission_at h.event) (sym (was_done g events k h.event h.step h.handed_in h.done).line)
              ∙ submission_shown g t h.event ∙ h.submits
              ∙ ap Some (the_submission s i id.replica s.object_op h.instance (sym h.replica) refl);
          number =
              h.number ∙ ap (λ r. length (submitted_ops t i r) + 1) (sym h.replica)
              ∙ ap (λ ds. length ds + 1) (sym (ops_before g events k i id.replica));
        },
      )
