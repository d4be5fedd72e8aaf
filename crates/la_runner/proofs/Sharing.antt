-- One member that hears what others have seen, in plain variables.
use Rattle.std.proofs.Common.{◌≡◌, ◌⊎◌, inl, inr, ℕ, zero, suc, ◌<◌, List, [], ◌∷◌, ◌++◌, ◌+◌, map, take, drop, length, get_or, Option, Some, None, refl, ap, sym, ◌∙◌, subst, arith}
use Rattle.std.specs.Prelude.{IfSome}
use Rattle.std.specs.List.{All, AllZip, AllWithin, slice_get, slice_index_or}
use Rattle.std.proofs.lemmas.Bool.{cases_lt}
use Rattle.std.proofs.lemmas.List.Elements.{All-nil, All-cons}
use Rattle.std.proofs.lemmas.Option.{slice_get_within, get_or_from_slice_get}
use Rattle.la_object.specs.declared.kind.Kind.{Kind}
use Rattle.la_object.specs.Shelves.{ShelfState}
use Rattle.la_set.specs.Histories.{Histories}
use Rattle.la_set.specs.Inclusion.{IsSubset, AreComparable}
use Rattle.la_shared.proofs.lemmas.Theorems.{prefix_self}
use Rattle.la_runner.specs.declared.jobs.Entry.{Entry}
use Rattle.la_runner.specs.declared.jobs.Entry.TheVariants.{Learned, Decided, Answer}
use Rattle.la_runner.specs.declared.jobs.Job.{Job}
use Rattle.la_runner.specs.declared.jobs.Job.TheVariants.{Update, Decide, Ask}
use Rattle.la_runner.specs.declared.jobs.Stopped.{Stopped}
use Rattle.la_runner.specs.declared.jobs.Stopped.TheVariants as cause
use Rattle.la_runner.specs.Certificates.{passes_seen_at, HasCertificate}
use Rattle.la_runner.specs.Entries.{entry_set, next_number, IsKnownTo, AnswersJob, StopsAt}
use Rattle.la_runner.specs.Invariant.{IsMember}
use Rattle.la_runner.specs.Members.{MemberState, MemberGoesOn, passes_in, IsCertified, IsOwnCertified}
use Rattle.la_runner.specs.Runs.{Place, Back, back_of, places, IsBackOf}
use Rattle.la_runner.specs.Together.{HasSeen, SeesMore, IsSameLog, AreSeen, IsHonest, NamesSet, AllComparable}
use Rattle.la_runner.proofs.Answering.{goes_on_self}
use Rattle.la_runner.proofs.Certified.{certificate_stays}
use Rattle.la_runner.proofs.Ending.{fits_still}
use Rattle.la_runner.proofs.Keeping.{goes_on_then, item_at}
use Rattle.la_runner.proofs.Passing.{prefix_trans}
use Rattle.la_runner.proofs.Proposing.{some_same, none_some}
use Rattle.la_runner.proofs.Standing.{certified_compare, own_are, view_is, told_or_own}
use Rattle.la_runner.proofs.Threading.{all_rest}
use Rattle.la_runner.proofs.UnderWay.{keeps_done}
use Rattle.la_runner.proofs.Viewing.{empty_within}

-- ## One note

pub sees_self : (m : MemberState) → IsMember m → SeesMore m m
sees_self m is = record { is = is; goes = goes_on_self m; same = refl; kept = refl }

pub sees_then : (a b c : MemberState) → SeesMore a b → SeesMore b c → SeesMore a c
sees_then a b c f g = record { is = g.is; goes = goes_on_then a b c f.goes g.goes; same = g.same ∙ f.same; kept = g.kept ∙ f.kept }

pub seen_then : (m a b : MemberState) → HasSeen m a → MemberGoesOn a b → HasSeen m b
seen_then m a b h g = record {
  votes = g.votes ∙ h.votes;
  sees =
      λ i n.
      prefix_trans (passes_seen_at (passes_in m i) n) (passes_seen_at (passes_in a i) n) (passes_seen_at (passes_in b i) n) (h.sees i n)
      (g.seen i n);
}

-- ## All notes

pub one_shown : {X : Type 0} (f : X → MemberState) (xs : List X) (at : ℕ) (x : X) (last next : MemberState)
    → at < length xs → x ≡ get_or xs at x → AllWithin (λ y. HasSeen (f y) last) xs 0 at → MemberGoesOn last next
    → HasSeen (f x) next → AllWithin (λ y. HasSeen (f y) next) xs 0 (at + 1)
one_shown f xs at x last next lt is so_far goes now k d le more = elim (cases_lt k at) [
  | inl before ↦ seen_then (f (get_or xs k d)) last next (so_far k d le before) goes
  | inr after ↦
      let here : at ≡ k = omega (arith, more, after) in
      let same : get_or xs at d ≡ x = get_or_from_slice_get xs at x d (item_at xs at x lt is) in
      subst (λ j. HasSeen (f (get_or xs j d)) next) here (subst (λ y. HasSeen (f y) next) (sym same) now)
]

pub here_of : {X : Type 0} (P : X → Type 0) (xs ys : List X) (at : ℕ) (x : X) → ys ≡ xs → at < length xs
    → x ≡ slice_index_or ys at x → All P xs → P x
here_of P xs ys at x same lt is all = subst P (sym (is ∙ ap (λ l. slice_index_or l at x) same)) (all at x lt)

-- ## Logs as before

-- a log is one still, as its member has seen more
pub worked_more : (p : Place) (b c : Back) → IsBackOf p b → IsSameLog b c → IsBackOf p c
worked_more p b c h s = subst (IsBackOf p) (λ i. back_of (sym s.same_replica i) c.member (sym s.same_shelf i) (sym s.same_entries i) (sym s.same_stopped i)) (record {
  is = s.sees.is;
  named = h.named ∙ sym s.sees.goes.replica;
  goes = goes_on_then p.member b.member c.member h.goes s.sees.goes;
  done = keeps_done p.member p.shelf.objects p.jobs b.entries b.member c.member h.done s.sees.goes;
  objects = h.objects;
  all = h.all;
  shown = λ e. h.shown e ∙ sym s.sees.kept;
  stop = reason b.stopped h.stop;
})
  where
    reason : (o : Option Stopped)
        → IfSome o (λ w. (w ≡ cause.Memory) ⊎ StopsAt p.shelf.objects b.member p.jobs (length b.entries) w)
        → IfSome o (λ w. (w ≡ cause.Memory) ⊎ StopsAt p.shelf.objects c.member p.jobs (length b.entries) w)
    reason None h = h
    reason (Some w) (inl e) = inl e
    reason (Some w) (inr at) = inr (at.0, at.1, fits_still b.member c.member s.sees.same p.shelf.objects at.0 w at.2)

pub all_worked_more : (ps : List Place) (bs cs : List Back) → AllZip IsBackOf ps bs → AllZip IsSameLog bs cs
    → AllZip IsBackOf ps cs
all_worked_more [] [] [] h s = tt
all_worked_more [] [] (c ∷ cs) h s = s
all_worked_more [] (b ∷ bs) cs h s = absurd h
all_worked_more (p ∷ ps) [] cs h s = absurd h
all_worked_more (p ∷ ps) (b ∷ bs) [] h s = s
all_worked_more (p ∷ ps) (b ∷ bs) (c ∷ cs) h s = (worked_more p b c h.0 s.0, all_worked_more ps bs cs h.1 s.1)

-- ## What follows

pub zip_at : (ps : List Place) (bs : List Back) (i : ℕ) (b : Back) → AllZip IsBackOf ps bs → slice_get bs i ≡ Some b
    → (p : Place) × (slice_get ps i ≡ Some p) × IsBackOf p b
zip_at [] [] i b h e = absurd (none_some e)
zip_at [] (x ∷ bs) i b h e = absurd h
zip_at (p ∷ ps) [] i b h e = absurd (none_some e)
zip_at (p ∷ ps) (x ∷ bs) zero b h e = (p, refl, subst (IsBackOf p) (some_same e) h.0)
zip_at (p ∷ ps) (x ∷ bs) (suc i) b h e = zip_at ps bs i b h.1 e

-- what an entry names is known to the member
named_of : (m : MemberState) (is : IsMember m) (n : ℕ) (objects : List (ℕ × Kind)) (j : Job) (e : Entry) (s : Histories)
    → AnswersJob m n objects j e → entry_set e ≡ Some s → IsKnownTo m s
named_of m is n objects (Update object op) (Learned l) s h e =
    inr (own_are m is 0 s (subst (λ z. IsOwnCertified m 0 z) (some_same e) h.0))
named_of m is n objects (Update object op) (Decided x y o) s h e = absurd h
named_of m is n objects (Update object op) (Answer seen answer) s h e = absurd h
named_of m is n objects (Decide k value) (Learned l) s h e = absurd h
named_of m is n objects (Decide k value) (Decided x y o) s h e = absurd (none_some e)
named_of m is n objects (Decide k value) (Answer seen answer) s h e = absurd h
named_of m is n objects (Ask object query) (Learned l) s h e = absurd h
named_of m is n objects (Ask object query) (Decided x y o) s h e = absurd h
named_of m is n objects (Ask object query) (Answer seen answer) s h e = subst (IsKnownTo m) (some_same e) h.0

named_known : (p : Place) (b : Back) (s : Histories) → IsBackOf p b → NamesSet b s → IsKnownTo b.member s
named_known p b s h (inl e) = subst (IsKnownTo b.member) (sym e) (view_is b.member h.is)
named_known p b s h (inr at) =
    let a = h.done.answers at.0 at.1 at.2 in
    named_of b.member h.is (next_number p.member (take at.0 p.jobs)) p.shelf.objects a.0 at.1 s a.2 at.3

pub certified_seen : (m n : MemberState) → HasSeen m n → (i : ℕ) (s : Histories) → IsCertified m i s → IsCertified n i s
certified_seen m n h i s c =
    subst (λ vs. HasCertificate vs (passes_in n i) s) (sym h.votes)
    (certificate_stays m.votes (passes_in m i) (passes_in n i) s (h.sees i) c)

known_seen : (m n : MemberState) → HasSeen m n → (s : Histories) → IsKnownTo m s → IsKnownTo n s
known_seen m n h s (inl e) = inl e
known_seen m n h s (inr c) = inr (certified_seen m n h 0 s c)

known_compare : (m : MemberState) → IsMember m → (s t : Histories) → IsKnownTo m s → IsKnownTo m t → AreComparable s t
known_compare m is s t (inl e) d = inl (subst (λ z. IsSubset z t) (sym e) (empty_within t))
known_compare m is s t (inr c) (inl e) = inr (subst (λ z. IsSubset z s) (sym e) (empty_within s))
known_compare m is s t (inr c) (inr d) = certified_compare m is 0 s t c d

pub seen_here : (bs : List Back) (w : MemberState) (i : ℕ) (b : Back) → All (λ x. HasSeen x.member w) bs
    → slice_get bs i ≡ Some b → HasSeen b.member w
seen_here bs w i b all e =
    subst (λ x. HasSeen x.member w) (get_or_from_slice_get bs i b b e) (all i b (slice_get_within bs i b e))

pub all_compare : (ps : List Place) (bs : List Back) → AllZip IsBackOf ps bs → AreSeen bs → AllComparable bs
all_compare ps bs h (inl none) i j b c s t at_b at_c of_b of_c =
    absurd (none_some (ap (λ l. slice_get l i) (sym none) ∙ at_b))
all_compare ps bs h (inr w) i j b c s t at_b at_c of_b of_c =
    let p = zip_at ps bs i b h at_b in
    let q = zip_at ps bs j c h at_c in
    known_compare w.witness w.is s t
    (known_seen b.member w.witness (seen_here bs w.witness i b w.sees at_b) s (named_known p.0 b s p.2 of_b))
    (known_seen c.member w.witness (seen_here bs w.witness j c w.sees at_c) t (named_known q.0 c t q.2 of_c))

-- each member that comes back is one, and so invents nothing
pub all_honest : {X : Type 0} (f : X → Back) (ps : List Place) (xs : List X) → AllZip IsBackOf ps (map f xs)
    → All (λ x. IsHonest (f x).member) xs
all_honest f ps [] h = All-nil (λ x. IsHonest (f x).member)
all_honest f [] (x ∷ xs) h = absurd h
all_honest f (p ∷ ps) (x ∷ xs) h =
    All-cons (λ x. IsHonest (f x).member) x xs (view_is (f x).member h.0.is, told_or_own (f x).member h.0.is)
    (all_honest f ps xs h.1)

pub seen_sees : (bs cs : List Back) → cs ≡ bs → AreSeen bs → AreSeen cs
seen_sees bs cs e h = subst AreSeen (sym e) h

pub all_front : {X : Type 0} (P : X → Type 0) (xs : List X) (y : X) → All P (xs ++ y ∷ []) → All P xs
all_front P [] y h = All-nil P
all_front P (x ∷ xs) y h =
    All-cons P x xs (h 0 x (omega arith)) (all_front P xs y (all_rest P x (x ∷ xs ++ y ∷ []) (xs ++ y ∷ []) refl h))

pub all_last : {X : Type 0} (P : X → Type 0) (xs : List X) (y : X) → All P (xs ++ y ∷ []) → P y
all_last P [] y h = h 0 y (omega arith)
all_last P (x ∷ xs) y h = all_last P xs y (all_rest P x (x ∷ xs ++ y ∷ []) (xs ++ y ∷ []) refl h)

-- the last log alone has changed, and only in what its member has seen
pub same_all : {X : Type 0} (f : X → Back) (init : List X) (x y : X) → All (λ z. IsMember (f z).member) init
    → IsSameLog (f x) (f y) → AllZip IsSameLog (map f (init ++ x ∷ [])) (map f (init ++ y ∷ []))
same_all f [] x y are s = (s, tt)
same_all f (z ∷ init) x y are s = (
  record { same_replica = refl; sees = sees_self (f z).member (are 0 z (omega arith)); same_shelf = refl; same_entries = refl; same_stopped = refl },
  same_all f init x y (all_rest (λ z. IsMember (f z).member) z (z ∷ init) init refl are) s,
)

pub seen_all : {X : Type 0} (f : X → Back) (init : List X) (y : X) (w : MemberState)
    → All (λ z. HasSeen (f z).member w) init → HasSeen (f y).member w
    → All (λ b. HasSeen b.member w) (map f (init ++ y ∷ []))
seen_all f [] y w are now =
    All-cons (λ (b : Back). HasSeen b.member w) (f y) [] now (All-nil (λ (b : Back). HasSeen b.member w))
seen_all f (z ∷ init) y w are now =
    All-cons (λ (b : Back). HasSeen b.member w) (f z) (map f (init ++ y ∷ [])) (are 0 z (omega arith))
    (seen_all f init y w (all_rest (λ z. HasSeen (f z).member w) z (z ∷ init) init refl are) now)

pub seen_self : (m : MemberState) → HasSeen m m
seen_self m = record { votes = refl; sees = λ i a. prefix_self (passes_seen_at (passes_in m i) a) }

pub zip_long : {A B : Type 0} (Q : A → B → Type 0) (xs : List A) (ys : List B) → AllZip Q xs ys → length xs ≡ length ys
zip_long Q [] [] h = refl
zip_long Q [] (y ∷ ys) h = absurd h
zip_long Q (x ∷ xs) [] h = absurd h
zip_long Q (x ∷ xs) (y ∷ ys) h = ap suc (zip_long Q xs ys h.1)

pub places_long : (ms : List MemberState) (ss : List ShelfState) (jss : List (List Job)) → length ss ≡ length ms
    → length jss ≡ length ms → length (places ms ss jss) ≡ length ms
places_long [] ss jss s j = refl
places_long (m ∷ ms) [] jss s j = absurd (omega (arith, s))
places_long (m ∷ ms) (x ∷ ss) [] s j = absurd (omega (arith, j))
places_long (m ∷ ms) (x ∷ ss) (js ∷ jss) s j =
    let rest = places_long ms ss jss (omega (arith, s)) (omega (arith, j)) in omega (arith, rest)

-- a vector whose items were lent whole has what stands there now
pub written_back : {A : Type 0} (n : ℕ) (xs ys : List A) → length xs ≡ n → length ys ≡ n
    → take n (xs ++ drop (length xs) ys) ≡ xs
written_back zero [] ys e f = refl
written_back zero (x ∷ xs) ys e f = absurd (omega (arith, e))
written_back (suc n) [] ys e f = absurd (omega (arith, e))
written_back (suc n) (x ∷ xs) [] e f = absurd (omega (arith, f))
written_back (suc n) (x ∷ xs) (y ∷ ys) e f =
    ap (λ l. x ∷ l) (written_back n xs ys (omega (arith, e)) (omega (arith, f)))
