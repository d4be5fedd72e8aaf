-- Threads that are started one by one, and those that come back.
use Rattle.std.specs.Prelude.{◌≡◌, ℕ, ◌<◌, List, [], ◌∷◌, ◌++◌, map, length}
use Rattle.std.specs.List.{All, AllZip, slice_index_or}
use Rattle.std.proofs.Common.{refl, ◌∙◌, sym, ap, subst, suc, arith}
use Rattle.std.proofs.lemmas.List.Elements.{All-nil, All-cons}
use Rattle.std.specs.Prelude.{Option}
use Rattle.la_object.specs.Shelves.{ShelfState}
use Rattle.la_runner.specs.declared.jobs.Entry.{Entry}
use Rattle.la_runner.specs.declared.jobs.Job.{Job}
use Rattle.la_runner.specs.declared.jobs.Stopped.{Stopped}
use Rattle.la_runner.specs.Members.{MemberState, GroupState}
use Rattle.la_runner.specs.Runs.{IsReadyMember, IsWorked, IsWorkOf}

moved : {H W : Type 0} (f : H → W) (hs : List H) (h : H) (after : List W)
    → map f (hs ++ h ∷ []) ++ after ≡ map f hs ++ f h ∷ after
moved f [] h after = refl
moved f (x ∷ hs) h after = ap (λ r. f x ∷ r) (moved f hs h after)

-- one more is started, of which there is room in the list
pub one_started : {H W : Type 0} (f : H → W) (hs roomy more : List H) (h : H) (w : W) (before after all : List W)
    → roomy ≡ hs → more ≡ roomy ++ h ∷ [] → f h ≡ w → before ≡ w ∷ after → map f hs ++ before ≡ all
    → map f more ++ after ≡ all
one_started f hs roomy more h w before after all same is of rest so_far =
    ap (λ r. map f r ++ after) (is ∙ ap (λ r. r ++ h ∷ []) same) ∙ moved f hs h after
    ∙ ap (λ x. map f hs ++ x ∷ after) of ∙ ap (λ r. map f hs ++ r) (sym rest) ∙ so_far

-- what holds of each holds of each of the rest
pub all_rest : {W : Type 0} (P : W → Type 0) (w : W) (before after : List W) → before ≡ w ∷ after → All P before
    → All P after
all_rest P w before after rest all k d less = subst (All P) rest all (suc k) d (omega arith)

-- each result keeps what was promised at its place
pub kept_all : {H R : Type 0} (Q : H → R → Type 0) (hs : List H) (rs : List R) → length rs ≡ length hs
    → ((i : ℕ) (d : R) → i < length hs → (h : H) × (h ≡ slice_index_or hs i h) × Q h (slice_index_or rs i d))
    → AllZip Q hs rs
kept_all Q [] [] same each = tt
kept_all Q [] (r ∷ rs) same each = let no : ⊥ = omega arith in absurd no
kept_all Q (h ∷ hs) [] same each = let no : ⊥ = omega arith in absurd no
kept_all Q (h ∷ hs) (r ∷ rs) same each =
    let first = each 0 r (omega arith) in
    (subst (λ x. Q x r) first.1 first.2, kept_all Q hs rs (omega arith) (λ i d less. each (suc i) d (omega arith)))

-- what is said of the first list through f is said of what f makes of it
pub zip_map : {H W R : Type 0} (f : H → W) (Q : W → R → Type 0) (hs : List H) (rs : List R)
    → AllZip (λ h r. Q (f h) r) hs rs → AllZip Q (map f hs) rs
zip_map f Q [] [] all = tt
zip_map f Q [] (r ∷ rs) all = all
zip_map f Q (h ∷ hs) [] all = all
zip_map f Q (h ∷ hs) (r ∷ rs) all = (all.0, zip_map f Q hs rs all.1)

glued : {W : Type 0} (xs : List W) (w : W) (rest : List W) → (xs ++ w ∷ []) ++ rest ≡ xs ++ w ∷ rest
glued [] w rest = refl
glued (x ∷ xs) w rest = ap (λ r. x ∷ r) (glued xs w rest)

ended : {W : Type 0} (xs : List W) → xs ++ [] ≡ xs
ended [] = refl
ended (x ∷ xs) = ap (λ r. x ∷ r) (ended xs)

-- one more is made
pub one_made : {S W : Type 0} (Q : S → W → Type 0) (s : S) (w : W) (before after all : List S) (works more : List W)
    → more ≡ works ++ w ∷ [] → before ≡ s ∷ after → Q s w
    → ((rest : List W) → AllZip Q before rest → AllZip Q all (works ++ rest)) → (rest : List W) → AllZip Q after rest
    → AllZip Q all (more ++ rest)
one_made Q s w before after all works more is of q so_far rest zip =
    subst (AllZip Q all) (sym (ap (λ r. r ++ rest) is ∙ glued works w rest))
    (so_far (w ∷ rest) (subst (λ b. AllZip Q b (w ∷ rest)) (sym of) (q, zip)))

pub none_made : {S W : Type 0} (Q : S → W → Type 0) (before all : List S) (works : List W) → before ≡ all → works ≡ []
    → (rest : List W) → AllZip Q before rest → AllZip Q all (works ++ rest)
none_made Q before all works is none rest zip =
    subst (λ ws. AllZip Q all (ws ++ rest)) (sym none) (subst (λ b. AllZip Q b rest) is zip)

pub all_made : {S W : Type 0} (Q : S → W → Type 0) (before all : List S) (works : List W) → before ≡ []
    → ((rest : List W) → AllZip Q before rest → AllZip Q all (works ++ rest)) → AllZip Q all works
all_made Q before all works none so_far =
    subst (AllZip Q all) (ended works) (so_far [] (subst (λ b. AllZip Q b []) (sym none) tt))

-- from the first list over the second to the third
pub zip_along : {A B C : Type 0} (P : A → B → Type 0) (Q : B → C → Type 0) (R : A → C → Type 0)
    → ((a : A) (b : B) (c : C) → P a b → Q b c → R a c) → (ns : List A) (bs : List B) (cs : List C) → AllZip P ns bs
    → AllZip Q bs cs → AllZip R ns cs
zip_along P Q R f [] [] [] p q = tt
zip_along P Q R f [] [] (c ∷ cs) p q = q
zip_along P Q R f [] (b ∷ bs) cs p q = absurd p
zip_along P Q R f (a ∷ ns) [] cs p q = absurd p
zip_along P Q R f (a ∷ ns) (b ∷ bs) [] p q = q
zip_along P Q R f (a ∷ ns) (b ∷ bs) (c ∷ cs) p q = (f a b c p.0 q.0, zip_along P Q R f ns bs cs p.1 q.1)

-- what holds of each of the first list, and goes over, holds of each of the second
pub all_over : {A B : Type 0} (P : A → B → Type 0) (Q : A → Type 0) (R : B → Type 0)
    → ((a : A) (b : B) → P a b → Q a → R b) → (ns : List A) (bs : List B) → AllZip P ns bs → All Q ns → All R bs
all_over P Q R f ns [] p q = All-nil R
all_over P Q R f [] (b ∷ bs) p q = absurd p
all_over P Q R f (a ∷ ns) (b ∷ bs) p q =
    All-cons R b bs (f a b p.0 (q 0 a (omega arith))) (all_over P Q R f ns bs p.1 (all_rest Q a (a ∷ ns) ns refl q))

pub none_left : {X : Type 0} (xs : List X) → length xs ≡ 0 → xs ≡ []
none_left [] none = refl
none_left (x ∷ xs) none = let no : ⊥ = omega arith in absurd no

-- a work is ready where what it was made of is
pub ready_of : (group : GroupState) (m : MemberState) (shelf : ShelfState) (jobs : List Job) (n : MemberState)
    (its : ShelfState) (their : List Job) → IsWorkOf m shelf jobs n its their → IsReadyMember group m shelf
    → IsReadyMember group n its
ready_of group m shelf jobs n its their is ready =
    subst (IsReadyMember group n) (sym is.shelf) (subst (λ z. IsReadyMember group z shelf) (sym is.member) ready)

-- and what comes back of it comes back of that
pub worked_of : (m : MemberState) (shelf : ShelfState) (jobs : List Job) (n : MemberState) (its : ShelfState)
    (their : List Job) (replica : ℕ) (back : MemberState) (last : ShelfState) (entries : List Entry)
    (stopped : Option Stopped) → IsWorkOf m shelf jobs n its their
    → IsWorked n its their replica back last entries stopped → IsWorked m shelf jobs replica back last entries stopped
worked_of m shelf jobs n its their replica back last entries stopped is h =
    subst (λ z. IsWorked z shelf jobs replica back last entries stopped) is.member
    (subst (λ z. IsWorked n z jobs replica back last entries stopped) is.shelf
    (subst (λ z. IsWorked n its z replica back last entries stopped) is.jobs h))
