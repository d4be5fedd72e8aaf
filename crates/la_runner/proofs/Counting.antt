-- What is counted and known once the workers are back, in plain variables.
use Rattle.std.proofs.Common.{◌≡◌, inl, inr, ℕ, suc, ◌+◌, ◌<◌, ◌≤◌, Bool, true, false, List, [], ◌∷◌, ◌++◌, map, length, Option, Some, refl, ap, sym, ◌∙◌, subst, arith}
use Rattle.std.specs.List.{All, AllZip, slice_get, slice_set, slice_index_or}
use Rattle.std.specs.Prelude.{not, ◌&&◌, if◌then◌else◌}
use Rattle.std.proofs.lemmas.Bool.{cases_eq, cases_lt, eq-eqb, ne_eqb}
use Rattle.std.proofs.lemmas.List.Elements.{All-nil, All-cons}
use Rattle.std.proofs.lemmas.Option.{slice_get_within, get_or_from_slice_get, slice_get-get_or}
use Rattle.la_set.specs.Histories.{Histories, empty}
use Rattle.la_set.specs.Inclusion.{IsSubset}
use Rattle.la_object.specs.Shelves.{ShelfState}
use Rattle.la_runner.specs.declared.jobs.Job.{Job}
use Rattle.la_proposer.specs.Majority.{how_many}
use Rattle.la_runner.specs.Counted.{Taker, has_met, have_met, counts_peer}
use Rattle.la_runner.specs.Members.{MemberState, GroupState, IsOfGroup, member_view}
use Rattle.la_runner.specs.Runs.{Place, Back, place_of, places, IsReadyMember, ContainsAll}
use Rattle.la_runner.proofs.Keeping.{item_at, long_map, get_map, map_set}
use Rattle.la_runner.proofs.Passing.{get-set_same, get-set_other, map-set_other}
use Rattle.la_runner.proofs.Proposing.{some_same}
use Rattle.la_runner.proofs.Threading.{all_rest}
use Rattle.la_runner.proofs.Viewing.{empty_within}

-- ## What the workers begin with

appended : {W : Type 0} (xs : List W) (x : W) (rest : List W) → (xs ++ x ∷ []) ++ rest ≡ xs ++ x ∷ rest
appended [] x rest = refl
appended (y ∷ xs) x rest = ap (λ r. y ∷ r) (appended xs x rest)

map_last : {S W : Type 0} (f : S → W) (xs : List S) (x : S) → map f (xs ++ x ∷ []) ≡ map f xs ++ f x ∷ []
map_last f [] x = refl
map_last f (y ∷ xs) x = ap (λ r. f y ∷ r) (map_last f xs x)

ended : {W : Type 0} (xs : List W) → xs ++ [] ≡ xs
ended [] = refl
ended (x ∷ xs) = ap (λ r. x ∷ r) (ended xs)

pub all_begun : {S : Type 0} (f : S → Place) (made : List S) (ms : List MemberState) (ss : List ShelfState)
    (jss : List (List Job)) (all : List Place) → ms ≡ [] → map f made ++ places ms ss jss ≡ all → map f made ≡ all
all_begun f made ms ss jss all none so_far =
    sym (ended (map f made)) ∙ ap (λ l. map f made ++ places l ss jss) (sym none) ∙ so_far

pub ready_all : (group : GroupState) (ms : List MemberState) (ss : List ShelfState) (jss : List (List Job))
    → All (IsOfGroup group) ms → All (λ (s : ShelfState). s.view ≡ empty) ss
    → All (λ (p : Place). IsReadyMember group p.member p.shelf) (places ms ss jss)
ready_all group [] ss jss of unused = All-nil (λ (p : Place). IsReadyMember group p.member p.shelf)
ready_all group (m ∷ ms) [] jss of unused = All-nil (λ (p : Place). IsReadyMember group p.member p.shelf)
ready_all group (m ∷ ms) (s ∷ ss) [] of unused = All-nil (λ (p : Place). IsReadyMember group p.member p.shelf)
ready_all group (m ∷ ms) (s ∷ ss) (js ∷ jss) of unused =
    All-cons (λ (p : Place). IsReadyMember group p.member p.shelf) (place_of m s js) (places ms ss jss)
    (record { of = of 0 m (omega arith); behind = subst (λ v. IsSubset v (member_view m)) (sym (unused 0 s (omega arith))) (empty_within (member_view m)) })
    (ready_all group ms ss jss (all_rest (IsOfGroup group) m (m ∷ ms) ms refl of)
    (all_rest (λ (z : ShelfState). z.view ≡ empty) s (s ∷ ss) ss refl unused))

pub all_of_map : {A B : Type 0} (P : B → Type 0) (f : A → B) (xs : List A) → All P (map f xs) → All (λ x. P (f x)) xs
all_of_map P f [] all = All-nil (λ x. P (f x))
all_of_map P f (x ∷ xs) all =
    All-cons (λ x. P (f x)) x xs (all 0 (f x) (omega arith))
    (all_of_map P f xs (all_rest P (f x) (f x ∷ map f xs) (map f xs) refl all))

pub zip_maps : {A B C D : Type 0} (f : A → C) (g : B → D) (Q : C → D → Type 0) (xs : List A) (ys : List B)
    → AllZip (λ x y. Q (f x) (g y)) xs ys → AllZip Q (map f xs) (map g ys)
zip_maps f g Q [] [] all = tt
zip_maps f g Q [] (y ∷ ys) all = all
zip_maps f g Q (x ∷ xs) [] all = all
zip_maps f g Q (x ∷ xs) (y ∷ ys) all = (all.0, zip_maps f g Q xs ys all.1)

-- ## The counting of notes

-- so many of the first logs, without that at a place itself, have their views in its view
pub record Counting (views : List Histories) (at upto count : ℕ) : Type 0 where
  pub own : ℕ
  pub after : at < upto → own ≡ 1
  pub before : upto ≤ at → own ≡ 0
  pub most : count + own ≤ upto
  pub contains : count + own ≡ upto → (k : ℕ) (d : Histories) → k < upto
      → IsSubset (slice_index_or views k d) (slice_index_or views at empty)

-- the view at a place
pub value_at : {A B : Type 0} (f : A → B) (xs : List A) (i : ℕ) (x : A) (d : B) → i < length xs
    → x ≡ slice_index_or xs i x → slice_index_or (map f xs) i d ≡ f x
value_at f xs i x d lt e = get_or_from_slice_get (map f xs) i (f x) d (get_map f xs i x (item_at xs i x lt e))

module _ (views : List Histories) (at upto count : ℕ) (c : Counting views at upto count) where
  -- the place itself
  pub own_passed : (member_view : Histories) → upto ≡ at → ((d : Histories) → slice_index_or views upto d ≡ member_view)
      → Counting views at (upto + 1) count
  own_passed member_view here is = record {
    own = 1;
    after = λ lt. refl;
    before = λ le. absurd (omega (arith, le, here));
    most = let none = c.before (omega (arith, here)) in let most = c.most in omega (arith, most, none);
    contains = λ e k d lt. elim (cases_lt k upto) [
      | inl less ↦ c.contains (let none = c.before (omega (arith, here)) in omega (arith, e, none)) k d less
      | inr over ↦
          let same : k ≡ upto = omega (arith, over, lt) in
          subst (λ i. IsSubset (slice_index_or views i d) (slice_index_or views at empty)) (sym same)
          (subst (λ v. IsSubset v (slice_index_or views at empty))
          (ap (λ i. slice_index_or views i empty) (sym here) ∙ is empty ∙ sym (is d)) (λ u has. has))
    ];
  }

  -- one more that is counted
  pub one_counted : (upto ≡ at → ⊥)
      → ((d : Histories) → IsSubset (slice_index_or views upto d) (slice_index_or views at empty))
      → Counting views at (upto + 1) (count + 1)
  one_counted other has = record {
    own = c.own;
    after =
        λ lt. c.after (elim (cases_lt at upto) [ inl less ↦ less | inr over ↦ absurd (other (omega (arith, lt, over))) ]);
    before = λ le. c.before (omega (arith, le));
    most = let most = c.most in omega (arith, most);
    contains = λ e k d lt. elim (cases_lt k upto) [
      | inl less ↦ c.contains (omega (arith, e)) k d less
      | inr over ↦ (let same : k ≡ upto = omega (arith, over, lt) in subst (λ i. IsSubset (slice_index_or views i d) (slice_index_or views at empty)) (sym same) (has d))
    ];
  }

  -- one more that is not
  pub one_missing : (upto ≡ at → ⊥) → Counting views at (upto + 1) count
  one_missing other = record {
    own = c.own;
    after =
        λ lt. c.after (elim (cases_lt at upto) [ inl less ↦ less | inr over ↦ absurd (other (omega (arith, lt, over))) ]);
    before = λ le. c.before (omega (arith, le));
    most = let most = c.most in omega (arith, most);
    contains = λ e k d lt. let most = c.most in absurd (omega (arith, e, most));
  }

  pub all_counted : upto ≡ length views → at < length views → count + 1 ≡ length views → ContainsAll views at
  all_counted whole there e k d lt =
      c.contains (let one = c.after (omega (arith, whole, there)) in omega (arith, one, e, whole)) k d
      (omega (arith, lt, whole))

-- the value at a place in a list is the same by any default
pub any_default : (xs : List Histories) (i : ℕ) → i < length xs → (d e : Histories)
    → slice_index_or xs i d ≡ slice_index_or xs i e
any_default xs i lt d e = get_or_from_slice_get xs i (slice_index_or xs i e) d (slice_get-get_or xs i e lt)

-- one view in another one, by the logs that they are of
pub met_at : {X : Type 0} (f : X → Histories) (xs : List X) (at upto : ℕ) (x y : X) → at < length xs → upto < length xs
    → x ≡ slice_index_or xs at x → y ≡ slice_index_or xs upto y → IsSubset (f y) (f x) → (d : Histories)
    → IsSubset (slice_index_or (map f xs) upto d) (slice_index_or (map f xs) at empty)
met_at f xs at upto x y at_in upto_in x_is y_is has d =
    subst (λ z. IsSubset z (slice_index_or (map f xs) at empty)) (sym (value_at f xs upto y d upto_in y_is))
    (subst (IsSubset (f y)) (sym (value_at f xs at x empty at_in x_is)) has)

-- ## Exactly as many

-- so many of the first logs are peers that the one at a place counts
abbrev pub Exactly : List Taker → (at upto count : ℕ) → Type 0
Exactly logs at upto count = count ≡ how_many upto (counts_peer logs at)

abbrev one_if : Bool → ℕ
one_if b = if b then 1 else 0

one_place_more : (n : ℕ) (p : ℕ → Bool) → how_many (n + 1) p ≡ one_if (p n) + how_many n p
one_place_more n p = ap (λ k. how_many k p) (let next : n + 1 ≡ suc n = omega arith in next)

plus_one : (a b c more : ℕ) → a ≡ 1 → c ≡ b → more ≡ c + 1 → more ≡ a + b
plus_one a b c more one same e = omega (arith, one, same, e)

plus_none : (a b c more : ℕ) → a ≡ 0 → c ≡ b → more ≡ c → more ≡ a + b
plus_none a b c more none same e = omega (arith, none, same, e)

pub one_exactly : (logs : List Taker) (at upto count more : ℕ) → Exactly logs at upto count
    → counts_peer logs at upto ≡ true → more ≡ count + 1 → Exactly logs at (upto + 1) more
one_exactly logs at upto count more so_far is e =
    plus_one (one_if (counts_peer logs at upto)) (how_many upto (counts_peer logs at)) count more (ap one_if is) so_far
    e
    ∙ sym (one_place_more upto (counts_peer logs at))

pub none_exactly : (logs : List Taker) (at upto count more : ℕ) → Exactly logs at upto count
    → counts_peer logs at upto ≡ false → more ≡ count → Exactly logs at (upto + 1) more
none_exactly logs at upto count more so_far is e =
    plus_none (one_if (counts_peer logs at upto)) (how_many upto (counts_peer logs at)) count more (ap one_if is) so_far
    e
    ∙ sym (one_place_more upto (counts_peer logs at))

-- itself it does not count
pub own_not : (logs : List Taker) (at upto : ℕ) → upto ≡ at → counts_peer logs at upto ≡ false
own_not logs at upto e =
    ap (λ (b : Bool). not b && have_met (slice_get logs at) (slice_get logs upto)) (eq-eqb upto at e)

-- another one where it has met it
pub other_met : {X : Type 0} (f : X → Taker) (xs : List X) (at upto : ℕ) (x y : X) → at < length xs → upto < length xs
    → x ≡ slice_index_or xs at x → y ≡ slice_index_or xs upto y → (upto ≡ at → ⊥) → (b : Bool) → b ≡ has_met (f x) (f y)
    → counts_peer (map f xs) at upto ≡ b
other_met f xs at upto x y at_in upto_in x_is y_is other b is =
    ap (λ (c : Bool). not c && have_met (slice_get (map f xs) at) (slice_get (map f xs) upto)) (ne_eqb upto at other)
    ∙ ap (λ (o : Option Taker). have_met o (slice_get (map f xs) upto)) (get_map f xs at x (item_at xs at x at_in x_is))
    ∙ ap (have_met (Some (f x))) (get_map f xs upto y (item_at xs upto y upto_in y_is))
    ∙ sym is

-- of the first logs the notes are exactly as many
abbrev pub ExactlyTo : (notes : List ℕ) → List Taker → (upto : ℕ) → Type 0
ExactlyTo notes logs upto =
    (at n : ℕ) → at < upto → slice_get notes at ≡ Some n → Exactly logs at (length logs) n

pub one_more_exactly : {X : Type 0} (t : X → Taker) (n : X → ℕ) (xs : List X) (at : ℕ) (x y : X)
    → slice_get xs at ≡ Some x → t y ≡ t x → ExactlyTo (map n xs) (map t xs) at → Exactly (map t xs) at (length xs) (n y)
    → ExactlyTo (map n (slice_set xs at y)) (map t (slice_set xs at y)) (at + 1)
one_more_exactly t n xs at x y here same so_far now =
    subst (λ (z : List ℕ × List Taker). ExactlyTo z.0 z.1 (at + 1))
    (λ i. (sym (map_set n xs at y) i, sym (map-set_other t xs at x y here same) i)) go
  where
    there : at < length (map n xs)
    there = let l = long_map n xs in let w = slice_get_within xs at x here in omega (arith, l, w)

    go : ExactlyTo (slice_set (map n xs) at (n y)) (map t xs) (at + 1)
    go k m lt got = elim (cases_eq k at) [
      | inl same ↦
          let is : n y ≡ m =
          some_same
          (sym (get-set_same (map n xs) at (n y) there)
          ∙ ap (slice_get (slice_set (map n xs) at (n y))) (sym same) ∙ got) in
          subst (λ i. Exactly (map t xs) i (length (map t xs)) m) (sym same)
          (subst (Exactly (map t xs) at (length (map t xs))) is
          (now ∙ ap (λ l. how_many l (counts_peer (map t xs) at)) (sym (long_map t xs))))
      | inr other ↦ so_far k m (omega (arith, lt, other)) (sym (get-set_other (map n xs) at k (n y) other) ∙ got)
    ]

-- ## The notes of all

-- of the first logs the notes are counted
abbrev pub CountedTo : (notes : List ℕ) → List Histories → (upto : ℕ) → Type 0
CountedTo notes views upto =
    (at n : ℕ) → at < upto → slice_get notes at ≡ Some n → n + 1 ≡ length views → ContainsAll views at

pub one_noted : (notes : List ℕ) (views : List Histories) (upto n : ℕ) → upto < length notes
    → CountedTo notes views upto → (n + 1 ≡ length views → ContainsAll views upto)
    → CountedTo (slice_set notes upto n) views (upto + 1)
one_noted notes views upto n there so_far now at m lt got e = elim (cases_eq at upto) [
  | inl same ↦
      let is : n ≡ m =
      some_same (sym (get-set_same notes upto n there) ∙ ap (slice_get (slice_set notes upto n)) (sym same) ∙ got)
      in
      subst (ContainsAll views) (sym same) (now (is_plus is ∙ e))
  | inr other ↦ so_far at m (omega (arith, lt, other)) (sym (get-set_other notes upto at n other) ∙ got) e
]
  where
    is_plus : n ≡ m → n + 1 ≡ m + 1
    is_plus is = ap (λ i. i + 1) is

pub map_map : {A B C : Type 0} (f : A → B) (g : B → C) (xs : List A) → map g (map f xs) ≡ map (λ x. g (f x)) xs
map_map f g [] = refl
map_map f g (x ∷ xs) = ap (λ l. g (f x) ∷ l) (map_map f g xs)

-- ## Whether a run may begin

-- one more log's notes are counted
pub noted : {X : Type 0} (b : X → Back) (n : X → ℕ) (v : X → Histories) (xs init : List X) (at : ℕ) (x y : X)
    → slice_get xs at ≡ Some x → b y ≡ b x → v y ≡ v x → map b xs ≡ map b init → CountedTo (map n xs) (map v xs) at
    → (n y + 1 ≡ length xs → ContainsAll (map v xs) at)
    → (map b (slice_set xs at y) ≡ map b init)
    × CountedTo (map n (slice_set xs at y)) (map v (slice_set xs at y)) (at + 1)
noted b n v xs init at x y here same_b same_v same so_far now = (
  map-set_other b xs at x y here same_b ∙ same,
  subst (λ (z : List ℕ × List Histories). CountedTo z.0 z.1 (at + 1))
      (λ i. (sym (map_set n xs at y) i, sym (map-set_other v xs at x y here same_v) i))
      (one_noted (map n xs) (map v xs) at (n y)
      (let l = long_map n xs in let w = slice_get_within xs at x here in omega (arith, l, w)) so_far
      (λ e. now (e ∙ long_map v xs))),
)
