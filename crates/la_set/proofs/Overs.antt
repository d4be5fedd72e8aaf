-- What a set has over counts: the end of each history, and what leads there from the rest.
use Rattle.std.proofs.Common.{◌≡◌, ℕ, zero, suc, ◌+◌, ◌-◌, ◌<◌, ◌≤◌, List, [], ◌∷◌, ◌++◌, length, take, drop, filter, refl, ap, sym, ◌∙◌, subst, append_assoc, append-nil, arith, inl, inr}
use Rattle.std.specs.List.{slice_get}
use Rattle.std.proofs.lemmas.List.{length-append, length-drop, nil_from_length}
use Rattle.std.proofs.lemmas.List.Elements.{filter-append}
use Rattle.std.proofs.lemmas.Bool.{cases_lt, lt-ltb, le-ltb}
use Rattle.la_set.specs.declared.update.Update.{Update}
use Rattle.la_set.specs.declared.counts.Counts.{Counts}
use Rattle.la_set.specs.ObjectOps.{ObjectOp, update_of}
use Rattle.la_set.specs.Histories.{Histories, history, count, numbered, updates_from, updates, IsWithinLimit}
use Rattle.la_set.specs.Inclusion.{IsSubset}
use Rattle.la_set.specs.Difference.{lacks, beyond, PushesTo}
use Rattle.la_set.specs.Counts.{count_in, HasCounts, within}
use Rattle.la_set.specs.Deltas.{is_over, over}
use Rattle.la_set.proofs.lemmas.NumberedLists.{length-numbered, drop-numbered, slice_get-append_left, slice_get-append_right}
use Rattle.la_set.proofs.lemmas.Joins.{slice_get-drop}
use Rattle.la_set.proofs.lemmas.Inclusions.{prefix-subset}
use Rattle.la_set.proofs.lemmas.Differences.{new_part-drop, beyond-pushes}
use Rattle.la_set.proofs.lemmas.Counting.{history-within, count-within}

-- of one replica's updates, those over its count are what comes after so many
all_over : (c : Counts) (r m : ℕ) (ds : List ObjectOp) → count_in c r < m
    → filter (is_over c) (numbered r m ds) ≡ numbered r m ds
all_over c r m [] past = refl
all_over c r m (d ∷ ds) past =
    rw (lt-ltb (count_in c r) m past) (ap (λ us. update_of r m d ∷ us) (all_over c r (suc m) ds (omega arith)))

over_one : (c : Counts) (r m k : ℕ) (ds : List ObjectOp) → m + k ≡ count_in c r + 1
    → filter (is_over c) (numbered r m ds) ≡ drop k (numbered r m ds)
over_one c r m zero ds e = all_over c r m ds (omega (arith, e))
over_one c r m (suc k) [] e = refl
over_one c r m (suc k) (d ∷ ds) e =
    rw (le-ltb (count_in c r) m (omega (arith, e))) (over_one c r (suc m) k ds (omega (arith, e)))

-- the lists of k replicas from r on, one after another
abbrev pub parts : (ℕ → List Update) → ℕ → ℕ → List Update
parts f r zero = []
parts f r (suc k) = f r ++ parts f (suc r) k

-- what a set has of a replica over counts
unfoldable pub part : Histories → Counts → ℕ → List Update
part s c r = drop (count_in c r) (numbered r 1 (history s r))

over_parts : (s : Histories) (c : Counts) (r k : ℕ)
    → filter (is_over c) (updates_from (history s) r k) ≡ parts (part s c) r k
unfolding part
over_parts s c r zero = refl
over_parts s c r (suc k) =
    filter-append (is_over c) (numbered r 1 (history s r)) (updates_from (history s) (suc r) k)
    ∙ ap (λ us. us ++ filter (is_over c) (updates_from (history s) (suc r) k))
    (over_one c r 1 (count_in c r) (history s r) (omega arith))
    ∙ ap (λ us. part s c r ++ us) (over_parts s c (suc r) k)

pub over-parts : (s : Histories) (c : Counts) → over s c ≡ parts (part s c) 0 8
unfolding over updates
over-parts s c = over_parts s c 0 8

pub length-part : (s : Histories) (c : Counts) (r : ℕ) → length (part s c r) ≡ count s r - count_in c r
unfolding part
length-part s c r =
    length-drop (count_in c r) (numbered r 1 (history s r))
    ∙ ap (λ n. n - count_in c r) (length-numbered r 1 (history s r))

parts-add : (f : ℕ → List Update) (r j k : ℕ) → parts f r (j + k) ≡ parts f r j ++ parts f (r + j) k
parts-add f r zero k =
    ap (parts f r) {x = 0 + k} {y = k} (omega arith) ∙ ap (λ q. parts f q k) {x = r} {y = r + 0} (omega arith)
parts-add f r (suc j) k =
    ap (parts f r) {x = suc j + k} {y = suc (j + k)} (omega arith)
    ∙ ap (λ us. f r ++ us)
    (parts-add f (suc r) j k
    ∙ ap (λ q. parts f (suc r) j ++ parts f q k) {x = suc r + j} {y = r + suc j} (omega arith))
    ∙ sym (append_assoc (f r) _ _)

pub parts-more : (f : ℕ → List Update) (r : ℕ) → parts f 0 (r + 1) ≡ parts f 0 r ++ f r
parts-more f r =
    parts-add f 0 r 1 ∙ ap (λ q. parts f 0 r ++ (f q ++ [])) {x = 0 + r} {y = r} (omega arith)
    ∙ ap (λ us. parts f 0 r ++ us) (append-nil (f r))

pub parts-none : (f : ℕ → List Update) (r k q : ℕ) → parts f r k ≡ [] → r ≤ q → q < r + k → f q ≡ []
parts-none f r zero q none low high = absurd (omega arith)
parts-none f r (suc k) q none low high = elim (cases_lt r q) [
  | inl lt ↦ parts-none f (suc r) k q (nil_from_length _ (omega (arith, ap length none, length-append (f r) (parts f (suc r) k)))) (omega arith) (omega arith)
  | inr le ↦ ap f {x = q} {y = r} (omega arith) ∙ nil_from_length (f r) (omega (arith, ap length none, length-append (f r) (parts f (suc r) k)))
]

-- how many updates the replicas below r have over counts
unfoldable pub over_before : Histories → Counts → ℕ → ℕ
over_before s c r = length (parts (part s c) 0 r)

pub over_before-none : (s : Histories) (c : Counts) → over_before s c 0 ≡ 0
unfolding over_before
over_before-none s c = refl

pub over_before-more : (s : Histories) (c : Counts) (r : ℕ)
    → over_before s c (r + 1) ≡ over_before s c r + (count s r - count_in c r)
unfolding over_before
over_before-more s c r =
    ap length (parts-add (part s c) 0 r 1)
    ∙ length-append (parts (part s c) 0 r) _
    ∙ ap (λ q. over_before s c r + length (part s c q ++ [])) {x = 0 + r} {y = r} (omega arith)
    ∙ ap (λ n. over_before s c r + n) (ap length (append-nil (part s c r)) ∙ length-part s c r)

pub over_before-all : (s : Histories) (c : Counts) → length (over s c) ≡ over_before s c 8
unfolding over_before
over_before-all s c = ap length (over-parts s c)

part_at : (s : Histories) (c : Counts) (r k : ℕ)
    → slice_get (part s c r) k ≡ slice_get (numbered r 1 (history s r)) (count_in c r + k)
unfolding part
part_at s c r k = slice_get-drop (count_in c r) (numbered r 1 (history s r)) k

pub over-place : (s : Histories) (c : Counts) (r k : ℕ) → r < 8 → k < count s r - count_in c r
    → slice_get (over s c) (over_before s c r + k) ≡ slice_get (numbered r 1 (history s r)) (count_in c r + k)
unfolding over_before
over-place s c r k known lt =
    ap (λ us. slice_get us (length (parts (part s c) 0 r) + k))
    (over-parts s c ∙ ap (parts (part s c) 0) {x = 8} {y = r + suc (7 - r)} (omega arith)
    ∙ parts-add (part s c) 0 r (suc (7 - r))
    ∙ ap (λ q. parts (part s c) 0 r ++ parts (part s c) q (suc (7 - r))) {x = 0 + r} {y = r} (omega arith))
    ∙ slice_get-append_right (parts (part s c) 0 r) _ k
    ∙ slice_get-append_left (part s c r) _ k (omega (arith, length-part s c r))
    ∙ part_at s c r k

-- what a list that is a replica's has behind the first so many
pub part-list : (s : Histories) (c : Counts) (r n : ℕ) (us : List Update) → us ≡ numbered r 1 (history s r)
    → n ≡ count_in c r → drop n us ≡ part s c r
unfolding part
part-list s c r n us is e = ap (λ k. drop k us) e ∙ ap (drop (count_in c r)) is

-- ## From what is within counts to the set

within-subset : (s : Histories) (c : Counts) → HasCounts s c → IsSubset (within s c) s
within-subset s c has =
    prefix-subset (within s c) s
    (λ r. record { front = history-within s c r ∙ ap (λ n. take n (history s r)) (sym (count-within s c has r)) })

lacks-part : (s : Histories) (c : Counts) → HasCounts s c → (r : ℕ)
    → filter (lacks (within s c)) (numbered r 1 (history s r)) ≡ part s c r
unfolding part
lacks-part s c has r =
    new_part-drop (within s c) s (within-subset s c has) r
    ∙ ap (λ n. numbered r (1 + n) (drop n (history s r))) (count-within s c has r)
    ∙ sym (drop-numbered r 1 (count_in c r) (history s r))

lacks_parts : (s : Histories) (c : Counts) → HasCounts s c → (r k : ℕ)
    → filter (lacks (within s c)) (updates_from (history s) r k) ≡ parts (part s c) r k
lacks_parts s c has r zero = refl
lacks_parts s c has r (suc k) =
    filter-append (lacks (within s c)) (numbered r 1 (history s r)) (updates_from (history s) (suc r) k)
    ∙ ap (λ us. us ++ filter (lacks (within s c)) (updates_from (history s) (suc r) k)) (lacks-part s c has r)
    ∙ ap (λ us. part s c r ++ us) (lacks_parts s c has (suc r) k)

-- what a set has over counts is what it has beyond itself within them
pub over-beyond : (s : Histories) (c : Counts) → HasCounts s c → beyond s (within s c) ≡ over s c
unfolding updates
over-beyond s c has = lacks_parts s c has 0 8 ∙ sym (over-parts s c)

pub over-pushes : (s : Histories) (c : Counts) → HasCounts s c → IsWithinLimit s → PushesTo (within s c) (over s c) s
over-pushes s c has few =
    subst (λ us. PushesTo (within s c) us s) (over-beyond s c has)
    (beyond-pushes (within s c) s (within-subset s c has) few)
