-- What a delta stands for over a set.
use Rattle.std.proofs.Common.{◌≡◌, ◌≢◌, ◌⊎◌, Option, None, IsSomeAnd, IfSome, MatchOption, ℕ, zero, suc, ◌+◌, ◌<◌, ◌≤◌, List, [], ◌∷◌, ◌++◌, length, take, min, Some, refl, ap, sym, ◌∙◌, subst, arith, inl, inr}
use Rattle.std.specs.List.{slice_get}
use Rattle.std.proofs.lemmas.List.{length-append, take-append-le, take-take}
use Rattle.std.proofs.lemmas.Bool.{cases_eq}
use Rattle.std.proofs.lemmas.Option.{none-some, same_Some}
use Rattle.la_set.specs.declared.counts.Counts.{Counts}
use Rattle.la_set.specs.declared.update.Update.{Update}
use Rattle.la_set.specs.ObjectOps.{object_op_of}
use Rattle.la_set.specs.Agreement.{Agree, AgreeBelow, IsFirstDifference}
use Rattle.la_set.specs.Histories.{Histories, history, count, numbered, push, IsNext, IsWithinLimit}
use Rattle.la_set.specs.Join.{IsCompatible}
use Rattle.la_set.specs.Counts.{count_in, from_counts, zero_counts, counts_of, HasCounts, within}
use Rattle.la_set.specs.Deltas.{DeltaState, delta_over, over, pushed, rebuilt, IsOver, AreNext, AgreesWithin}
use Rattle.la_set.proofs.Pushing.{pushed-PushesTo, next-PushesTo}
use Rattle.la_set.proofs.Overs.{over-pushes}
use Rattle.la_set.proofs.lemmas.SetHistories.{same_histories, history-with_same, history-with_other}
use Rattle.la_set.proofs.lemmas.NumberedLists.{length-numbered, take-numbered}
use Rattle.la_set.proofs.lemmas.Inclusions.{compatible-agree}
use Rattle.la_set.proofs.lemmas.Counting.{history-within, count-within, count_in-from_counts, count_in-counts_of}

module _ (x s : Histories) (base : Counts) (mine : HasCounts x base) (theirs : HasCounts s base) (few : IsWithinLimit s)
    (same : within x base ≡ within s base) where
  -- a set's delta stands for the set, over each that has the base and the same within it
  pub rebuilt-over : rebuilt x (delta_over s base) ≡ s
  rebuilt-over =
      ap (λ w. pushed w (over s base)) same
      ∙ pushed-PushesTo (over s base) (within s base) s (over-pushes s base theirs few)

  pub stands-over : IsOver x (delta_over s base)
  stands-over = record { base = mine; next = subst (λ w. AreNext w (over s base)) (sym same) (next-PushesTo (over s base) (within s base) s (over-pushes s base theirs few)) }

-- the same of a delta that is known to be one
pub rebuilt-agreeing : (x s : Histories) (base : Counts) (d : DeltaState) → delta_over s base ≡ d → HasCounts s base
    → IsWithinLimit s → IsOver x d → AgreesWithin x d → s ≡ rebuilt x d
rebuilt-agreeing x s base d e has few stands agrees =
    subst (λ t. IsOver x t → AgreesWithin x t → s ≡ rebuilt x t) e
    (λ over agree. sym (rebuilt-over x s base over.base has few (agree s refl))) stands agrees

-- lists that agree below a place to which both go have the same front
pub fronts : {X : Type 0} (n : ℕ) (xs ys : List X) → n ≤ length xs → n ≤ length ys → AgreeBelow xs ys n
    → take n xs ≡ take n ys
fronts zero xs ys a b same = refl
fronts (suc n) [] ys a b same = absurd (omega arith)
fronts (suc n) (x ∷ xs) [] a b same = absurd (omega arith)
fronts (suc n) (x ∷ xs) (y ∷ ys) a b same =
    ap (λ z. z ∷ take n xs) (same 0 x y (omega arith) refl refl)
    ∙ ap (λ zs. y ∷ zs) (fronts n xs ys (omega arith) (omega arith) (λ k d e lt. same (suc k) d e (omega arith)))

-- sets without a clash have the same within counts that both have
pub same-within : (x s : Histories) (base : Counts) → HasCounts x base → HasCounts s base → IsCompatible x s
    → within x base ≡ within s base
same-within x s base mine theirs one =
    same_histories _ _
    (λ r lt.
    history-within x base r
    ∙ fronts (count_in base r) (history x r) (history s r) (mine r) (theirs r)
    (λ k d e lt. compatible-agree x s one r k d e)
    ∙ sym (history-within s base r))

-- which updates come next, the counts alone decide
push_counts : (s t : Histories) (u : Update) → u.id.replica < 8 → ((r : ℕ) → count s r ≡ count t r) → (r : ℕ)
    → count (push s u) r ≡ count (push t u) r
push_counts s t u known same r =
    let q = u.id.replica in
    elim (cases_eq r q) [
      | inl e ↦
          ap length (history-with_same s q (history s q ++ object_op_of u ∷ []) r known e)
          ∙ length-append (history s q) (object_op_of u ∷ []) ∙ ap (λ n. n + 1) (same q)
          ∙ sym (length-append (history t q) (object_op_of u ∷ []))
          ∙ sym (ap length (history-with_same t q (history t q ++ object_op_of u ∷ []) r known e))
      | inr ne ↦
          ap length (history-with_other s q (history s q ++ object_op_of u ∷ []) r ne) ∙ same r
          ∙ sym (ap length (history-with_other t q (history t q ++ object_op_of u ∷ []) r ne))
    ]

next-like : (us : List Update) (s t : Histories) → ((r : ℕ) → count s r ≡ count t r) → AreNext s us → AreNext t us
next-like [] s t same all = tt
next-like (u ∷ us) s t same all = (
  record {
    known = all.0.known;
    next = all.0.next ∙ ap (λ n. n + 1) (same u.id.replica);
    within = all.0.within;
  },
  next-like us (push s u) (push t u) (push_counts s t u all.0.known same) all.1,
)

-- those that a set has over counts come next in each that has these
pub next-over : (x s : Histories) (base : Counts) (d : DeltaState) → delta_over s base ≡ d → HasCounts x d.base
    → HasCounts s base → IsWithinLimit s → AreNext (within x d.base) d.more
next-over x s base d e mine theirs few =
    subst (λ (t : DeltaState). HasCounts x t.base → AreNext (within x t.base) t.more) e
    (λ has.
    next-like (over s base) (within s base) (within x base)
    (λ r. count-within s base theirs r ∙ sym (count-within x base has r))
    (next-PushesTo (over s base) (within s base) s (over-pushes s base theirs few))) mine

-- ## What is known to be the same

-- an update that comes next leaves all before it
push-front : (s : Histories) (u : Update) → IsNext s u.id → (r n : ℕ) → n ≤ count s r
    → (n ≤ count (push s u) r) × (take n (history (push s u) r) ≡ take n (history s r))
push-front s u next r n le =
    let q = u.id.replica in let more = history s q ++ object_op_of u ∷ [] in
    elim (cases_eq r q) [
      | inl e ↦
          let is = history-with_same s q more r next.known e in
          let few : n ≤ length (history s q) = subst (λ p. n ≤ count s p) e le in (
            omega (arith, few, ap length is, length-append (history s q) (object_op_of u ∷ [])),
            ap (take n) is ∙ take-append-le n (history s q) (object_op_of u ∷ []) few
                ∙ ap (λ p. take n (history s p)) (sym e),
          )
      | inr ne ↦
          let is = history-with_other s q more r ne in
          (omega (arith, le, ap length is), ap (take n) is)
    ]

pushed-front : (us : List Update) (s : Histories) → AreNext s us → (r n : ℕ) → n ≤ count s r
    → take n (history (pushed s us) r) ≡ take n (history s r)
pushed-front [] s all r n le = refl
pushed-front (u ∷ us) s all r n le =
    let one = push-front s u all.0 r n le in
    pushed-front us (push s u) all.1 r n one.0 ∙ one.1

-- what is rebuilt over a set has within the base what the set has
pub rebuilt-within : (s : Histories) (d : DeltaState) → IsOver s d → within (rebuilt s d) d.base ≡ within s d.base
rebuilt-within s d stands = same_histories _ _ (λ r lt.
    let n = count_in d.base r in
    history-within (rebuilt s d) d.base r
    ∙ pushed-front d.more (within s d.base) stands.next r n (omega (arith, count-within s d.base stands.base r))
    ∙ ap (take n) (history-within s d.base r)
    ∙ take-take n n (history s r) (omega arith)
    ∙ sym (history-within s d.base r))

-- within no counts there is nothing
pub within-zero : (s t : Histories) → within s zero_counts ≡ within t zero_counts
within-zero s t = same_histories _ _ (λ r lt.
    let none = count_in-from_counts (λ q. 0) r lt in
    history-within s zero_counts r ∙ ap (λ n. take n (history s r)) none
    ∙ sym (ap (λ n. take n (history t r)) none) ∙ sym (history-within t zero_counts r))

reads-front : {X : Type 0} (n : ℕ) (xs : List X) (k : ℕ) → k < n → slice_get (take n xs) k ≡ slice_get xs k
reads-front zero xs k lt = absurd (omega arith)
reads-front (suc n) [] k lt = refl
reads-front (suc n) (x ∷ xs) zero lt = refl
reads-front (suc n) (x ∷ xs) (suc k) lt = reads-front n xs k (omega arith)

-- sets with the same within counts have the same fronts
pub within-fronts : (a b : Histories) (c : Counts) → within a c ≡ within b c → (r : ℕ)
    → take (count_in c r) (numbered r 1 (history a r)) ≡ take (count_in c r) (numbered r 1 (history b r))
within-fronts a b c same r =
    let n = count_in c r in
    take-numbered r 1 n (history a r)
    ∙ ap (numbered r 1) (sym (history-within a c r) ∙ ap (λ s. history s r) same ∙ history-within b c r)
    ∙ sym (take-numbered r 1 n (history b r))

-- and agree so far
pub within-agree : (a b : Histories) (c : Counts) → within a c ≡ within b c → (r : ℕ)
    → AgreeBelow (numbered r 1 (history a r)) (numbered r 1 (history b r)) (count_in c r)
within-agree a b c same r k x y lt in_a in_b =
    let n = count_in c r in
    same_Some x y
    (sym (reads-front n (numbered r 1 (history a r)) k lt ∙ in_a)
    ∙ ap (λ us. slice_get us k) (within-fronts a b c same r)
    ∙ reads-front n (numbered r 1 (history b r)) k lt ∙ in_b)

pub got_below : {X : Type 0} (xs : List X) (k : ℕ) (x : X) → slice_get xs k ≡ Some x → k < length xs
got_below [] k x e = absurd (none-some x e)
got_below (y ∷ xs) zero x e = omega arith
got_below (y ∷ xs) (suc k) x e = let below = got_below xs k x e in omega (arith, below)

-- and they agree throughout where one of them has no more
pub within-agree-all : (a b : Histories) (c : Counts) → within a c ≡ within b c → (r : ℕ)
    → (length (history a r) ≤ count_in c r) ⊎ (length (history b r) ≤ count_in c r)
    → Agree (numbered r 1 (history a r)) (numbered r 1 (history b r))
within-agree-all a b c same r fewer n k x y lt in_a in_b =
    let left = got_below (numbered r 1 (history a r)) k x in_a in
    let right = got_below (numbered r 1 (history b r)) k y in_b in
    within-agree a b c same r k x y (elim fewer [
      | inl le ↦ omega (arith, le, left, length-numbered r 1 (history a r))
      | inr le ↦ omega (arith, le, right, length-numbered r 1 (history b r))
    ]) in_a in_b

first_below : (xs ys : List Update) (place : ℕ) (o : Option Update) → slice_get xs place ≡ o
    → IsSomeAnd o (λ x. IsSomeAnd (slice_get ys place) (λ y. x ≢ y)) → place < length xs
first_below xs ys place None e differs = absurd differs
first_below xs ys place (Some x) e differs = got_below xs place x e

-- a place at which two lists differ is one of the first's
pub difference_below : (xs ys : List Update) (n : ℕ) → length xs ≤ n → (found : Option ℕ)
    → MatchOption found (Agree xs ys) (λ place. IsFirstDifference xs ys place) → IfSome found (λ place. place < n)
difference_below xs ys n le None it = tt
difference_below xs ys n le (Some place) it =
    let lt = first_below xs ys place (slice_get xs place) refl it.differs in omega (arith, le, lt)

-- the smaller counts of two, as `Counts::min` answers them
abbrev pub min_counts : Counts → Counts → Counts
min_counts c d = from_counts (λ r. min (count_in c r) (count_in d r))

-- of these counts so many as both sets have
abbrev pub common : Counts → Histories → Histories → Counts
common base s a = min_counts (min_counts base (counts_of s)) (counts_of a)

common-least : (base : Counts) (s a : Histories) (r : ℕ) → r < 8
    → count_in (common base s a) r ≡ min (min (count_in base r) (count s r)) (count a r)
common-least base s a r lt =
    count_in-from_counts (λ q. min (count_in (min_counts base (counts_of s)) q) (count_in (counts_of a) q)) r lt
    ∙ ap (λ n. min n (count_in (counts_of a) r))
    (count_in-from_counts (λ q. min (count_in base q) (count_in (counts_of s) q)) r lt
    ∙ ap (min (count_in base r)) (count_in-counts_of s r))
    ∙ ap (min (min (count_in base r) (count s r))) (count_in-counts_of a r)

-- what two sets have of a third is the same, so far as both have it
pub within-common : (s a b : Histories) (base : Counts) → IsCompatible s a → within s base ≡ within b base
    → within a (common base s a) ≡ within b (common base s a)
within-common s a b base one same = same_histories _ _ (λ r lt.
    let c = common base s a in let n = count_in c r in let m = count_in base r in
    let few = common-least base s a r lt in
    history-within a c r
    ∙ fronts n (history a r) (history s r) (omega (arith, few)) (omega (arith, few))
    (λ k d e lt in_a in_s. sym (compatible-agree s a one r k e d in_s in_a))
    ∙ sym (take-take n m (history s r) (omega (arith, few)))
    ∙ ap (take n) (sym (history-within s base r) ∙ ap (λ t. history t r) same ∙ history-within b base r)
    ∙ take-take n m (history b r) (omega (arith, few))
    ∙ sym (history-within b c r))
