-- How far two sets agree, replica by replica.
use Rattle.std.proofs.Common.{◌≡◌, ◌≢◌, ◌≤◌, ℕ, ◌+◌, ◌<◌, List, Option, Some, None, IsSomeAnd, length, min, take, map, refl, sym, ap, ◌∙◌, arith, inl, inr}
use Rattle.std.specs.List.{slice_get}
use Rattle.std.proofs.lemmas.Option.{same_Some}
use Rattle.std.proofs.lemmas.Bool.{cases_lt}
use Rattle.la_set.specs.declared.counts.Counts.{Counts}
use Rattle.la_set.specs.declared.update.Update.{Update}
use Rattle.la_set.specs.ObjectOps.{object_op_of}
use Rattle.la_set.specs.Agreement.{Agree, AgreeBelow, IsFirstDifference}
use Rattle.la_set.specs.AgreeWithin.{AgreeWithin, NotBothNext, AgreeTo, IsAgreement}
use Rattle.la_set.specs.Counts.{count_in, counts_of, from_counts}
use Rattle.la_set.specs.Histories.{Histories, history, count, updates_of}
use Rattle.la_set.proofs.Rebuilding.{fronts, within-fronts, got_below}
use Rattle.la_set.proofs.lemmas.Counting.{history-within, count_in-past, count_in-from_counts, count_in-counts_of}
use Rattle.la_set.proofs.lemmas.NumberedLists.{length-numbered, take-numbered, object_ops-numbered}
use Rattle.la_set.proofs.lemmas.SetHistories.{same_histories, count_past}

-- lists that agree below a place, and have one update there, agree below the next
pub agree-next : (xs ys : List Update) (n : ℕ) (u : Update) → AgreeBelow xs ys n → slice_get xs n ≡ Some u
    → slice_get ys n ≡ Some u → AgreeBelow xs ys (n + 1)
agree-next xs ys n u below in_xs in_ys k x y lt in_x in_y = elim (cases_lt k n) [
  | inl before ↦ below k x y before in_x in_y
  | inr from ↦
      let here : k ≡ n = omega arith in
      same_Some x u (sym in_x ∙ ap (slice_get xs) here ∙ in_xs)
      ∙ sym (same_Some y u (sym in_y ∙ ap (slice_get ys) here ∙ in_ys))
]

module _ (s t : Histories) (r : ℕ) where
  lengths : (length (updates_of s r) ≡ count s r) × (length (updates_of t r) ≡ count t r)
  lengths = (length-numbered r 1 (history s r), length-numbered r 1 (history t r))

  -- where one of them has no more
  pub none_next : (n : ℕ) → min (count s r) (count t r) ≤ n → NotBothNext s t r n
  none_next n few u in_s in_t =
      let left = got_below (updates_of s r) n u in_s in let right = got_below (updates_of t r) n u in_t in
      omega (arith, few, left, right, lengths.0, lengths.1)

  -- so far as is known, where what comes next is not in both
  pub known_agree : (c : Counts) → AgreeWithin c s t → NotBothNext s t r (count_in c r)
      → AgreeTo s t r (count_in c r)
  known_agree c known most = record {
    first = known.first r;
    second = known.second r;
    same = within-fronts s t c known.same r;
    most = most;
  }

  -- as far as both go, where they agree throughout
  pub all_agree : (n : ℕ) → n ≡ min (count s r) (count t r) → Agree (updates_of s r) (updates_of t r) → AgreeTo s t r n
  all_agree n is agree = record {
    first = omega (arith, is);
    second = omega (arith, is);
    same =
        fronts n (updates_of s r) (updates_of t r) (omega (arith, is, lengths.0)) (omega (arith, is, lengths.1))
        (agree n);
    most = none_next n (omega (arith, is));
  }

  first_in : (place : ℕ) (o q : Option Update) → slice_get (updates_of s r) place ≡ o
      → slice_get (updates_of t r) place ≡ q → IsSomeAnd o (λ x. IsSomeAnd q (λ y. x ≢ y))
      → (place < length (updates_of s r)) × (place < length (updates_of t r)) × NotBothNext s t r place
  first_in place None q a b differs = absurd differs
  first_in place (Some x) None a b differs = absurd differs
  first_in place (Some x) (Some y) a b differs = (
    got_below (updates_of s r) place x a,
    got_below (updates_of t r) place y b,
    λ u in_s in_t. differs (same_Some x u (sym a ∙ in_s) ∙ sym (same_Some y u (sym b ∙ in_t))),
  )

  -- up to the first that differs
  pub first_agree : (place : ℕ) → IsFirstDifference (updates_of s r) (updates_of t r) place → AgreeTo s t r place
  first_agree place it =
      let at = first_in place _ _ refl refl it.differs in
      record {
        first = omega (arith, at.0, lengths.0);
        second = omega (arith, at.1, lengths.1);
        same = fronts place (updates_of s r) (updates_of t r) (omega (arith, at.0)) (omega (arith, at.1)) it.agree;
        most = at.2;
      }

  -- what is the same of all updates is so of their operations
  pub ops_agree : (n : ℕ) → take n (updates_of s r) ≡ take n (updates_of t r)
      → take n (history s r) ≡ take n (history t r)
  ops_agree n same =
      sym (object_ops-numbered r 1 (take n (history s r)))
      ∙ ap (map object_op_of)
      (sym (take-numbered r 1 n (history s r)) ∙ same ∙ take-numbered r 1 n (history t r))
      ∙ object_ops-numbered r 1 (take n (history t r))

-- how many updates of a replica two sets both have, as the smaller of their counts
pub both_have : (s t : Histories) (mine theirs both : Counts) → mine ≡ counts_of s → theirs ≡ counts_of t
    → both ≡ from_counts (λ q. min (count_in mine q) (count_in theirs q)) → (r : ℕ) → r < 8
    → count_in both r ≡ min (count s r) (count t r)
both_have s t mine theirs both mine_is theirs_is is r lt =
    ap (λ c. count_in c r) is
    ∙ count_in-from_counts (λ q. min (count_in mine q) (count_in theirs q)) r lt
    ∙ ap (λ c. min (count_in c r) (count_in theirs r)) mine_is
    ∙ ap (λ c. min (count_in (counts_of s) r) (count_in c r)) theirs_is
    ∙ ap (λ n. min n (count_in (counts_of t) r)) (count_in-counts_of s r)
    ∙ ap (min (count s r)) (count_in-counts_of t r)

-- all replicas together
pub agreement-from : (s t : Histories) (c : Counts) → ((r : ℕ) → r < 8 → AgreeTo s t r (count_in c r))
    → IsAgreement s t c
agreement-from s t c each = record {
  agree = record {
    first = λ r. elim (cases_lt r 8) [
      | inl lt ↦ (each r lt).first
      | inr le ↦ omega (arith, count_in-past c r le)
    ];
    second = λ r. elim (cases_lt r 8) [
      | inl lt ↦ (each r lt).second
      | inr le ↦ omega (arith, count_in-past c r le)
    ];
    same =
        same_histories _ _
        (λ r lt.
        history-within s c r ∙ ops_agree s t r (count_in c r) (each r lt).same ∙ sym (history-within t c r));
  };
  most = λ r. elim (cases_lt r 8) [
    | inl lt ↦ (each r lt).most
    | inr le ↦ none_next s t r (count_in c r) (omega (arith, count_past s r le))
  ];
}
