-- A flag's state says whether some enabling was not seen by any disabling.
use Rattle.std.proofs.Common.{◌≡◌, ℕ, ◌<◌, ◌==◌, nat_lt, max, true, false, not, ◌&&◌, cond, List, [], ◌∷◌, get_or}
use Rattle.std.proofs.Common.{All, fold, Option, Some, None, refl, ap, sym, ◌∙◌, subst, inl, inr, arith}
use Rattle.std.specs.Bool.{Decides}
use Rattle.std.specs.List.{Any, list_any, range_with_len}
use Rattle.std.proofs.lemmas.Bool.{cases_eq, false≢true, eq-eqb, ne_eqb, lt-ltb, ltb-true, lt-leb, leb-false}
use Rattle.std.proofs.lemmas.Bool.{and_parts, and_from, not-true, not_from_false}
use Rattle.std.proofs.lemmas.Bool.Decides.{same_from_decides}
use Rattle.std.proofs.lemmas.List.Folds.{Any-from_list_any, list_any-from_Any, list_any_none}
use Rattle.std.proofs.lemmas.List.FromFn.{get_or-range_with_len}
use Rattle.la_set.specs.declared.update.UpdateId.{UpdateId}
use Rattle.la_set.specs.declared.update.Update.{Update}
use Rattle.la_set.specs.declared.counts.Counts.{Counts}
use Rattle.la_set.specs.Counts.{count_in}
use Rattle.la_types.specs.declared.flag.FlagOp.{FlagOp}
use Rattle.la_types.specs.declared.flag.FlagOp.TheVariants.{Enable, Disable}
use Rattle.la_types.specs.declared.flag.FlagState.{FlagState}
use Rattle.la_types.specs.Seen.{up_to, is_update_id, seen_by_either}
use Rattle.la_types.specs.Flags.{flag_of, flag_start, flag_step, is_ahead, is_flag_on, is_enabling, enables, disables}
use Rattle.la_types.specs.SeenCounts.{count_in-from, either_swap}
use Rattle.la_types.specs.Highest.{highest, highest-above, highest-reached, none_any, no_more}

pub step_swap : (s : FlagState) (a b : UpdateId) (x y : Option FlagOp)
    → flag_step (flag_step s a x) b y ≡ flag_step (flag_step s b y) a x
step_swap s a b None y = refl
step_swap s a b (Some x) None = refl
step_swap s a b (Some Enable) (Some Enable) =
    λ i. record { enabled = either_swap s.enabled (up_to a) (up_to b) i; seen = s.seen }
step_swap s a b (Some Enable) (Some (Disable d)) = refl
step_swap s a b (Some (Disable c)) (Some Enable) = refl
step_swap s a b (Some (Disable c)) (Some (Disable d)) =
    λ i. record { enabled = s.enabled; seen = either_swap s.seen c d i }

-- ## The numbers of one replica

on_number : ℕ → UpdateId → Option FlagOp → ℕ
on_number r id (Some Enable) = cond (r == id.replica) id.number 0
on_number r id (Some (Disable seen)) = 0
on_number r id None = 0

seen_number : ℕ → Option FlagOp → ℕ
seen_number r (Some (Disable seen)) = count_in seen r
seen_number r (Some Enable) = 0
seen_number r None = 0

either_at : (one other : Counts) (r : ℕ) → r < 8
    → count_in (seen_by_either one other) r ≡ max (count_in one r) (count_in other r)
either_at one other r lt = count_in-from (λ q. max (count_in one q) (count_in other q)) r lt

enabled_at : (r : ℕ) → r < 8 → (s : FlagState) (id : UpdateId) (does : Option FlagOp)
    → count_in (flag_step s id does).enabled r ≡ max (count_in s.enabled r) (on_number r id does)
unfolding on_number
enabled_at r lt s id (Some Enable) =
    either_at s.enabled (up_to id) r lt
    ∙ ap (max (count_in s.enabled r)) (count_in-from (λ q. cond (q == id.replica) id.number 0) r lt)
enabled_at r lt s id (Some (Disable seen)) = no_more (count_in s.enabled r)
enabled_at r lt s id None = no_more (count_in s.enabled r)

seen_at : (r : ℕ) → r < 8 → (s : FlagState) (id : UpdateId) (does : Option FlagOp)
    → count_in (flag_step s id does).seen r ≡ max (count_in s.seen r) (seen_number r does)
unfolding seen_number
seen_at r lt s id (Some (Disable seen)) = either_at s.seen seen r lt
seen_at r lt s id (Some Enable) = no_more (count_in s.seen r)
seen_at r lt s id None = no_more (count_in s.seen r)

module _ (r : ℕ) (lt : r < 8) where
  abbrev on : Update → ℕ
  on u = on_number r u.id (flag_of u.op)

  abbrev off : Update → ℕ
  off u = seen_number r (flag_of u.op)

  enabled_end : (s : FlagState) (us : List Update)
      → count_in (fold (λ t u. flag_step t u.id (flag_of u.op)) s us).enabled r ≡ highest on (count_in s.enabled r) us
  unfolding highest
  enabled_end s [] = refl
  enabled_end s (u ∷ us) =
      enabled_end (flag_step s u.id (flag_of u.op)) us
      ∙ ap (λ n. highest on n us) (enabled_at r lt s u.id (flag_of u.op))

  seen_end : (s : FlagState) (us : List Update)
      → count_in (fold (λ t u. flag_step t u.id (flag_of u.op)) s us).seen r ≡ highest off (count_in s.seen r) us
  unfolding highest
  seen_end s [] = refl
  seen_end s (u ∷ us) =
      seen_end (flag_step s u.id (flag_of u.op)) us
      ∙ ap (λ n. highest off n us) (seen_at r lt s u.id (flag_of u.op))

-- ## One update

-- what a number of a replica's enablings says of the update
record IsFrom (r n : ℕ) (id : UpdateId) (does : Option FlagOp) : Type 0 where
  pub enabling : (is_update_id id && enables does) ≡ true
  pub replica : id.replica ≡ r
  pub number : id.number ≡ n

enabling_from : (r n : ℕ) (id : UpdateId) (does : Option FlagOp) → r < 8 → 0 < n → on_number r id does ≡ n
    → IsFrom r n id does
unfolding on_number
enabling_from r n id (Some Enable) lt more is = elim (cases_eq r id.replica) [
  | inl e ↦
      let number : id.number ≡ n = ap (λ b. cond b id.number 0) (sym (eq-eqb r id.replica e)) ∙ is in
      record {
        enabling = and_from _ _ (and_from _ _ (lt-ltb id.replica 8 (omega (arith, e))) (lt-ltb 0 id.number (omega
            (arith, number)))) refl;
        replica = sym e;
        number = number;
      }
  | inr ne ↦ absurd (omega (arith, ap (λ b. cond b id.number 0) (sym (ne_eqb r id.replica ne)) ∙ is))
]
enabling_from r n id (Some (Disable seen)) lt more is = absurd (omega arith)
enabling_from r n id None lt more is = absurd (omega arith)

on_of_enabling : (id : UpdateId) (does : Option FlagOp) → enables does ≡ true → on_number id.replica id does ≡ id.number
unfolding on_number
on_of_enabling id (Some Enable) is = ap (λ b. cond b id.number 0) (eq-eqb id.replica id.replica refl)
on_of_enabling id (Some (Disable seen)) is = absurd (false≢true is)
on_of_enabling id None is = absurd (false≢true is)

not_disabling : (id : UpdateId) (does : Option FlagOp) → seen_number id.replica does < id.number
    → disables does id ≡ false
unfolding seen_number
not_disabling id (Some (Disable seen)) lt = lt-leb id.number (count_in seen id.replica) lt
not_disabling id (Some Enable) lt = refl
not_disabling id None lt = refl

below_undisabled : (id : UpdateId) (does : Option FlagOp) → 0 < id.number → disables does id ≡ false
    → seen_number id.replica does < id.number
unfolding seen_number
below_undisabled id (Some (Disable seen)) more not = leb-false id.number (count_in seen id.replica) not
below_undisabled id (Some Enable) more not = more
below_undisabled id None more not = more

-- ## All of them

abbrev IsAhead : FlagState → Type 0
IsAhead s = (r : ℕ) × (r < 8) × (count_in s.seen r < count_in s.enabled r)

ahead-Decides : (s : FlagState) → Decides (is_ahead s) (IsAhead s)
ahead-Decides s = (there, back)
  where
    there : is_ahead s ≡ true → IsAhead s
    there t =
        let any = Any-from_list_any (λ q. nat_lt (count_in s.seen q) (count_in s.enabled q)) (range_with_len 0 8) t in
        (any.1, omega (arith, any.2, any.3, get_or-range_with_len 0 8 any.0 any.1 any.2), ltb-true _ _ any.4)

    back : IsAhead s → is_ahead s ≡ true
    back (r, lt, ahead) =
        list_any-from_Any (λ q. nat_lt (count_in s.seen q) (count_in s.enabled q)) (range_with_len 0 8)
        (r, r, lt, omega (arith, get_or-range_with_len 0 8 r r lt), lt-ltb _ _ ahead)

module _ (us : List Update) where
  abbrev end : FlagState
  end = fold (λ t u. flag_step t u.id (flag_of u.op)) flag_start us

  enabled_by : (r : ℕ) (lt : r < 8) → count_in end.seen r < count_in end.enabled r
      → Any (λ u. on r lt u ≡ count_in end.enabled r) us
  enabled_by r lt ahead = elim (highest-reached (on r lt) (count_in flag_start.enabled r) us) [
    | inl e ↦ absurd (omega (arith, ahead, e, enabled_end r lt flag_start us, count_in-from (λ q. 0) r lt))
    | inr any ↦ subst (λ n. Any (λ u. on r lt u ≡ n) us) (sym (enabled_end r lt flag_start us)) any
  ]

  -- no disabling had seen what is ahead
  unseen : (r : ℕ) (lt : r < 8) (id : UpdateId) → id.replica ≡ r → count_in end.seen r < id.number
      → All (λ v. disables (flag_of v.op) id ≡ false) us
  unseen r lt id replica ahead k d within =
      let v = get_or us k d in
      not_disabling id (flag_of v.op)
      (omega (
        arith,
        ahead,
        ap (λ q. seen_number q (flag_of v.op)) replica,
        highest-above (off r lt)
            (count_in flag_start.seen r) us k d within,
        seen_end r lt flag_start us,
      ))

  is_on-ahead : IsAhead end → is_flag_on us ≡ true
  is_on-ahead (r, lt, ahead) = by (enabled_by r lt ahead)
    where
      by : Any (λ u. on r lt u ≡ count_in end.enabled r) us → is_flag_on us ≡ true
      by (k, u, within, at, is) =
          let from = enabling_from r (count_in end.enabled r) u.id (flag_of u.op) lt (omega arith) is in
          let none = list_any_none (λ v. disables (flag_of v.op) u.id) us (unseen r lt u.id from.replica (omega
          (arith, ahead, from.number))) in
          list_any-from_Any (λ u. is_enabling u && not (list_any (λ v. disables (flag_of v.op) u.id) us)) us
          (k, u, within, at, and_from _ _ from.enabling (not_from_false _ none))

  -- what no disabling had seen is ahead
  seen_below : (id : UpdateId) (lt : id.replica < 8) → 0 < id.number → All (λ v. disables (flag_of v.op) id ≡ false) us
      → count_in end.seen id.replica < id.number
  seen_below id lt more none = elim (highest-reached (off id.replica lt) (count_in flag_start.seen id.replica) us) [
    | inl e ↦ omega (arith, more, e, seen_end id.replica lt flag_start us, count_in-from (λ q. 0) id.replica lt)
    | inr any ↦
        let v = any.1 in
        let not = subst (λ (w : Update). disables (flag_of w.op) id ≡ false) any.3 (none any.0 v any.2) in
        omega (arith, below_undisabled id (flag_of v.op) more not, any.4, seen_end id.replica lt flag_start us)
  ]

  ahead-is_on : is_flag_on us ≡ true → IsAhead end
  ahead-is_on t =
      by (Any-from_list_any (λ u. is_enabling u && not (list_any (λ v. disables (flag_of v.op) u.id) us)) us t)
    where
      by : Any (λ u. (is_enabling u && not (list_any (λ v. disables (flag_of v.op) u.id) us)) ≡ true) us → IsAhead end
      by (k, u, within, at, test) =
          let parts = and_parts (is_enabling u) _ test in
          let enabling = and_parts (is_update_id u.id) (enables (flag_of u.op)) parts.0 in
          let bounds = and_parts (nat_lt u.id.replica 8) (nat_lt 0 u.id.number) enabling.0 in
          let lt : u.id.replica < 8 = ltb-true _ _ bounds.0 in
          let more : 0 < u.id.number = ltb-true _ _ bounds.1 in
          let none = none_any (λ v. disables (flag_of v.op) u.id) us (not-true _ parts.1) in
          let below = highest-above (on u.id.replica lt) (count_in flag_start.enabled u.id.replica) us k u within in (
            u.id.replica,
            lt,
            omega (
              arith,
              seen_below u.id lt more none,
              below,
              ap
                  (on u.id.replica lt) at,
              on_of_enabling u.id
                  (flag_of u.op) enabling.1,
              enabled_end u.id.replica lt flag_start us,
            ),
          )

  pub flag_means : is_ahead end ≡ is_flag_on us
  flag_means = same_from_decides _ _ (ahead-Decides end) (ahead-is_on, is_on-ahead)
