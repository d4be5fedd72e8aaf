-- The map of counters is a lawful type.
use Rattle.std.proofs.Common.{◌≡◌, ◌≢◌, ℕ, zero, suc, ◌+◌, ◌<◌, ◌≤◌, nat_le, nat_lt, max, Bool, true, false, not, ◌&&◌}
use Rattle.std.proofs.Common.{◌||◌, cond, List, [], ◌∷◌, length, fold, Option, Some, None, refl, ap, sym, ◌∙◌}
use Rattle.std.proofs.Common.{inl, inr, arith}
use Rattle.std.specs.List.{list_any}
use Rattle.std.proofs.lemmas.Bool.{cases_lt, lt-ltb, le-ltb, lt-leb}
use Rattle.std.proofs.lemmas.List.Sums.{fold-append}
use Rattle.la_set.specs.declared.update.UpdateId.{UpdateId}
use Rattle.la_set.specs.declared.update.Update.{Update}
use Rattle.la_set.specs.declared.counts.Counts.{Counts}
use Rattle.la_set.specs.Counts.{count_in, zero_counts}
use Rattle.la_shelf.specs.Meanings.{IsLawful}
use Rattle.la_types.specs.declared.counter_map.CounterOp.{CounterOp}
use Rattle.la_types.specs.declared.counter_map.CounterOp.TheVariants.{Add, Reset}
use Rattle.la_types.specs.declared.counter_map.KeptCount.{KeptCount}
use Rattle.la_types.specs.Seen.{seen_by_either}
use Rattle.la_types.specs.SeenCounts.{count_in-from, either_swap}
use Rattle.la_types.specs.Highest.{highest, any_highest, same_any, no_more}
use Rattle.la_types.specs.CounterMaps.{KeptCounters, kept_at, fold_kept, counter_start, counter_step, counter_of}
use Rattle.la_types.specs.CounterMaps.{counter_by, amount_under, resets, unreset, unreset_sum, amount_beyond}
use Rattle.la_types.specs.CounterMaps.{with_amount, with_reset, with_seen, is_key, counter_meaning}

-- ## Steps of different replicas commute

kept_swap : (p q : ℕ) (x y : KeptCount) (s : KeptCounters) → p ≢ q
    → kept_at q y (kept_at p x s) ≡ kept_at p x (kept_at q y s)
kept_swap p q x y [] ne = refl
kept_swap zero zero x y (ks ∷ s) ne = absurd (ne refl)
kept_swap zero (suc q) x y (ks ∷ s) ne = refl
kept_swap (suc p) zero x y (ks ∷ s) ne = refl
kept_swap (suc p) (suc q) x y (ks ∷ s) ne = ap (λ t. ks ∷ t) (kept_swap p q x y s (λ e. ne (ap suc e)))

swap : (s : KeptCounters) (a b : UpdateId) (x y : Option CounterOp) → a.replica ≢ b.replica
    → counter_step (counter_step s a x) b y ≡ counter_step (counter_step s b y) a x
swap s a b None y ne = refl
swap s a b (Some x) None ne = refl
swap s a b (Some x) (Some y) ne =
    kept_swap a.replica b.replica (record { id = a; does = x }) (record { id = b; does = y }) s ne

-- ## What is kept, one after another, where their order does not matter

pub keeps_length : (r : ℕ) (k : KeptCount) (s : KeptCounters) → length (kept_at r k s) ≡ length s
keeps_length r k [] = refl
keeps_length zero k (ks ∷ s) = refl
keeps_length (suc r) k (ks ∷ s) = ap suc (keeps_length r k s)

pub none_past : (r : ℕ) (k : KeptCount) (s : KeptCounters) → length s ≤ r → kept_at r k s ≡ s
none_past r k [] past = refl
none_past zero k (ks ∷ s) past = absurd (omega arith)
none_past (suc r) k (ks ∷ s) past = ap (λ t. ks ∷ t) (none_past r k s (omega arith))

module _ {X : Type 0} (g : X → KeptCount → X) (any : (x : X) (a b : KeptCount) → g (g x a) b ≡ g (g x b) a) where
  past_one : (x : X) (k : KeptCount) (ks : List KeptCount) → fold g (g x k) ks ≡ g (fold g x ks) k
  past_one x k [] = refl
  past_one x k (j ∷ ks) = ap (λ y. fold g y ks) (any x k j) ∙ past_one (g x j) k ks

  past_all : (x : X) (k : KeptCount) (s : KeptCounters) → fold_kept g (g x k) s ≡ g (fold_kept g x s) k
  past_all x k [] = refl
  past_all x k (ks ∷ s) = ap (λ y. fold_kept g y s) (past_one x k ks) ∙ past_all (fold g x ks) k s

  pub one_more : (x : X) (r : ℕ) (k : KeptCount) (s : KeptCounters) → r < length s
      → fold_kept g x (kept_at r k s) ≡ g (fold_kept g x s) k
  one_more x r k [] lt = absurd (omega arith)
  one_more x zero k (ks ∷ s) lt =
      ap (λ y. fold_kept g y s) (fold-append g x ks (k ∷ [])) ∙ past_all (fold g x ks) k s
  one_more x (suc r) k (ks ∷ s) lt = one_more (fold g x ks) r k s (omega arith)

  -- one update more, where it is of a replica
  abbrev with_update : X → UpdateId → Option CounterOp → X
  with_update x id None = x
  with_update x id (Some does) = g x (record { id = id; does = does })

  after_one : (x : X) (id : UpdateId) (o : Option CounterOp) (s : KeptCounters) → length s ≡ 8
      → fold_kept g x (counter_step s id o)
      ≡ with_update (fold_kept g x s) id (cond (nat_lt id.replica 8) o None)
  after_one x id None s long = elim (cases_lt id.replica 8) [
    | inl lt ↦ rw (lt-ltb id.replica 8 lt) refl
    | inr past ↦ rw (le-ltb id.replica 8 past) refl
  ]
  after_one x id (Some does) s long = elim (cases_lt id.replica 8) [
    | inl lt ↦
        one_more x id.replica (record { id = id; does = does }) s (omega (arith, lt, long))
        ∙ ap (λ b. with_update (fold_kept g x s) id (cond b (Some does) None)) (sym (lt-ltb id.replica 8 lt))
    | inr past ↦
        ap (fold_kept g x) (none_past id.replica (record { id = id; does = does }) s (omega (arith, past, long)))
        ∙ ap (λ b. with_update (fold_kept g x s) id (cond b (Some does) None)) (sym (le-ltb id.replica 8 past))
  ]

  still_eight : (s : KeptCounters) (id : UpdateId) (o : Option CounterOp) → length s ≡ 8
      → length (counter_step s id o) ≡ 8
  still_eight s id None long = long
  still_eight s id (Some does) long = keeps_length id.replica (record { id = id; does = does }) s ∙ long

  after_all : (x : X) (s : KeptCounters) (us : List Update) → length s ≡ 8
      → fold_kept g x (fold (λ t u. counter_step t u.id (counter_of u.op)) s us)
      ≡ fold (λ y u. with_update y u.id (counter_by u)) (fold_kept g x s) us
  after_all x s [] long = refl
  after_all x s (u ∷ us) long =
      after_all x (counter_step s u.id (counter_of u.op)) us (still_eight s u.id (counter_of u.op) long)
      ∙ ap (λ y. fold (λ z v. with_update z v.id (counter_by v)) y us) (after_one x u.id (counter_of u.op) s long)

either_if : (a b : Bool) (s c d : Counts)
    → cond b (seen_by_either (cond a (seen_by_either s c) s) d) (cond a (seen_by_either s c) s)
    ≡ cond a (seen_by_either (cond b (seen_by_either s d) s) c) (cond b (seen_by_either s d) s)
either_if true true s c d = either_swap s c d
either_if true false s c d = refl
either_if false true s c d = refl
either_if false false s c d = refl

seen_any : (key : List ℕ) (s : Counts) (x y : CounterOp)
    → with_reset key (with_reset key s (Some x)) (Some y) ≡ with_reset key (with_reset key s (Some y)) (Some x)
seen_any key s (Add amount k) y = refl
seen_any key s (Reset seen k) (Add amount other) = refl
seen_any key s (Reset seen k) (Reset more other) = either_if (is_key k key) (is_key other key) s seen more

pub seen_swap : (key : List ℕ) (s : Counts) (a b : KeptCount)
    → with_seen key (with_seen key s a) b ≡ with_seen key (with_seen key s b) a
seen_swap key s a b = seen_any key s a.does b.does

sum_any : (s a b : ℕ) → s + a + b ≡ s + b + a
sum_any s a b = omega arith

pub amount_swap : (key : List ℕ) (counts : Counts) (s : ℕ) (a b : KeptCount)
    → with_amount key counts (with_amount key counts s a) b ≡ with_amount key counts (with_amount key counts s b) a
amount_swap key counts s a b =
    sum_any s (amount_beyond key counts a.id (Some a.does)) (amount_beyond key counts b.id (Some b.does))

-- ## What was seen

reset_number : List ℕ → ℕ → Option CounterOp → ℕ
reset_number key r (Some (Reset seen other)) = cond (is_key other key) (count_in seen r) 0
reset_number key r (Some (Add amount other)) = 0
reset_number key r None = 0

nothing_more : (b : Bool) (s : ℕ) → s ≡ s + cond b 0 0
nothing_more true s = omega arith
nothing_more false s = omega arith

module _ (key : List ℕ) where
  abbrev seen_in : Counts → List Update → Counts
  seen_in c us = fold (λ y u. with_update (with_seen key) (seen_swap key) y u.id (counter_by u)) c us

  seen_if : (b : Bool) (r : ℕ) → r < 8 → (s c : Counts)
      → count_in (cond b (seen_by_either s c) s) r ≡ max (count_in s r) (cond b (count_in c r) 0)
  seen_if true r lt s c = count_in-from (λ q. max (count_in s q) (count_in c q)) r lt
  seen_if false r lt s c = no_more (count_in s r)

  seen_after : (r : ℕ) → r < 8 → (s : Counts) (id : UpdateId) (o : Option CounterOp)
      → count_in (with_update (with_seen key) (seen_swap key) s id o) r ≡ max (count_in s r) (reset_number key r o)
  unfolding reset_number
  seen_after r lt s id None = no_more (count_in s r)
  seen_after r lt s id (Some (Add amount other)) = no_more (count_in s r)
  seen_after r lt s id (Some (Reset seen other)) = seen_if (is_key other key) r lt s seen

  seen_end : (r : ℕ) → r < 8 → (s : Counts) (us : List Update)
      → count_in (seen_in s us) r ≡ highest (λ u. reset_number key r (counter_by u)) (count_in s r) us
  unfolding highest
  seen_end r lt s [] = refl
  seen_end r lt s (u ∷ us) =
      seen_end r lt (with_update (with_seen key) (seen_swap key) s u.id (counter_by u)) us
      ∙ ap (λ n. highest (λ v. reset_number key r (counter_by v)) n us) (seen_after r lt s u.id (counter_by u))

  resets_if : (b : Bool) (n c : ℕ) → 0 < n → (b && nat_le n c) ≡ nat_le n (cond b c 0)
  resets_if true n c more = refl
  resets_if false n c more = sym (lt-leb n 0 more)

  resets_number : (id : UpdateId) (o : Option CounterOp) → 0 < id.number
      → resets key id o ≡ nat_le id.number (reset_number key id.replica o)
  unfolding reset_number
  resets_number id None more = sym (lt-leb id.number 0 more)
  resets_number id (Some (Add amount other)) more = sym (lt-leb id.number 0 more)
  resets_number id (Some (Reset seen other)) more =
      resets_if (is_key other key) id.number (count_in seen id.replica) more

  -- ## What was added

  added_after : (counts : Counts) (s : ℕ) (id : UpdateId) (o : Option CounterOp)
      → with_update (with_amount key counts) (amount_swap key counts) s id o ≡ s + amount_beyond key counts id o
  added_after counts s id None = nothing_more (nat_lt (count_in counts id.replica) id.number) s
  added_after counts s id (Some does) = refl

  added_end : (counts : Counts) (s : ℕ) (us : List Update)
      → fold (λ y u. with_update (with_amount key counts) (amount_swap key counts) y u.id (counter_by u)) s us
      ≡ fold (λ y u. y + amount_beyond key counts u.id (counter_by u)) s us
  added_end counts s [] = refl
  added_end counts s (u ∷ us) =
      added_end counts (with_update (with_amount key counts) (amount_swap key counts) s u.id (counter_by u)) us
      ∙ ap (λ n. fold (λ y v. y + amount_beyond key counts v.id (counter_by v)) n us)
      (added_after counts s u.id (counter_by u))

  -- ## The value

  module _ (us : List Update) where
    abbrev seen : Counts
    seen = seen_in zero_counts us

    abbrev reset_by : UpdateId → Bool
    reset_by id = list_any (λ v. resets key id (counter_by v)) us

    seen_is : (id : UpdateId) → id.replica < 8 → 0 < id.number
        → nat_le id.number (count_in seen id.replica) ≡ reset_by id
    seen_is id lt more =
        ap (nat_le id.number) (seen_end id.replica lt zero_counts us)
        ∙ any_highest (λ u. reset_number key id.replica (counter_by u)) id.number (count_in zero_counts id.replica) us
        ∙ ap (λ t. t || list_any (λ u. nat_le id.number (reset_number key id.replica (counter_by u))) us)
        (lt-leb id.number (count_in zero_counts id.replica) (omega (arith, more, count_in-from (λ q. 0) id.replica lt)))
        ∙ same_any _ _ us (λ u. sym (resets_number id (counter_by u) more))

    turned : (a b : ℕ) → nat_lt b a ≡ not (nat_le a b)
    turned a b = grind arith

    unseen_is : (id : UpdateId) → id.replica < 8
        → nat_lt (count_in seen id.replica) id.number ≡ (nat_lt 0 id.number && not (reset_by id))
    unseen_is id lt = elim (cases_lt 0 id.number) [
      | inl more ↦
          turned id.number (count_in seen id.replica)
          ∙ ap not (seen_is id lt more)
          ∙ ap (λ b. b && not (reset_by id)) (sym (lt-ltb 0 id.number more))
      | inr none ↦
          le-ltb (count_in seen id.replica) id.number (omega arith)
          ∙ ap (λ b. b && not (reset_by id)) (sym (le-ltb 0 id.number none))
    ]

    nothing_either : (a b : Bool) → ◌≡◌ {A = ℕ} (cond a 0 0) (cond b 0 0)
    nothing_either true true = refl
    nothing_either true false = refl
    nothing_either false true = refl
    nothing_either false false = refl

    same_one : (u : Update) → amount_beyond key seen u.id (counter_by u) ≡ unreset us key u
    same_one u = elim (cases_lt u.id.replica 8) [
      | inl lt ↦ ap (λ b. cond b (amount_under key (counter_by u)) 0) (unseen_is u.id lt)
      | inr past ↦
          let a = nat_lt (count_in seen u.id.replica) u.id.number in
          let b = nat_lt 0 u.id.number && not (reset_by u.id) in
          ap (λ t. cond a (amount_under key (cond t (counter_of u.op) None)) 0) (le-ltb u.id.replica 8 past)
          ∙ nothing_either a b
          ∙ ap (λ t. cond b (amount_under key (cond t (counter_of u.op) None)) 0) (sym (le-ltb u.id.replica 8 past))
    ]

    same_sum : (f g : Update → ℕ) (n : ℕ) (vs : List Update) → ((u : Update) → f u ≡ g u)
        → fold (λ m u. m + f u) n vs ≡ fold (λ m u. m + g u) n vs
    same_sum f g n [] same = refl
    same_sum f g n (v ∷ vs) same =
        same_sum f g (n + f v) vs same ∙ ap (λ m. fold (λ k u. k + g u) (n + m) vs) (same v)

    counter_means : counter_meaning.reply (fold counter_meaning.after counter_start us) key ≡ unreset_sum us key
    counter_means =
        let s = fold (λ t u. counter_step t u.id (counter_of u.op)) counter_start us in
        ap (λ c. fold_kept (with_amount key c) 0 s)
        (after_all (with_seen key) (seen_swap key) zero_counts counter_start us refl)
        ∙ after_all (with_amount key seen) (amount_swap key seen) 0 counter_start us refl
        ∙ added_end seen 0 us
        ∙ same_sum _ _ 0 us same_one

pub counter_lawful : IsLawful counter_meaning
counter_lawful = record {
  commutes = λ s u v ne. swap s u.id v.id (counter_of u.op) (counter_of v.op) ne;
  keeps = λ s u. refl;
  starts = λ kind. refl;
  means = λ kind us key order. counter_means key us;
}
