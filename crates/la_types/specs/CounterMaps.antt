-- A map from keys to counters: under each key the sum of what was added there that no reset of the
-- key had seen. So adds win over resets that were made at the same time.
use Rattle.std.specs.Prelude.{ℕ, zero, suc, ◌+◌, ◌^◌, ◌≤◌, ◌==◌, IsSomeAnd, nat_le, nat_lt, Bool, true, false, not}
use Rattle.std.specs.Prelude.{◌&&◌, List, [], ◌∷◌}
use Rattle.std.specs.Prelude.{◌++◌, length, drop, slice_index, fold, replicate, Option, Some, None, if◌then◌else◌}
use Rattle.std.specs.List.{list_any, sum_by}
use Rattle.std.specs.Option.{option_and_then}
use Rattle.std.specs.Int.{w32, to_le_bytes, from_le_bytes}
use Rattle.std.specs.Ordering.{nat_cmp, eq_by_cmp}
use Rattle.std.specs.Cmp.Lexicographic.{slice_cmp}
use Rattle.la_set.specs.declared.set.TheConstants.{REPLICAS}
use Rattle.la_set.specs.declared.update.UpdateId.{UpdateId}
use Rattle.la_set.specs.declared.update.Op.{Op}
use Rattle.la_set.specs.declared.update.Update.{Update}
use Rattle.la_set.specs.declared.counts.Counts.{Counts}
use Rattle.la_set.specs.Counts.{count_in, zero_counts}
use Rattle.la_own.specs.Own.{own, own_bytes_of}
use Rattle.la_shelf.specs.Meanings.{Meaning}
use Rattle.la_types.specs.declared.counter_map.CounterOp.{CounterOp}
use Rattle.la_types.specs.declared.counter_map.CounterOp.TheVariants.{Add, Reset}
use Rattle.la_types.specs.declared.counter_map.KeptCount.{KeptCount}
use Rattle.la_types.specs.Seen.{has_seen, seen_by_either}
use Rattle.la_types.specs.Bytes.{counts_bytes, counts_in}

-- ## Operations

-- one byte says what is done, then comes the amount or what the maker had seen, and then the key
abbrev pub counter_bytes : CounterOp → List ℕ
counter_bytes (Add amount key) = 1 ∷ (to_le_bytes w32 amount ++ key)
counter_bytes (Reset seen key) = 2 ∷ (counts_bytes seen ++ key)

-- the operation that does it
abbrev pub counter_op : CounterOp → Op
counter_op does = own (counter_bytes does)

abbrev pub counter_read : List ℕ → Option CounterOp
counter_read bytes =
    if nat_le 5 (length bytes) && (slice_index bytes 0 == 1)
    then Some (Add (from_le_bytes w32 (drop 1 bytes)) (drop 5 bytes))
    else (if nat_le 33 (length bytes) && (slice_index bytes 0 == 2)
    then Some (Reset (counts_in (drop 1 bytes)) (drop 33 bytes))
    else None)

-- what an operation does to a map of counters, where it is one of theirs
unfoldable pub counter_of : Op → Option CounterOp
counter_of op = option_and_then counter_read (own_bytes_of op)

-- what an update does, where it is of a replica
abbrev pub counter_by : Update → Option CounterOp
counter_by u = if nat_lt u.id.replica REPLICAS then counter_of u.op else None

-- ## Value

abbrev pub is_key : List ℕ → List ℕ → Bool
is_key = eq_by_cmp (slice_cmp nat_cmp)

-- how much is added to a key
abbrev pub amount_under : List ℕ → Option CounterOp → ℕ
amount_under key (Some (Add amount other)) = if is_key other key then amount else 0
amount_under key _ = 0

-- a reset of the key had seen the update with this id
abbrev pub resets : List ℕ → UpdateId → Option CounterOp → Bool
resets key id (Some (Reset seen other)) = is_key other key && has_seen seen id
resets key id _ = false

-- how much an update adds to a key, unless a reset of the key among updates had seen it
abbrev pub unreset : List Update → List ℕ → Update → ℕ
unreset us key u =
    if nat_lt 0 u.id.number && not (list_any (λ v. resets key u.id (counter_by v)) us)
    then amount_under key (counter_by u)
    else 0

-- the sum of what updates add to a key that no reset of the key among them had seen
abbrev pub unreset_sum : List Update → List ℕ → ℕ
unreset_sum us key = sum_by (unreset us key) us

-- ## State

-- of each replica what it did, in its order
abbrev pub KeptCounters : Type 0
KeptCounters = List (List KeptCount)

abbrev pub counter_start : KeptCounters
counter_start = replicate 8 []

-- one more behind those of a replica
abbrev pub kept_at : ℕ → KeptCount → KeptCounters → KeptCounters
kept_at r k [] = []
kept_at zero k (ks ∷ rest) = (ks ++ k ∷ []) ∷ rest
kept_at (suc r) k (ks ∷ rest) = ks ∷ kept_at r k rest

abbrev pub counter_step : KeptCounters → UpdateId → Option CounterOp → KeptCounters
counter_step s id None = s
counter_step s id (Some does) = kept_at id.replica (record { id = id; does = does }) s

-- those of all replicas, by the replica of each
abbrev pub with_kept : KeptCounters → KeptCount → KeptCounters
with_kept s k = kept_at k.id.replica k s

abbrev pub kept_by_replica : List KeptCount → KeptCounters
kept_by_replica ks = fold with_kept counter_start ks

-- how much is added to a key, where the update with this id is beyond the counts
abbrev pub amount_beyond : List ℕ → Counts → UpdateId → Option CounterOp → ℕ
amount_beyond key counts id does = if nat_lt (count_in counts id.replica) id.number then amount_under key does else 0

-- a sum, and what one more adds to a key beyond the counts
abbrev pub with_amount : List ℕ → Counts → ℕ → KeptCount → ℕ
with_amount key counts sum k = sum + amount_beyond key counts k.id (Some k.does)

-- what resets of a key had seen, and one more
abbrev pub with_reset : List ℕ → Counts → Option CounterOp → Counts
with_reset key seen (Some (Reset more other)) = if is_key other key then seen_by_either seen more else seen
with_reset key seen _ = seen

abbrev pub with_seen : List ℕ → Counts → KeptCount → Counts
with_seen key seen k = with_reset key seen (Some k.does)

-- one of all after another
abbrev pub fold_kept : {X : Type 0} → (X → KeptCount → X) → X → KeptCounters → X
fold_kept step x s = fold (λ y ks. fold step y ks) x s

-- of each replica how many of its updates some reset of the key had seen
abbrev pub key_seen : KeptCounters → List ℕ → Counts
key_seen s key = fold_kept (with_seen key) zero_counts s

-- how much was added to the key by updates beyond the counts
abbrev pub key_beyond : KeptCounters → List ℕ → Counts → ℕ
key_beyond s key counts = fold_kept (with_amount key counts) 0 s

-- the sum of the amounts, of whatever key
abbrev pub amount_of : CounterOp → ℕ
amount_of (Add amount key) = amount
amount_of _ = 0

abbrev pub total_kept : List KeptCount → ℕ
total_kept ks = sum_by (λ (k : KeptCount). amount_of k.does) ks

-- the same of what is kept by replica
abbrev pub plus_amount : ℕ → KeptCount → ℕ
plus_amount sum k = sum + amount_of k.does

abbrev pub all_amounts : KeptCounters → ℕ
all_amounts s = fold_kept plus_amount 0 s

-- a map takes an update no more: all amounts would be above what a u64 holds
abbrev pub counter_full : KeptCounters → Update → Type 0
counter_full s u = IsSomeAnd (counter_of u.op) (λ does. 2 ^ 64 ≤ all_amounts s + amount_of does)

abbrev pub counter_meaning : Meaning (Unit {0}) KeptCounters (List ℕ) ℕ
counter_meaning = record {
  start = λ kind. counter_start;
  kind_of = λ s. tt;
  after = λ s u. counter_step s u.id (counter_of u.op);
  reply = λ s key. key_beyond s key (key_seen s key);
  value = λ kind us key. unreset_sum us key;
  in_place = λ kind key. true;
}
