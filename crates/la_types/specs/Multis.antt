-- A register of bytes that keeps what was written at the same time: a write has_seen what its maker
-- had seen, and what its own replica wrote before.
use Rattle.std.specs.Prelude.{set, ℕ, ◌==◌, nat_le, nat_lt, Bool, false, not, ◌&&◌, List, ◌++◌, length, drop}
use Rattle.std.specs.Prelude.{replicate, Option, Some, None, slice_index_or, if◌then◌else◌}
use Rattle.std.specs.List.{list_any, filter_map, last_or, range_with_len}
use Rattle.std.specs.Option.{option_and_then}
use Rattle.la_set.specs.declared.update.UpdateId.{UpdateId}
use Rattle.la_set.specs.declared.update.Op.{Op}
use Rattle.la_set.specs.declared.update.Update.{Update}
use Rattle.la_set.specs.declared.counts.Counts.{Counts}
use Rattle.la_set.specs.Counts.{count_in, zero_counts}
use Rattle.la_own.specs.Own.{own, own_bytes_of}
use Rattle.la_shelf.specs.Meanings.{Meaning}
use Rattle.la_types.specs.declared.multi.Entry.{Entry}
use Rattle.la_types.specs.declared.multi.MultiState.{MultiState}
use Rattle.la_types.specs.Seen.{has_seen, seen_by_either}
use Rattle.la_types.specs.Bytes.{counts_bytes, counts_in}

-- ## Operations

-- what its maker had seen, and then the value
abbrev pub multi_bytes : Counts → List ℕ → List ℕ
multi_bytes seen value = counts_bytes seen ++ value

-- the operation that writes a value by a view with these counts
abbrev pub multi_op : Counts → List ℕ → Op
multi_op seen value = own (multi_bytes seen value)

-- what was seen, and the value
abbrev pub Seeing : Type 0
Seeing = Counts × List ℕ

abbrev pub multi_read : List ℕ → Option Seeing
multi_read bytes = if nat_le 32 (length bytes) then Some (counts_in bytes, drop 32 bytes) else None

-- what an operation writes, where it is such a write
unfoldable pub multi_of : Op → Option Seeing
multi_of op = option_and_then multi_read (own_bytes_of op)

-- ## Value

abbrev pub entry_of : ℕ → Option Seeing → Option Entry
entry_of number None = None
entry_of number (Some seeing) = Some (record { number = number; value = seeing.1 })

-- what an update writes, where it is of the replica
abbrev pub entry_by : ℕ → Update → Option Entry
entry_by r u = if u.id.replica == r then entry_of u.id.number (multi_of u.op) else None

-- what a replica wrote last among updates in the order of their ids
abbrev pub last_by : List Update → ℕ → Option Entry
last_by us r = last_or None (filter_map (entry_by r) us)

-- the maker of a write had seen the update with this id
abbrev pub sees : UpdateId → Option Seeing → Bool
sees id None = false
sees id (Some seeing) = has_seen seeing.0 id

-- a write among updates had seen the update of a replica with a number
abbrev pub seen_by_some : List Update → ℕ → ℕ → Bool
seen_by_some us r number = list_any (λ v. sees (record { replica = r; number = number }) (multi_of v.op)) us

-- the value of what a replica wrote last, unless a write had seen it; numbers are 1 and more
abbrev pub unseen : List Update → ℕ → Option Entry → Option (List ℕ)
unseen us r None = None
unseen us r (Some entry) = if nat_lt 0 entry.number && not (seen_by_some us r entry.number) then Some entry.value else None

-- by replica, what each wrote last that no write had seen
abbrev pub multi_value : List Update → List (List ℕ)
multi_value us = filter_map (λ r. unseen us r (last_by us r)) (range_with_len 0 8)

-- ## State

abbrev pub multi_start : MultiState
multi_start = record { last = replicate 8 None; seen = zero_counts }

abbrev pub multi_step : MultiState → UpdateId → Option Seeing → MultiState
multi_step s id None = s
multi_step s id (Some seeing) = record {
  last = set s.last id.replica (Some (record { number = id.number; value = seeing.1 }));
  seen = seen_by_either s.seen seeing.0;
}

-- the value of an entry of a replica, unless it was seen
abbrev pub beyond_seen : Counts → ℕ → Option Entry → Option (List ℕ)
beyond_seen seen r None = None
beyond_seen seen r (Some entry) = if nat_lt (count_in seen r) entry.number then Some entry.value else None

abbrev pub multi_reply : MultiState → List (List ℕ)
multi_reply s = filter_map (λ r. beyond_seen s.seen r (slice_index_or s.last r None)) (range_with_len 0 8)

abbrev pub multi_meaning : Meaning (Unit {0}) MultiState (Unit {0}) (List (List ℕ))
multi_meaning = record {
  start = λ kind. multi_start;
  kind_of = λ s. tt;
  after = λ s u. multi_step s u.id (multi_of u.op);
  reply = λ s question. multi_reply s;
  value = λ kind us question. multi_value us;
  in_place = λ kind question. false;
}
