-- Which peers a log of a run counts: those whose note it took, and whose final view it contains.
use Rattle.std.specs.Prelude.{◌≡◌, ℕ, ◌==◌, Bool, false, not, ◌&&◌, List, length, slice_get, slice_index_or, Option, Some, None}
use Rattle.la_proposer.specs.Majority.{how_many}
use Rattle.la_set.specs.Histories.{Histories}
use Rattle.la_set.specs.Inclusion.{is_subset}
use Rattle.la_runner.specs.declared.log.Log.{Log}
use Rattle.la_runner.specs.Members.{member_view}

-- what of a log counts: which replica it is, of which replicas, by number, it took a note, and its
-- final view
pub record Taker : Type 0 where
  pub replica : ℕ
  pub taken : List Bool
  pub view : Histories

abbrev pub taker : ℕ → List Bool → Histories → Taker
taker r taken v = record { replica = r; taken = taken; view = v }

-- of a log as the code has it
abbrev pub log_taker : {B : Type 0} → Log B → Taker
log_taker l = taker l.replica l.taken (member_view l.member)

-- the first took a note of the second, and its view contains the other's
abbrev pub has_met : Taker → Taker → Bool
has_met x y = slice_index_or x.taken y.replica false && is_subset y.view x.view

abbrev pub have_met : Option Taker → Option Taker → Bool
have_met None y = false
have_met (Some x) None = false
have_met (Some x) (Some y) = has_met x y

-- the log at the one place counts that at the other one: it is another one, and it has met it
abbrev pub counts_peer : List Taker → (at peer : ℕ) → Bool
counts_peer logs at peer = not (peer == at) && have_met (slice_get logs at) (slice_get logs peer)

-- each log's notes are exactly as many as the peers that it counts
abbrev pub NotesCount : (notes : List ℕ) → List Taker → Type 0
NotesCount notes logs =
    (at n : ℕ) → slice_get notes at ≡ Some n → n ≡ how_many (length logs) (counts_peer logs at)
