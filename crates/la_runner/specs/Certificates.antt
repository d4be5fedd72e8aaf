-- Certificates: a majority of acceptors acknowledged a set.
use Rattle.std.specs.Prelude.{◌≡◌, ℕ, Bool, true, IsTrue, List, [], Option, Some, None}
use Rattle.std.specs.List.{slice_get}
use Rattle.la_set.specs.Histories.{Histories}
use Rattle.la_proposer.specs.Majority.{is_majority}
use Rattle.la_shared.specs.declared.entry.Entry.{Entry}
use Rattle.la_shared.specs.History.{HasYes}
use Rattle.la_shared.specs.Passes.{Known}

-- what the pass at the acceptor with this number has seen, and its own entries there
abbrev pub seen_of : Option Known → List Entry
seen_of None = []
seen_of (Some k) = k.seen

abbrev pub mine_of : Option Known → List Entry
mine_of None = []
mine_of (Some k) = k.mine

unfoldable pub passes_seen_at : List Known → ℕ → List Entry
passes_seen_at passes a = seen_of (slice_get passes a)

unfoldable pub mine_at : List Known → ℕ → List Entry
mine_at passes a = mine_of (slice_get passes a)

-- a fact holds of a majority of acceptors
abbrev pub OfMajority : (votes : List ℕ) → (ℕ → Type 0) → Type 0
OfMajority votes P =
    (q : ℕ → Bool) × IsTrue (is_majority votes q) × ((a : ℕ) → q a ≡ true → P a)

-- in the passes of one instance a majority of acceptors acknowledged the set
abbrev pub HasCertificate : (votes : List ℕ) → List Known → Histories → Type 0
HasCertificate votes passes s = OfMajority votes (λ a. HasYes (passes_seen_at passes a) s)

-- to these passes' own offers
abbrev pub HasOwnCertificate : (votes : List ℕ) → List Known → Histories → Type 0
HasOwnCertificate votes passes s = OfMajority votes (λ a. HasYes (mine_at passes a) s)
