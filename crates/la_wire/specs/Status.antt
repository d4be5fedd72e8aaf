-- How a node stands, as one note: what it has, what is known of the others of its group, and what its process counted.
use Rattle.std.specs.Prelude.{ℕ, ◌==◌, Bool, List, [], ◌∷◌, ◌++◌, codes, if◌then◌else◌}
use Rattle.std.specs.List.{flat_map, range_with_len}
use Rattle.std.specs.Fmt.{decimal}
use Rattle.la_node.specs.declared.link.Links.{Links}
use Rattle.la_node.specs.Links.{known_of, unheard_of}
use Rattle.la_wire.specs.declared.status.Kinds.{Kinds}
use Rattle.la_wire.specs.declared.status.Tally.{Tally}
use Rattle.la_wire.specs.declared.status.NodeStatus.{NodeStatus}
use Rattle.la_wire.specs.MessageLines.{progress_words}
use Rattle.la_wire.specs.Questions.{status_word}
use Rattle.la_wire.specs.Notes.{answering_note}

-- no message
abbrev pub no_kinds : Kinds
no_kinds = record { offers = 0; yes = 0; no = 0; tells = 0; known = 0 }

-- nothing was counted
abbrev pub no_tally : Tally
no_tally = record { received = no_kinds; sent = no_kinds; refused = 0; written = 0; syncs = 0 }

-- a word, and a number
abbrev pub counted_words : (label : List ℕ) → ℕ → List (List ℕ)
counted_words label n = label ∷ decimal n ∷ []

-- how many messages of each kind
unfoldable pub kinds_words : Kinds → List (List ℕ)
kinds_words k =
    counted_words (codes "offer") k.offers ++ counted_words (codes "yes") k.yes ++ counted_words (codes "no") k.no
    ++ counted_words (codes "tell") k.tells ++ counted_words (codes "known") k.known

-- messages that came, or that went
abbrev pub traffic_words : (label : List ℕ) → Kinds → List (List ℕ)
traffic_words label k = label ∷ kinds_words k

-- what came, what went, what was refused, and what was written into the journal
unfoldable pub counts_words : Tally → List (List ℕ)
counts_words t =
    traffic_words (codes "in") t.received ++ traffic_words (codes "out") t.sent
    ++ counted_words (codes "refused") t.refused ++ counted_words (codes "written") t.written
    ++ counted_words (codes "syncs") t.syncs

-- how far another replica is, as far as is known, and how many updates were sent to it that it did not say to have
abbrev pub peer_words : Links → (own peer : ℕ) → List (List ℕ)
peer_words known own p =
    if p == own then []
    else
    codes "peer" ∷ decimal p ∷ progress_words (known_of known p)
    ++ counted_words (codes "unheard") (unheard_of known p)

-- of so many replicas, from this one on
unfoldable pub peers_from : Links → (own first many : ℕ) → List (List ℕ)
peers_from known own first many = flat_map (peer_words known own) (range_with_len first many)

-- whether a ballot is open
abbrev pub open_word : Bool → List ℕ
open_word is_open = if is_open then codes "open" else codes "shut"

-- what the node itself has
unfoldable pub own_words : NodeStatus → List (List ℕ)
own_words s =
    progress_words s.progress ++ counted_words (codes "submitted") s.submitted
    ++ counted_words (codes "waiting") s.waiting ++ counted_words (codes "ballot") s.ballot ++ open_word s.asking ∷ []

-- how a node of this version stands, in answer to a request of this name
abbrev pub status_note : NodeStatus → (version name : List ℕ) → List ℕ
status_note s version name =
    answering_note s.own name
    (status_word ∷ codes "version" ∷ version ∷ own_words s ++ peers_from s.known s.own 0 s.replicas
    ++ counts_words s.tally)
