-- What a proposer has heard of an acceptor: the set that its last reply which counted says it has.
use Rattle.std.specs.Prelude.{ℕ, ◌==◌, ◌&&◌, [], ◌∷◌, Option, Some, None, unwrap_or, if◌then◌else◌}
use Rattle.la_set.specs.Histories.{Histories, empty}
use Rattle.la_replica.specs.Whole.{Message, Body, Offer, Yes, No, Tell}
use Rattle.la_world.specs.Trace.{Trace}
use Rattle.la_world.specs.Ballots.{round}
use Rattle.la_world.specs.Playing.{counts_reply}

-- the set that a reply to a ballot says its acceptor has, where the ballot has this set: an
-- acknowledgement says that it has the ballot's
abbrev pub body_tells : (ballot : Histories) → Body → Option Histories
body_tells s Yes = Some s
body_tells s (No refused) = Some refused
body_tells s (Offer offered) = None
body_tells s (Tell told) = None

-- the same of a message that is delivered after t, if it is from a to r in i, and counts
abbrev pub heard_from : Trace → (i r a : ℕ) → Option Message → Option Histories
heard_from t i r a None = None
heard_from t i r a (Some m) =
    if (m.instance == i) && ((m.to == r) && ((m.from == a) && counts_reply t m))
    then body_tells (round t i r).updates m.body else None

-- what a has last reported to r in i; nothing, where no reply of its has counted
unfoldable pub reported_set : Trace → (i r a : ℕ) → Histories
reported_set [] i r a = empty
reported_set (x ∷ t) i r a = unwrap_or (heard_from t i r a x.delivered) (reported_set t i r a)
