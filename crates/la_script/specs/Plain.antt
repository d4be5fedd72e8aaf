-- Lines of few words: all that they say is their number, one of four forms, and where an offer is
-- acknowledged the reply's number.
use Rattle.std.specs.Prelude.{ℕ, ◌^◌, ◌==◌, ◌&&◌, nat_lt, List, ◌++◌, codes, Option, Some, None, if◌then◌else◌}
use Rattle.std.specs.Fmt.{decimal}
use Rattle.la_acceptor.specs.declared.reply.Reply.TheVariants as reply
use Rattle.la_world.specs.declared.step.Did.{Did}
use Rattle.la_world.specs.declared.step.Did.TheVariants as did
use Rattle.la_world.specs.declared.report.Line.{Line}
use Rattle.la_world.specs.declared.report.Line.TheVariants.{Done, Refused}
use Rattle.la_script.specs.declared.marks.Plain.{Plain}
use Rattle.la_script.specs.declared.marks.Plain.TheVariants.{Counted, Ignored, Kept, Yes}

abbrev pub plain_text : Plain → List ℕ
plain_text Counted = codes "counted"
plain_text Ignored = codes "ignored"
plain_text Kept = codes "kept"
plain_text (Yes message) = codes "yes m" ++ decimal message

-- the whole line, with its number
unfoldable pub plain_line : ℕ → Plain → List ℕ
plain_line n line = decimal n ++ codes " " ++ plain_text line ++ codes "\n"

-- what an event's line says, where it is one of few words: that of an acknowledgement which is sent
-- alone, and whose number has 32 bits
abbrev pub plain_did : Did → (first sent : ℕ) → Option Plain
plain_did did.Counted first sent = Some Counted
plain_did did.Ignored first sent = Some Ignored
plain_did did.Kept first sent = Some Kept
plain_did (did.Answered reply.Yes) first sent =
    if (sent == 1) && nat_lt first (2 ^ 32) then Some (Yes first) else None
plain_did _ first sent = None

abbrev pub plain_in : Line → Option Plain
plain_in (Done step) = plain_did step.did step.first step.sent
plain_in (Refused name) = None
