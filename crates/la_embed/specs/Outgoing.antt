-- What a host has to send, and the bytes of it.
use Rattle.std.specs.Prelude.{ℕ, List}
use Rattle.la_wire.specs.Messages.{letter_message}
use Rattle.la_wire.specs.MessageLines.{message_text, standing_text}
use Rattle.la_wire.specs.Writable.{IsTypedMessage}
use Rattle.la_embed.specs.declared.outgoing.Outgoing.{Outgoing}
use Rattle.la_embed.specs.declared.outgoing.Outgoing.TheVariants as out

-- for which replica it is
abbrev pub receiver : Outgoing → ℕ
receiver (out.Letter letter) = letter.parcel.to
receiver (out.Standing standing) = standing.to

-- its line, without an end
abbrev pub outgoing_text : Outgoing → List ℕ
outgoing_text (out.Letter letter) = message_text (letter_message letter)
outgoing_text (out.Standing standing) = standing_text standing

-- a letter's numbers have the ranges of their types
abbrev pub IsTypedOutgoing : Outgoing → Type 0
IsTypedOutgoing (out.Letter letter) = IsTypedMessage (letter_message letter)
IsTypedOutgoing (out.Standing standing) = Unit {0}
