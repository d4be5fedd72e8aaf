-- What letters say: of a delta its base and its updates, whatever it was made of.
use Rattle.std.specs.Prelude.{ℕ, List}
use Rattle.la_set.specs.declared.update.Update.{Update}
use Rattle.la_set.specs.declared.counts.Counts.{Counts}
use Rattle.la_set.specs.Deltas.{DeltaState}
use Rattle.la_replica.specs.declared.parcel.Content.{Content}
use Rattle.la_replica.specs.declared.parcel.Content.TheVariants as content
use Rattle.la_replica.specs.declared.progress.Progress.{Progress}
use Rattle.la_node.specs.declared.link.Letter.{Letter}

pub data WireBody : Type 0 where
  -- over a base, these updates beyond it are offered
  Offer : Counts → List Update → WireBody
  -- the offer is acknowledged
  Yes : WireBody
  -- it is refused, and this is accepted now
  No : Counts → List Update → WireBody
  -- a set was learnt: over a base, these updates beyond it
  Tell : Counts → List Update → WireBody

-- a message of a group
pub record WireMessage : Type 0 where
  -- how many replicas the group has
  pub replicas : ℕ
  -- who sends it
  pub from : ℕ
  -- and to whom
  pub to : ℕ
  pub instance : ℕ
  -- the ballot's number
  pub ballot : ℕ
  -- how far its sender is
  pub progress : Progress
  pub body : WireBody

-- what a delta says
abbrev pub said_delta : DeltaState → Counts × List Update
said_delta d = (d.base, d.more)

abbrev pub said_content : Content → WireBody
said_content (content.Offer d) = Offer d.base d.more
said_content content.Yes = Yes
said_content (content.No d) = No d.base d.more
said_content (content.Tell d) = Tell d.base d.more

-- what a letter says
abbrev pub letter_message : Letter → WireMessage
letter_message l = record {
  replicas = l.replicas;
  from = l.parcel.from;
  to = l.parcel.to;
  instance = l.parcel.instance;
  ballot = l.parcel.ballot;
  progress = l.progress;
  body = said_content l.parcel.content;
}
