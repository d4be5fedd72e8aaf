-- What can be had, and so be written as a line: each number is in the range of its type, an id is an update's, and tags
-- are a set of them.
use Rattle.std.specs.Prelude.{◌≡◌, ℕ, ◌≤◌, length, All}
use Rattle.la_set.specs.declared.update.Op.{Op}
use Rattle.la_set.specs.declared.update.Op.TheVariants.{Inc, Dec, Raise, Put, Remove, Mark, Vote}
use Rattle.la_set.specs.declared.update.UpdateId.{UpdateId}
use Rattle.la_set.specs.declared.update.Update.{Update}
use Rattle.la_set.specs.declared.counts.Counts.{Counts}
use Rattle.la_set.specs.Counts.{count_in}
use Rattle.la_set.specs.Tags.{IsTags}
use Rattle.la_script.specs.Numbers.{u8_max, u16_max, u32_max, u64_max}
use Rattle.la_node.specs.declared.link.Standing.{Standing}
use Rattle.la_object.specs.declared.query.Query.{Query}
use Rattle.la_object.specs.declared.query.Query.TheVariants as query
use Rattle.la_wire.specs.Messages.{WireMessage, WireBody, Offer, Yes, No, Tell}
use Rattle.la_wire.specs.Calls.{WireCall, Submit, Decide, Ask, Tick, Receive, Known}

-- a number from least on
pub record IsIdFrom (least : ℕ) (id : UpdateId) : Type 0 where
  pub replica : id.replica ≤ u8_max
  pub some : least ≤ id.number
  pub number : id.number ≤ u32_max

-- and so in each of its tags
abbrev pub IsOpFrom : (least : ℕ) → Op → Type 0
IsOpFrom least (Inc x) = x ≤ u32_max
IsOpFrom least (Dec x) = x ≤ u32_max
IsOpFrom least (Raise x) = x ≤ u64_max
IsOpFrom least (Put x) = x ≤ u64_max
IsOpFrom least (Remove tags) = IsTags tags × All (IsIdFrom least) tags
IsOpFrom least Mark = Unit {0}
IsOpFrom least (Vote x sole) = x ≤ u64_max

pub record IsUpdateFrom (least : ℕ) (u : Update) : Type 0 where
  pub id : IsIdFrom least u.id
  pub object : u.object ≤ u16_max
  pub op : IsOpFrom least u.op

-- eight numbers
pub record IsCounts (c : Counts) : Type 0 where
  pub eight : length c.of ≡ 8
  pub each : (r : ℕ) → count_in c r ≤ u32_max

abbrev pub IsBodyFrom : (least : ℕ) → WireBody → Type 0
IsBodyFrom least (Offer base more) = IsCounts base × All (IsUpdateFrom least) more
IsBodyFrom least Yes = Unit {0}
IsBodyFrom least (No base more) = IsCounts base × All (IsUpdateFrom least) more
IsBodyFrom least (Tell base more) = IsCounts base × All (IsUpdateFrom least) more

-- a group of a size from least to most, and ids with numbers from least on
pub record IsMessageFrom (least most : ℕ) (m : WireMessage) : Type 0 where
  pub some : least ≤ m.replicas
  pub few : m.replicas ≤ most
  pub from : m.from ≤ u8_max
  pub to : m.to ≤ u8_max
  pub instance : m.instance ≤ u8_max
  pub ballot : m.ballot ≤ u32_max
  pub accepted : IsCounts m.progress.accepted
  pub view : IsCounts m.progress.view
  pub body : IsBodyFrom least m.body

-- ## What has numbers from 1, and a group of at most 8

abbrev pub IsId : UpdateId → Type 0
IsId id = IsIdFrom 1 id

abbrev pub IsOp : Op → Type 0
IsOp op = IsOpFrom 1 op

abbrev pub IsUpdate : Update → Type 0
IsUpdate u = IsUpdateFrom 1 u

abbrev pub IsBody : WireBody → Type 0
IsBody body = IsBodyFrom 1 body

abbrev pub IsMessage : WireMessage → Type 0
IsMessage m = IsMessageFrom 1 8 m

-- ## What the types of a letter give

abbrev pub IsTypedMessage : WireMessage → Type 0
IsTypedMessage m = IsMessageFrom 0 u8_max m

-- ## What a node is called for

pub record IsStanding (s : Standing) : Type 0 where
  pub some : 1 ≤ s.replicas
  pub few : s.replicas ≤ 8
  pub from : s.from ≤ u8_max
  pub to : s.to ≤ u8_max
  pub accepted : IsCounts s.progress.accepted
  pub view : IsCounts s.progress.view
  pub offer : IsCounts s.over.accepted
  pub tell : IsCounts s.over.view

-- no vote, which no node is called for
abbrev pub IsVoteless : Op → Type 0
IsVoteless (Vote x sole) = ⊥
IsVoteless _ = Unit {0}

-- no remove, which names tags
abbrev pub IsTagless : Op → Type 0
IsTagless (Remove tags) = ⊥
IsTagless _ = Unit {0}

abbrev pub IsQuery : Query → Type 0
IsQuery (query.AtLeast x) = x ≤ u64_max
IsQuery (query.Has x) = x ≤ u64_max
IsQuery _ = Unit {0}

abbrev pub IsCall : WireCall → Type 0
IsCall (Submit replica object op) = (replica ≤ u8_max) × (object ≤ u16_max) × IsOp op × IsVoteless op
IsCall (Decide replica commit value) = (replica ≤ u8_max) × (commit ≤ u8_max) × (value ≤ u64_max)
IsCall (Ask replica object query) = (replica ≤ u8_max) × (object ≤ u16_max) × IsQuery query
IsCall Tick = Unit {0}
IsCall (Receive message) = IsMessage message
IsCall (Known standing) = IsStanding standing
