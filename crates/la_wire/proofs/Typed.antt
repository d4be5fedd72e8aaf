-- What can be had is in the ranges of its types.
use Rattle.std.proofs.Common.{arith}
use Rattle.std.proofs.lemmas.List.Elements.{All-weaker}
use Rattle.la_set.specs.declared.update.UpdateId.{UpdateId}
use Rattle.la_set.specs.declared.update.Update.{Update}
use Rattle.la_set.specs.declared.update.Op.{Op}
use Rattle.la_set.specs.declared.update.Op.TheVariants.{Inc, Dec, Raise, Put, Remove, Mark, Vote}
use Rattle.la_wire.specs.Messages.{WireMessage, WireBody, Offer, Yes, No, Tell}
use Rattle.la_wire.specs.Writable.{IsIdFrom, IsOpFrom, IsUpdateFrom, IsBodyFrom, IsId, IsOp, IsUpdate, IsBody}
use Rattle.la_wire.specs.Writable.{IsMessage, IsTypedMessage}

pub typed-id : (id : UpdateId) → IsId id → IsIdFrom 0 id
typed-id id is = record { replica = is.replica; some = omega arith; number = is.number }

pub typed-op : (op : Op) → IsOp op → IsOpFrom 0 op
typed-op (Inc x) is = is
typed-op (Dec x) is = is
typed-op (Raise x) is = is
typed-op (Put x) is = is
typed-op (Remove tags) is = (is.0, All-weaker IsId (IsIdFrom 0) typed-id tags is.1)
typed-op Mark is = is
typed-op (Vote x sole) is = is

pub typed-update : (u : Update) → IsUpdate u → IsUpdateFrom 0 u
typed-update u is = record { id = typed-id u.id is.id; object = is.object; op = typed-op u.op is.op }

typed-body : (body : WireBody) → IsBody body → IsBodyFrom 0 body
typed-body (Offer base more) is = (is.0, All-weaker IsUpdate (IsUpdateFrom 0) typed-update more is.1)
typed-body Yes is = is
typed-body (No base more) is = (is.0, All-weaker IsUpdate (IsUpdateFrom 0) typed-update more is.1)
typed-body (Tell base more) is = (is.0, All-weaker IsUpdate (IsUpdateFrom 0) typed-update more is.1)

pub typed-message : (m : WireMessage) → IsMessage m → IsTypedMessage m
typed-message m is = record {
  some = omega arith;
  few = omega (arith, is.few);
  from = is.from;
  to = is.to;
  instance = is.instance;
  ballot = is.ballot;
  accepted = is.accepted;
  view = is.view;
  body = typed-body m.body is.body;
}
