-- When two messages say the same, whatever their deltas were made of.
use Rattle.std.specs.Prelude.{◌≡◌}
use Rattle.la_set.specs.Deltas.{DeltaState}
use Rattle.la_replica.specs.declared.message.Message.{Message}
use Rattle.la_replica.specs.declared.message.Body.{Body}
use Rattle.la_replica.specs.declared.message.Body.TheVariants.{Offer, Yes, No, Tell}

abbrev pub AreAlikeDeltas : DeltaState → DeltaState → Type 0
AreAlikeDeltas d e = (d.base ≡ e.base) × (d.more ≡ e.more)

abbrev pub AreAlikeBodies : Body → Body → Type 0
AreAlikeBodies (Offer d) (Offer e) = AreAlikeDeltas d e
AreAlikeBodies Yes Yes = Unit {0}
AreAlikeBodies (No d) (No e) = AreAlikeDeltas d e
AreAlikeBodies (Tell told) (Tell other) = told ≡ other
AreAlikeBodies _ _ = ⊥

pub record AreAlike (m n : Message) : Type 0 where
  pub instance : m.instance ≡ n.instance
  pub from : m.from ≡ n.from
  pub to : m.to ≡ n.to
  pub ballot : m.ballot ≡ n.ballot
  pub body : AreAlikeBodies m.body n.body
