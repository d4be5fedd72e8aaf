use Rattle.la_replica.proofs.lemmas.Rebasing.{over_received, over_fits, over_stands, over_agrees, over_refused}
use Rattle.la_replica.proofs.lemmas.Rebasing.{receivable_one}
use Rattle.la_replica.proofs.laws.any_base_is_received_alike.Goals as goal

pub returns : goal.returns
returns c = record {
  received = over_received;
  fits = over_fits;
  stands = over_stands;
  agrees = over_agrees;
  refused = over_refused;
  one = receivable_one;
}
