use Rattle.la_shared.proofs.Histories.{prefixes_compare}
use Rattle.la_shared.proofs.Acknowledgements.{has-prefix, owns-has, extended_has, extended_grows}
use Rattle.la_shared.proofs.laws.what_was_seen_stays.Goals as goal

pub returns : goal.returns
returns c = record {
  grows = extended_grows;
  answered = extended_has;
  entries = λ history longer set reply. has-prefix history longer set reply;
  own = λ pass set reply is. owns-has pass.number pass.seen pass.mine set reply is.1;
  beginnings = prefixes_compare;
}
