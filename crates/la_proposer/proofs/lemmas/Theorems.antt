-- What the proofs of upper crates may use of this one: they name no other file of its `proofs`.
pub use Rattle.la_proposer.proofs.lemmas.Majorities.{majorities_meet}
pub use Rattle.la_proposer.proofs.Proposals.{history-joined, counting_keeps, more_contains, start_is}
pub use Rattle.la_proposer.proofs.Refusing.{joined-contains}
