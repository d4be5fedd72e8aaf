-- What the proofs of upper crates may use of this one: they name no other file of its `proofs`.
pub use Rattle.la_acceptor.proofs.lemmas.Accepting.{on_ok_anyway}
pub use Rattle.la_acceptor.proofs.Replies.{subset-from_yes}
