-- What the proofs of upper crates may use of this one: they name no other file of its `proofs`.
pub use Rattle.la_shared.proofs.Acknowledgements.{has-left, has-right, has-cases, has-prefix, entry_stands, owns-has, yes_comparable, later_contains}
pub use Rattle.la_shared.proofs.Histories.{prefix_self}
pub use Rattle.la_shared.proofs.Crossing.{set_send, set_sync, pass_send, note_send, acceptor_sync}
pub use Rattle.la_shared.proofs.Bases.{refusal_contains}
