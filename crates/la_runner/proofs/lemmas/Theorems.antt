-- What the proofs of upper crates may use of this one: they name no other file of its `proofs`.
pub use Rattle.la_runner.proofs.Crossing.{member_send, note_send, group_sync}
