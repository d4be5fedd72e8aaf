-- What the proofs of upper crates may use of this one.
pub use Rattle.la_script.proofs.Splits.{found_before, found_after}
