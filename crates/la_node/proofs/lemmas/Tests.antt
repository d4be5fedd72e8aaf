-- What tests of a parcel decide.
pub use Rattle.la_node.proofs.Deciding.{decides-has_counts, decides-unwraps}
