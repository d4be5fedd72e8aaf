-- What is known of the tags of operations of one's own, for whoever writes and reads them.
pub use Rattle.la_own.proofs.Reading.{bytes_of-made}
pub use Rattle.la_own.proofs.Words.{own_tags-fit}
