-- What the proofs of upper crates may use of this one: they name no other file of its `proofs`.
pub use Rattle.la_set.proofs.lemmas.Inclusions.{subset-refl, subset-trans, subset-antisym}
pub use Rattle.la_set.proofs.lemmas.Inclusions.{object_op-contains, contains-object_op}
pub use Rattle.la_set.proofs.lemmas.Decisions.{has_update-Decides}
pub use Rattle.la_set.proofs.lemmas.Joins.{contains-join_cases, contains-join, subset-join_left}
pub use Rattle.la_set.proofs.lemmas.SetHistories.{history-with_same, history-with_other}
pub use Rattle.la_set.proofs.Rebuilding.{rebuilt-over, stands-over, same-within}
pub use Rattle.la_set.proofs.Rebuilding.{rebuilt-within, within-zero, min_counts, common, within-common}
