use Rattle.std.proofs.Common.{◌≡◌, ℕ, ◌+◌, ◌<◌, get_or}
use Rattle.la_own.specs.Own.{word_tag, no_tag}
use Rattle.la_own.proofs.own.are_tags_of.Given as goal

abbrev pub invariant-loop-place : goal.invariant-loop-place
invariant-loop-place l = (k : ℕ) → k < l.place → get_or l.tags (k + 1) no_tag ≡ word_tag l.bytes k
