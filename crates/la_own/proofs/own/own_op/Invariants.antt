use Rattle.std.proofs.Common.{◌≡◌, ◌∷◌, map}
use Rattle.std.specs.List.{range_with_len}
use Rattle.la_own.specs.Own.{length_tag, word_tag}
use Rattle.la_own.proofs.own.own_op.Given as goal

abbrev pub invariant-loop-place : goal.invariant-loop-place
invariant-loop-place l = l.tags ≡ length_tag l.bytes ∷ map (word_tag l.bytes) (range_with_len 0 l.place)
