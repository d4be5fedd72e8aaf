use Rattle.std.proofs.Common.{◌≡◌, ◌++◌, ◌+◌, length}
use Rattle.la_wire.specs.Joined.{parted}
use Rattle.la_wire.specs.Updates.{made}
use Rattle.la_wire.specs.MessageLines.{numbers_on, texts_left}
use Rattle.la_wire.proofs.counts.counts_on.Given as goal

abbrev pub invariant-loop-rest : goal.invariant-loop-rest
invariant-loop-rest l = record {
  said : made (λ more. l.numbers.items ++ more) (numbers_on (texts_left l.rest)) ≡ numbers_on (parted 44 l.word);
  many : length l.numbers.items + length (texts_left l.rest) ≡ length (parted 44 l.word);
}

abbrev pub decreases-loop-rest : goal.decreases-loop-rest
decreases-loop-rest l = length (texts_left l.rest)
