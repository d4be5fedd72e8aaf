use Rattle.std.specs.Prelude.{◌≡◌}
use Rattle.la_runner.proofs.letter.send_all.Given as goal

abbrev pub invariant-loop-outbox : goal.invariant-loop-outbox
invariant-loop-outbox g l = l.member ≡ l.initial.member
