use Rattle.std.specs.Prelude.{◌≡◌}
use Rattle.la_runner.specs.Members.{MemberGoesOn}
use Rattle.la_runner.specs.Notes.{doings}
use Rattle.la_runner.proofs.letter.take_all.Given as goal

abbrev pub invariant-loop : goal.invariant-loop
invariant-loop g l = record { goes : MemberGoesOn l.initial.member l.member; same : doings l.member ≡ doings l.initial.member }
