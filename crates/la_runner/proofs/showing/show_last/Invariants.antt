use Rattle.std.specs.Prelude.{◌≡◌}
use Rattle.std.specs.List.{AllWithin}
use Rattle.la_runner.specs.Together.{HasSeen, SeesMore}
use Rattle.la_runner.proofs.showing.show_last.Given as goal

abbrev pub invariant-loop-at : goal.invariant-loop-at
invariant-loop-at g l = record {
  same : l.others ≡ l.initial.others;
  more : SeesMore l.initial.last l.last;
  shown : AllWithin (λ x. HasSeen x.member l.last) l.others 0 l.at;
}
