use Rattle.std.proofs.Common.{◌≡◌, drop, map}
use Rattle.la_wire.specs.declared.wrongs.Wanted.TheVariants as wanted
use Rattle.la_wire.specs.Wrongs.{wrong_in}
use Rattle.la_wire.proofs.wrongs.wrong_in.Given as goal

abbrev pub invariant-loop-word : goal.invariant-loop-word
invariant-loop-word l =
    wrong_in l.wanted (map (λ w. w.now) (drop l.word-index l.words)) ≡ wrong_in wanted.Call (map (λ w. w.now) l.words)
