use Rattle.std.proofs.Common.{[], ◌∷◌, length, ap, arith}
use Rattle.std.proofs.lemmas.List.{length-append}
use Rattle.la_set.proofs.algebra.append_reversed.Goals as goal

pub returns-in_err-push-clause-room : goal.returns-in_err-push-clause-room
returns-in_err-push-clause-room c =
    λ none.
    absurd
    (omega (
      arith,
      c.loop-update.invariant.fewer,
      ap length none,
      ap length c.in-Some.ensures.items,
      length-append
          c.pop.new.self.items (c.in-Some.update ∷ []),
    ))
