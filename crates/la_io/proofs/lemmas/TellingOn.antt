-- Lines told behind others.
use Rattle.std.proofs.Common.{ℕ, List, [], ◌∷◌, ◌++◌, Option, subst}
use Rattle.la_io.specs.Streams.{TellsAll}

module _ {E : Type 0} (contents : E → Option (List ℕ)) (refuses : E → List ℕ → E → Type 0) where
  pub tells_on : (old mid new : E) (lines more : List (List ℕ)) → TellsAll contents refuses old mid lines
      → TellsAll contents refuses mid new more → TellsAll contents refuses old new (lines ++ more)
  tells_on old mid new [] more before then = subst (λ e. TellsAll contents refuses e new more) before then
  tells_on old mid new (line ∷ lines) more before then =
      (before.0, before.1, tells_on before.0 mid new lines more before.2 then)
