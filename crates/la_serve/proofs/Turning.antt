-- One turn behind others.
use Rattle.std.proofs.Common.{◌≡◌, ℕ, ◌+◌, List, [], ◌∷◌, ◌++◌, length, refl, subst, arith}
use Rattle.la_object.specs.declared.kind.Kind.{Kind}
use Rattle.la_serve.specs.Turns.{Turn, ServerState, IsTurn}
use Rattle.la_serve.specs.Serving.{AreTurns}

pub turns_snoc : (objects : List (ℕ × Kind)) (n : ServerState) (k : ℕ) (turns : List Turn) (m : ServerState)
    (t : Turn)
    → AreTurns objects n k turns m → IsTurn objects m (k + length turns) t
    → AreTurns objects n k (turns ++ t ∷ []) t.after
turns_snoc objects n k [] m t are is =
    let here : k + 0 ≡ k = omega arith in
    (subst (λ j. IsTurn objects n j t) here (subst (λ s. IsTurn objects s (k + 0) t) are is), refl)
turns_snoc objects n k (x ∷ xs) m t are is =
    let next : k + length (x ∷ xs) ≡ k + 1 + length xs = omega arith in
    (are.0, turns_snoc objects x.after (k + 1) xs m t are.1 (subst (λ j. IsTurn objects m j t) next is))

pub turns_join : (objects : List (ℕ × Kind)) (n : ServerState) (k : ℕ) (turns : List Turn) (m : ServerState)
    (more : List Turn) (after : ServerState) → AreTurns objects n k turns m
    → AreTurns objects m (k + length turns) more after → AreTurns objects n k (turns ++ more) after
turns_join objects n k [] m more after are then =
    let here : k + 0 ≡ k = omega arith in
    subst (λ j. AreTurns objects n j more after) here (subst (λ s. AreTurns objects s (k + 0) more after) are then)
turns_join objects n k (x ∷ xs) m more after are then =
    let next : k + length (x ∷ xs) ≡ k + 1 + length xs = omega arith in (
      are.0,
      turns_join objects x.after (k + 1) xs m more after are.1
          (subst (λ j. AreTurns objects m j more after) next then),
    )
