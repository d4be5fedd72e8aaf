use Rattle.std.proofs.Common.{◌∙◌, ◌++◌, ap, sym, map, List, ℕ}
use Rattle.std.specs.Borrow.{Bor}
use Rattle.la_call.specs.Options.{joined_words, spaced_words}
use Rattle.la_call.proofs.reading.joined.Goals as goal

pub returns : goal.returns
returns c =
    c.in_ok-put_spaced.ensures
    ∙ ap (λ (t : List ℕ). t ++ spaced_words (map (λ (w : Bor (List ℕ)). w.now) c.in-Some.rest.now))
    c.in_ok-request.ensures.ok
    ∙ sym (ap (λ (ws : List (Bor (List ℕ))). joined_words (map (λ w. w.now) ws)) c.in-Some.ensures.cases.0)
