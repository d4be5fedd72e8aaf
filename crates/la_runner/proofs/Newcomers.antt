-- Passes that have seen nothing, one after another.
use Rattle.std.proofs.Common.{◌≡◌, ℕ, suc, ◌+◌, arith, List, [], ◌∷◌, ◌++◌, map, take, Some, ap, sym, ◌∙◌}
use Rattle.std.specs.List.{slice_get}
use Rattle.la_shared.specs.declared.entry.Entry.{Entry}
use Rattle.la_shared.specs.Passes.{Known, AcceptorName, IsNewcomer}
use Rattle.la_runner.specs.Starting.{newcomer}
use Rattle.la_runner.proofs.Fresh.{map_push, take_more}
use Rattle.la_runner.proofs.Keeping.{get_map}

-- a pass that knows no more than a new one
pub newcomer_is : (a : AcceptorName) (seen : List Entry) (k : Known) → seen ≡ [] → IsNewcomer a seen k → k ≡ newcomer a
newcomer_is a seen k none new = λ i. record { acceptor = new.0 i; number = new.3 i; seen = (new.1 ∙ none) i; mine = new.2 i }

one_more : (n : ℕ) → n + 1 ≡ suc n
one_more n = omega arith

-- a pass more
pub newcomers_push : (row : List AcceptorName) (at : ℕ) (a : AcceptorName) (old new : Known) (ks made : List Known)
    → ks ≡ map newcomer row → slice_get row at ≡ Some a → slice_get ks at ≡ Some old → IsNewcomer a old.seen new
    → made ≡ map newcomer (take at row) → made ++ new ∷ [] ≡ map newcomer (take (at + 1) row)
newcomers_push row at a old new ks made firsts here there is made_is =
    let one : Some old ≡ Some (newcomer a) =
    sym there ∙ ap (λ xs. slice_get xs at) firsts ∙ get_map newcomer row at a here in
    let old_is : old ≡ newcomer a = cc in
    let new_is = newcomer_is a old.seen new (ap (λ (k : Known). k.seen) old_is) is in
    (λ i. made_is i ++ new_is i ∷ []) ∙ sym (map_push newcomer (take at row) a)
    ∙ sym (ap (map newcomer) (ap (λ n. take n row) (one_more at) ∙ take_more row at a here))
