use Rattle.std.proofs.Common.{◌≡◌, List, [], ◌∷◌, Some, sym, subst, ap₂, ◌∙◌, ◌++◌}
use Rattle.la_set.specs.Histories.{Histories, empty}
use Rattle.atomic_table.specs.Table.{opening}
use Rattle.la_shared.specs.Turns.{IsKept, Slot, new_caller}
use Rattle.la_shared.proofs.Keeps.{opens}
use Rattle.la_shared.proofs.table.Core.new.Goals as goal

pub new-requires-2 : goal.new-requires-2
new-requires-2 c =
    let is : c.push.new.self.items ≡ Some empty ∷ [] =
    c.in_ok-push.ensures.items
    ∙ ap₂ (λ (xs : List Slot) (y : Histories). xs ++ Some y ∷ []) c.new-slots.ensures.items c.new.ensures in
    subst (λ (xs : List Slot). IsKept (opening (0 ∷ 0 ∷ 0 ∷ []) xs (new_caller []))) (sym is) opens
