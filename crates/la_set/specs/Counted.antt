-- A list as it is kept: what leads to it, and its length beside that.
use Rattle.std.specs.Prelude.{◌≡◌, List, [], length}
use Rattle.la_set.specs.declared.history.Counted.{Counted}
use Rattle.la_set.specs.declared.history.Counted.TheVariants.{Empty, Items}

-- its items
abbrev pub counted_items : {T : Type 0} → Counted T → List T
counted_items (Empty len) = []
counted_items (Items len last) = last.value

-- the length is that of the list
abbrev pub IsCounted : {T : Type 0} → Counted T → Type 0
IsCounted (Empty len) = len ≡ 0
IsCounted (Items len last) = len ≡ length last.value
