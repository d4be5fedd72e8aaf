-- What stands before an item, as its node keeps it.
use Rattle.std.specs.Prelude.{◌≡◌, ℕ, ◌<◌, List, [], length}
use Rattle.la_set.specs.declared.history.TheConstants.{MAX_LEN}
use Rattle.la_set.specs.declared.history.Back.{Back}
use Rattle.la_set.specs.declared.history.Back.TheVariants.{Nothing, Behind, Jumping}
use Rattle.la_set.specs.Agreement.{StartsWith}

-- how many items are said to stand there
abbrev pub count_before : {T : Type 0} → Back T → ℕ
count_before Nothing = 0
count_before (Behind len prev) = len
count_before (Jumping len prev jump) = len

-- the items
abbrev pub before : {T : Type 0} → Back T → List T
before Nothing = []
before (Behind len prev) = prev.value
before (Jumping len prev jump) = prev.value

-- those to which the jump leads
abbrev pub jumped : {T : Type 0} → Back T → List T
jumped Nothing = []
jumped (Behind len prev) = []
jumped (Jumping len prev jump) = jump.value

-- there are so many items, and not too many for one more, and the jump leads to the first of them
pub record IsBack {T : Type 0} (b : Back T) : Type 0 where
  pub counts : count_before b ≡ length (before b)
  pub front : StartsWith (before b) (jumped b)
  pub few : count_before b < MAX_LEN
