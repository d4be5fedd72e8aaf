-- The values that a chain's links lead to.
use Rattle.std.specs.Prelude.{List, [], ◌∷◌}
use Rattle.la_orset.specs.declared.chain.Link.{Link}
use Rattle.la_orset.specs.declared.chain.Link.TheVariants.{End, More}

-- the values, newest first
abbrev pub items : {T : Type 0} → Link T → List T
items End = []
items (More value below) = value ∷ below.value
