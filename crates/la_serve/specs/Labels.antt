-- Who speaks, before each line that is told.
use Rattle.std.specs.Prelude.{ℕ, List, [], ◌++◌, codes, Option, Some, None}
use Rattle.std.specs.Fmt.{decimal}

-- which replica it is, where that is known
abbrev pub own_label : Option ℕ → List ℕ
own_label None = []
own_label (Some own) = codes "r" ++ (decimal own ++ codes ": ")

-- the program, and which replica it is
abbrev pub label_of : Option ℕ → List ℕ
label_of own = codes "lattice node: " ++ own_label own

-- the same, where its folder is made
abbrev pub making_label : Option ℕ → List ℕ
making_label own = codes "lattice init: " ++ own_label own
