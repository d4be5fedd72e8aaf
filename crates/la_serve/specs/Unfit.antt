-- What is told of options that do not fit, where `clap` takes each of them.
use Rattle.std.specs.Prelude.{ℕ, List, [], ◌∷◌, ◌++◌, codes}
use Rattle.std.specs.Fmt.{decimal}
use Rattle.la_serve.specs.declared.unfit.Unfit.{Unfit}
use Rattle.la_serve.specs.declared.unfit.Unfit.TheVariants.{Votes, NoVotes, Own, Objects}
use Rattle.la_serve.specs.declared.unfit.UnfitObjects.{UnfitObjects}
use Rattle.la_serve.specs.declared.unfit.UnfitObjects.TheVariants.{NoNumber, NoKind, Twice, TooMany}

-- what is wrong with a text of objects
abbrev pub unfit_objects : UnfitObjects → List ℕ
unfit_objects (NoNumber text) = codes "'" ++ (text.now ++ codes "' is no number from 0 to 65535")
unfit_objects (NoKind text) = codes "'" ++ (text.now ++ codes "' is no kind")
unfit_objects (Twice number) = codes "number " ++ (decimal number ++ codes " stands twice")
unfit_objects TooMany = codes "more than 64"

-- the option, and what is wrong with it
abbrev pub unfit_text : Unfit → List ℕ
unfit_text (Votes counts replicas) =
    codes "--votes: " ++ (decimal counts ++ (codes " counts for " ++ (decimal replicas ++ codes " replicas")))
unfit_text NoVotes = codes "--votes: other than 1 to 8 counts from 1 to 1000"
unfit_text (Own own replicas) = codes "--own: " ++ (decimal own ++ (codes " of " ++ decimal replicas))
unfit_text (Objects why) = codes "--objects: " ++ unfit_objects why

-- the line that tells it
abbrev pub unfit_line : Unfit → List ℕ
unfit_line why = codes "BadConfig: " ++ (unfit_text why ++ 10 ∷ [])
